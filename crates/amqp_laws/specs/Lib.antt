-- The definitions of amqp_laws.
pub mod HeldMethods
