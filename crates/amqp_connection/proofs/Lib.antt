-- The lemmas of amqp_connection.
pub mod EqualConnection
pub mod EqualAccess
