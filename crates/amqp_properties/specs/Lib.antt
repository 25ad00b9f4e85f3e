-- The definitions of amqp_properties.
pub mod Options
pub mod Headers
pub mod OptionalFields
pub mod HeldOptions
