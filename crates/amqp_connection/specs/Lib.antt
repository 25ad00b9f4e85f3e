-- The definitions of amqp_connection.
pub mod Access
pub mod Connection
