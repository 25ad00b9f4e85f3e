-- The definitions of amqp_messages.
pub mod Messages
pub mod Splits
pub mod Outcomes
