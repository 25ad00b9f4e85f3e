-- The lemmas of amqp_protocol.
pub mod Codes
pub mod PlainLogins
pub mod EqualClasses
