-- The definitions of amqp_protocol.
pub mod Classes
pub mod ErrorCodes
pub mod Logins
pub mod ProtocolLaws
