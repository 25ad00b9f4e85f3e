-- The definitions of amqp_channel.
pub mod Channel
pub mod Confirm
pub mod Tx
