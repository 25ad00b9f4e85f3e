-- The lemmas of amqp_channel.
pub mod EqualChannel
pub mod EqualTx
pub mod EqualConfirm
