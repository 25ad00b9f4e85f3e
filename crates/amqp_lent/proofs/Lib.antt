-- The lemmas of amqp_lent.
pub mod Rereading
pub mod Finding
pub mod Standing
pub mod Same
pub mod EqualFrames
