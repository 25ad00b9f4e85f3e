-- The lemmas of amqp_basic.
pub mod EqualMethods
pub mod Padded
