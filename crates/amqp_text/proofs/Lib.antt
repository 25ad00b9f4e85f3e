-- The lemmas of amqp_text.
pub mod Generated
pub mod OneLine
