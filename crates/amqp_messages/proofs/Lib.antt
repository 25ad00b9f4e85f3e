-- The lemmas of amqp_messages.
pub mod EqualMessages
pub mod EqualOutcomes
