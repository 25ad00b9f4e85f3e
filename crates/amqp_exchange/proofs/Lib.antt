-- The lemmas of amqp_exchange.
pub mod EqualMethods
