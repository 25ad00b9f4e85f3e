-- The definitions of amqp_exchange.
pub mod Exchange
