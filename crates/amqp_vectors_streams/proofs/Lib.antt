-- The lemmas of amqp_vectors_streams.
pub mod Counted
pub mod Forwarded
