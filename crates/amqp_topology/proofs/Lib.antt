-- The lemmas of amqp_topology.
pub mod EqualMethods
