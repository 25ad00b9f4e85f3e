-- The proofs of amqp_names.
pub mod Found
