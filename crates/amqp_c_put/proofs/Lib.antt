-- The lemmas of amqp_c_put.
pub mod HeadersMasked
