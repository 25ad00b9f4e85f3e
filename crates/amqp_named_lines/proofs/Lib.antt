-- The lemmas of amqp_named_lines.
pub mod Named
pub mod ClassNames
