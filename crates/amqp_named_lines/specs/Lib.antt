-- The definitions of amqp_named_lines.
pub mod NamedLines
pub mod Laws
