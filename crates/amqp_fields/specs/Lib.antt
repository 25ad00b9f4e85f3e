-- The definitions of amqp_fields.
pub mod Nodes
pub mod Kinds
pub mod Meaning
pub mod Listing
pub mod Listed
pub mod Counting
pub mod Finding
pub mod Decoding
pub mod Reading
pub mod Spans
pub mod Laws
pub mod Contents
pub mod Heads
pub mod Frames
pub mod Framing
