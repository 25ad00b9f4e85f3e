-- The definitions of amqp_lent.
pub mod Views
pub mod Sameness
pub mod Finding
pub use Rattle.amqp_canonical.specs.Payloads
pub mod Frames
pub mod Errors
