-- The definitions of amqp_values.
pub mod Views
pub mod Falls
pub mod Sameness
pub mod Counts
pub mod Fields
pub mod MethodFields
pub use Rattle.amqp_laws.specs.HeldMethods
