-- The definitions of amqp_filter.
pub use Rattle.amqp_turns.specs.InTurn
pub mod Kept
pub mod Held
pub mod Stepping
pub mod Filtering
pub mod Laws
