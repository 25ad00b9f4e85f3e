-- The definitions of amqp_recut.
pub use Rattle.amqp_turns.specs.InTurn
pub mod Cuts
pub mod Held
pub mod Stepping
pub mod Recutting
pub mod Laws
