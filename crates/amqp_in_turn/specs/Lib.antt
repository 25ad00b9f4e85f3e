-- The definitions of amqp_in_turn.
pub use Rattle.amqp_turns.specs.InTurn
pub mod Errors
pub mod RunsInTurn
pub mod Reports
pub mod Judging
pub mod Ending
pub mod Lent
