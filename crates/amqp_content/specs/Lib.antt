-- The definitions of amqp_content, and those of amqp_messages and amqp_turns that are passed on.
pub use Rattle.amqp_turns.specs.Faults
pub use Rattle.amqp_turns.specs.Units
pub use Rattle.amqp_turns.specs.Answers
pub use Rattle.amqp_turns.specs.Stands
pub use Rattle.amqp_turns.specs.LastEntry
pub use Rattle.amqp_turns.specs.Lent
pub use Rattle.amqp_turns.specs.Marks
pub use Rattle.amqp_turns.specs.Steps
pub use Rattle.amqp_messages.specs.Messages
pub mod Outcomes
pub mod Memory
pub mod Bounds
pub use Rattle.amqp_turns.specs.Sequences
pub use Rattle.amqp_messages.specs.Splits
pub mod Laws
