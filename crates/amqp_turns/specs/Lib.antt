-- The definitions of amqp_turns.
pub mod Faults
pub mod Units
pub mod Answers
pub mod Stands
pub mod LastEntry
pub mod Lent
pub mod Marks
pub mod Steps
pub mod InTurn
pub mod ByChannel
pub mod Messages
pub mod Outcomes
pub mod Sequences
pub mod Splits
pub mod Outlined
pub mod Laws
