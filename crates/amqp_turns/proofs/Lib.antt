-- The lemmas of amqp_turns.
pub mod Moving
pub mod Running
pub mod Tracking
pub mod Telling
pub mod Pieces
pub mod WholeMessages
pub mod Apart
pub mod Turns
pub mod Messages
pub mod Errors
pub mod Entries
pub mod LastEntry
pub mod Holding
pub mod Outlined
