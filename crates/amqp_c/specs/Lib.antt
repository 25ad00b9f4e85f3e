-- The definitions of amqp_c.
pub mod Scans
pub mod Checks
pub mod Statuses
pub mod Versions
pub mod Rewriting
pub mod InPlace
pub mod FrameLines
pub mod Fields
pub mod Batches
pub mod Names
pub mod Turns
pub mod Rules
pub mod Recutting
pub mod Making
