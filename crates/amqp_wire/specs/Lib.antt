-- The definitions of amqp_wire.
pub mod Frames
pub mod Channels
pub mod Display
pub mod HeaderScan
pub mod Looks
pub mod Verdicts
pub mod Spelling
pub mod Canonical
pub mod Outlines
pub mod Fronts
pub mod Laws
pub mod Rewrites
pub mod Judgements
