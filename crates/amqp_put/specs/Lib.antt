-- The definitions of amqp_put.
pub mod Flaws
pub mod Fields
pub mod Made
pub mod Tables
pub mod Properties
pub mod Headers
pub mod MadeFrames
pub mod MadeLaws
pub mod Refusals
pub mod Sizes
