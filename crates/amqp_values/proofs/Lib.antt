-- The lemmas of amqp_values.
pub mod Pairs
pub mod Parts
pub mod Walk
pub mod InFront
pub mod Deciding
pub mod Steps
pub mod FieldLists
pub mod Holding
pub mod OneMethod
