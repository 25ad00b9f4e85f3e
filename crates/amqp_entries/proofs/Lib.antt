-- The lemmas of amqp_entries.
pub mod Holding
pub mod Reading
pub mod Flawless
pub mod Finding
pub mod Nesting
pub mod Appended
pub mod Room
pub mod KeysInOrder
pub mod PlainValues
pub mod Sizes
