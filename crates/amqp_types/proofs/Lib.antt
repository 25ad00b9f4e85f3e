-- The lemmas of amqp_types.
pub mod Bytes
pub mod Exact
pub mod Judged
pub mod Took
pub mod Sequences
pub mod Numbers
pub mod Texts
pub mod Booleans
pub mod WrittenParts
pub mod Puts
pub mod FlagBytes
pub mod FormLaws
pub mod Lawful
pub mod Deciding
pub mod Numerals
