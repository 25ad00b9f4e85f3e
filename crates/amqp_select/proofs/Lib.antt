-- The lemmas of amqp_select.
pub mod Numerals
pub mod Words
pub mod Reading
pub mod Covered
pub mod Uncovered
pub mod Selected
pub mod EqualRules
