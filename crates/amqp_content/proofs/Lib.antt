-- The lemmas of amqp_content.
pub mod Telling
pub mod SplitAndBack
pub mod Apart
pub mod Entries
pub mod Counting
