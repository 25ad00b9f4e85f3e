-- The definitions of amqp_entries.
pub mod Flaws
pub mod Contents
pub mod Written
pub mod Found
pub mod Plain
pub mod Appending
pub mod Laws
pub mod Sizes
pub mod Ascending
