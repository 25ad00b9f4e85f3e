-- The definitions of amqp_select.
pub mod Rules
pub mod Reading
pub mod Refusals
pub mod Matching
pub mod Covering
pub mod Laws
pub mod Selecting
