-- The definitions of amqp_fields_write.
pub mod Made
pub mod MadeFields
pub mod MadeFrames
pub mod Makes
pub mod Quick
pub mod Making
pub mod Meant
pub mod Canonical
pub mod WritingLaws
