-- The definitions of amqp_names.
pub mod Naming
pub mod Kinds
pub mod Names
pub mod Tables
pub mod Laws
