-- The definitions of amqp_statuses.
pub mod Statuses
