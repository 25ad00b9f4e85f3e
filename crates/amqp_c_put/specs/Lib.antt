-- The definitions of amqp_c_put.
pub mod Headers
pub mod Reports
