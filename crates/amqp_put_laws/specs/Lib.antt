-- The definitions of amqp_put_laws.
pub mod PutLaws
