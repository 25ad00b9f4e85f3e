-- The lemmas of amqp_put_laws.
mod Generated
mod FieldsRead
