-- The lemmas of amqp_properties.
pub mod AllProperties
pub mod Sizes
pub mod Chained
pub mod Holding
pub mod EqualProperties
pub mod EqualHeaders
