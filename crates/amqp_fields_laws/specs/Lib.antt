-- The definitions of amqp_fields_laws.
pub mod SameNodes
pub mod WrittenAgain
pub mod RoundTrips
