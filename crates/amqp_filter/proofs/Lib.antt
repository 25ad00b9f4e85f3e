-- The lemmas of amqp_filter.
pub mod Channels
pub mod Running
pub mod Stepping
pub mod LawsStates
pub mod LawsUnits
pub mod LawsMessages
pub mod LawsSelect
