-- The definitions of amqp_canonical.
pub mod Judgements
pub mod CanonicalLaws
pub mod Shapes
pub mod SlotJudgements
pub mod Writes
pub mod Leads
pub mod Marks
pub mod Payloads
pub mod CanonicalValues
pub mod Places
pub mod WritingLaws
