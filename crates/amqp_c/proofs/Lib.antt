-- The lemmas of amqp_c.
pub mod Entries
pub mod Feeding
pub mod FrameLines
pub mod NodesGiven
pub mod Fronts
pub mod InPlace
pub mod Needed
pub mod Summaries
pub mod EqualResults
pub mod BatchGiven
pub mod KindsPut
pub mod StateNumbers
pub mod RuleNumbers
pub mod BodiesCut
pub mod Reported
