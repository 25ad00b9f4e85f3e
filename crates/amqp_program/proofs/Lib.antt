-- The lemmas of amqp_program.
pub mod TextReading
pub mod HexRuns
pub mod HexApart
pub mod Ran
pub mod Selections
pub mod Statuses
pub mod Forms
pub mod ArgumentFaults
pub mod RuleParts
pub mod Reporting
pub mod Numerals
pub mod MakeRuns
