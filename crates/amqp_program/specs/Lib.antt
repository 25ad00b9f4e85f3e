-- The definitions of amqp_program.
pub mod Commands
pub mod Texts
pub mod Reports
pub mod Runs
pub mod Makes
pub mod Outcomes
pub mod Arguments
pub mod HexPlaces
pub mod Reporting
pub mod HexLaws
