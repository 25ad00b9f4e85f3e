-- The lemmas of amqp_in_turn.
pub mod RunsInTurn
pub mod Reporting
pub mod Least
pub mod Keeping
pub mod Judging
pub mod Lent
pub mod Alone
pub mod Placing
