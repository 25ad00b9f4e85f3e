-- The definitions of amqp_lines.
pub mod Words
pub mod Values
pub mod Slots
pub mod Rendering
pub mod Lines
pub mod Payloads
pub mod LineTexts
pub mod OneLine
pub mod Dumping
pub mod Undumping
pub mod Laws
pub mod UndumpLaws
pub mod Errors
pub mod Reading
pub mod UndumpReports
pub mod LineReading
