-- The definitions of amqp_text, and those of amqp_lines that are passed on.
pub mod OneLine
pub use Rattle.amqp_lines.specs.Words
pub use Rattle.amqp_lines.specs.Values
pub use Rattle.amqp_lines.specs.Slots
pub use Rattle.amqp_lines.specs.Rendering
pub use Rattle.amqp_lines.specs.Lines
pub use Rattle.amqp_lines.specs.Payloads
pub use Rattle.amqp_lines.specs.LineTexts
pub use Rattle.amqp_lines.specs.Dumping
pub use Rattle.amqp_lines.specs.Undumping
pub use Rattle.amqp_lines.specs.Laws
pub use Rattle.amqp_lines.specs.UndumpLaws
pub use Rattle.amqp_lines.specs.Errors
pub use Rattle.amqp_lines.specs.Reading
pub use Rattle.amqp_lines.specs.LineReading
