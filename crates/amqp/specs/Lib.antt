-- The definitions that contracts of callers cite, passed on. The others stand in the
-- crates' own specs.
pub use Rattle.amqp_types.specs.Levels
pub use Rattle.amqp_types.specs.Judging
pub use Rattle.amqp_types.specs.Answers
pub use Rattle.amqp_types.specs.Writing
pub use Rattle.amqp_types.specs.Values
pub use Rattle.amqp_types.specs.Slots
pub use Rattle.amqp_types.specs.SlotBytes
pub use Rattle.amqp_types.specs.Rows
pub use Rattle.amqp_types.specs.Methods
pub use Rattle.amqp_types.specs.Properties
pub use Rattle.amqp_types.specs.ContentHeaders
pub use Rattle.amqp_properties.specs.Options
pub use Rattle.amqp_protocol.specs.Classes
pub use Rattle.amqp_protocol.specs.ErrorCodes
pub use Rattle.amqp_protocol.specs.Logins
pub use Rattle.amqp_wire.specs.Canonical
pub use Rattle.amqp_wire.specs.Spelling
pub use Rattle.amqp_wire.specs.Verdicts
pub use Rattle.amqp_frame.specs.Frames
pub use Rattle.amqp_messages.specs.Messages
pub use Rattle.amqp_content.specs.Outcomes
pub use Rattle.amqp_messages.specs.Splits
pub use Rattle.amqp_names.specs.Naming
pub use Rattle.amqp_names.specs.Names
pub use Rattle.amqp_names.specs.Tables
