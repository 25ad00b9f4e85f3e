-- The definitions of amqp_frame, and those of amqp_wire that are passed on.
pub mod Frames
pub use Rattle.amqp_wire.specs.Channels
pub use Rattle.amqp_wire.specs.Display
pub use Rattle.amqp_wire.specs.HeaderScan
pub use Rattle.amqp_wire.specs.Looks
pub use Rattle.amqp_wire.specs.Verdicts
pub use Rattle.amqp_wire.specs.Spelling
pub use Rattle.amqp_wire.specs.Canonical
pub use Rattle.amqp_wire.specs.Outlines
pub use Rattle.amqp_wire.specs.Fronts
pub use Rattle.amqp_wire.specs.Laws
pub use Rattle.amqp_wire.specs.Rewrites
pub use Rattle.amqp_wire.specs.Judgements
