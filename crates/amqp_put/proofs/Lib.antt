-- The lemmas of amqp_put.
pub mod Making
pub mod Masks
pub mod HeadersMade
pub mod OtherFrames
pub mod HeaderFlaws
pub mod MadeLaws
pub mod SizesAdded
