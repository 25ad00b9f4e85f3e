-- The lemmas of amqp_fields_write.
pub mod Names
pub mod Combined
pub mod ValuesMade
pub mod FieldsMade
pub mod FramesMade
pub mod MadeOfParts
pub mod SignedNumbers
pub mod PropertiesMade
pub mod Quick
pub mod QuickFrames
pub mod Ordered
pub mod MeantValuesMade
pub mod MeantFieldsMade
pub mod MeantFramesMade
pub mod Encoding
