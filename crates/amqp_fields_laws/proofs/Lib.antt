-- The lemmas of amqp_fields_laws.
mod SameNodes
mod HeadsTold
mod Twins
mod Values
mod Fields
mod Payloads
mod Frames
mod FramesAgain
