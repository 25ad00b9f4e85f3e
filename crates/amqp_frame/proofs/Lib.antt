-- The lemmas of amqp_frame.
pub mod EqualFrames
pub mod Within
