-- The definitions of amqp_vectors_frames.
pub mod Answering
