-- The lemmas of amqp_vectors_frames.
pub mod Due
