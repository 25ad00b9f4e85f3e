-- A step of the writer that counts.
use Rattle.std.proofs.Common.{◌≡◌, ◌+◌, min, ℕ, Ok, ap, sym}
use Rattle.amqp_wire.specs.Frames.{Frame}
use Rattle.amqp_wire.specs.Canonical.{canon}
use Rattle.amqp_stream.specs.Ends.{last}
use Rattle.amqp_vectors_streams.specs.declared.counting.Counting.{Counting}
use Rattle.amqp_vectors_streams.specs.Counting.{counting}

-- The writer that counts writes each frame as it is, and counts one more, up to the greatest number.
pub counts : (s : Counting) (frames : ℕ) → frames ≡ min (s.frames + 1) last → (f : Frame) → counting.step s f ≡ Ok (canon f, record s { frames = frames })
counts s frames stands f = ap (λ n. Ok (canon f, record s { frames = n })) (sym stands)
