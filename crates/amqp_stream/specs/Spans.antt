-- The bytes that lie between two places of a buffer.
use Rattle.std.specs.Prelude.{ℕ, ◌-◌, ◌≤◌, List, take, drop}
use Rattle.amqp_stream.specs.declared.buffer.Span.{Span}

-- both places lie in the buffer, in order
pub record IsSpan (span : Span) (len : ℕ) : Type 0 where
  pub ordered : span.start ≤ span.end
  pub within : span.end ≤ len

-- the bytes between them
abbrev pub held_in : List ℕ → Span → List ℕ
held_in buf span = take (span.end - span.start) (drop span.start buf)
