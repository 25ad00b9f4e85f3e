-- Manners of writing.
use Rattle.std.specs.Prelude.{Bool, true, false, List, ℕ, None, Ok}
use Rattle.amqp_types.specs.Levels.{Level}
use Rattle.amqp_wire.specs.Canonical.{canon}
use Rattle.amqp_wire.specs.Frames.{Frame}
use Rattle.amqp_stream.specs.Steps.{Manner}

-- At this level, bytes for each frame by itself. No frame is refused, the stream may end anywhere,
-- and memory never runs out.
abbrev pub mapping : {S E : Type 0} → Level → (S → Frame → List ℕ) → Bool → Manner S E
mapping level bytes_of compact = record {
  level = level;
  step = λ s f. Ok (bytes_of s f, s);
  end = λ s. None;
  wants = λ kind. false;
  compact = compact;
}

-- at this level, the canonical bytes of each frame
abbrev pub canonical_at : {S E : Type 0} → Level → Manner S E
canonical_at level = mapping level (λ s f. canon f) true
