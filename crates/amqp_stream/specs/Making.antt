-- What a source that makes frames has left: the bytes between two places of one frame, and the
-- frames from the next on.
use Rattle.std.specs.Prelude.{◌≡◌, ℕ, ◌-◌, ◌≤◌, List, ◌++◌, length}
use Rattle.amqp_stream.specs.declared.buffer.Span.{Span}
use Rattle.amqp_stream.specs.Spans.{IsSpan, held_in}
use Rattle.amqp_stream.specs.Made.{most_frames, made_from}

-- the places lie in a buffer for the longest frame, and no more frames are left than there are
pub record IsMaking (frame : List ℕ) (span : Span) (next frames : ℕ) : Type 0 where
  pub is_span : IsSpan span (length frame)
  pub len : length frame ≡ 28
  pub ordered : next ≤ frames
  pub few : frames ≤ most_frames

-- the bytes that are left
abbrev pub left_in : List ℕ → Span → ℕ → ℕ → List ℕ
left_in frame span next frames = held_in frame span ++ made_from next (frames - next)
