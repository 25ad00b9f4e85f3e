-- What a writer writes for frames, one after another.
use Rattle.std.specs.Prelude.{ℕ, Bool, List, [], ◌∷◌, ◌++◌, Option, Some, None, Result, Ok, Err}
use Rattle.amqp_types.specs.Levels.{Level}
use Rattle.amqp_wire.specs.declared.frame_type.AMQPFrameType.{AMQPFrameType}
use Rattle.amqp_wire.specs.Frames.{Frame}

-- How a writer writes. It reads frames at a level. A step gives the bytes for a frame and the next
-- state, or why the frame is refused.
-- A stream may not end in some states, and `end` says why. Memory may run out at frames of the
-- types in `wants`. After a frame that a compact writer takes, at most as many bytes more are
-- pending as the frame has.
pub record Manner (S E : Type 0) : Type 0 where
  pub level : Level
  pub step : S → Frame → Result (List ℕ × S) E
  pub end : S → Option E
  pub wants : AMQPFrameType → Bool
  pub compact : Bool

-- what is written from a step on, by what is written from the next state on
abbrev pub text_at : {S E : Type 0} → Result (List ℕ × S) E → (S → List ℕ) → List ℕ
text_at (Ok stepped) next = stepped.0 ++ next stepped.1
text_at (Err why) next = []

-- what is written for the frames from this state on, up to the first that is refused
unfoldable pub text : {S E : Type 0} → Manner S E → S → List Frame → List ℕ
text w s [] = []
text w s (f ∷ fs) = text_at (w.step s f) (λ t. text w t fs)

-- why a frame is refused from a step on, by why one is from the next state on
abbrev pub refused_at : {S E : Type 0} → Result (List ℕ × S) E → (S → Option E) → Option E
refused_at (Ok stepped) next = next stepped.1
refused_at (Err why) next = Some why

-- why the first frame that is refused is, if one is
unfoldable pub refused : {S E : Type 0} → Manner S E → S → List Frame → Option E
refused w s [] = None
refused w s (f ∷ fs) = refused_at (w.step s f) (λ t. refused w t fs)

-- the state after a step and what follows it; a refused step leaves the state
abbrev pub state_at : {S E : Type 0} → S → Result (List ℕ × S) E → (S → S) → S
state_at s (Ok stepped) next = next stepped.1
state_at s (Err why) next = s

-- the state after the frames, up to the first that is refused
unfoldable pub state : {S E : Type 0} → Manner S E → S → List Frame → S
state w s [] = s
state w s (f ∷ fs) = state_at s (w.step s f) (λ t. state w t fs)
