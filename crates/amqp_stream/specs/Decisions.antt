-- What a writer decides of a frame before anything is written for it.
use Rattle.std.specs.Prelude.{◌≡◌, ℕ, Bool, false, List, [], Option, Some}
use Rattle.std.specs.Prelude.{None, Result, Ok, Err, IsTrue}
use Rattle.amqp_wire.specs.declared.judging.FrameJudgement.{FrameJudgement}
use Rattle.amqp_wire.specs.Frames.{Raw}
use Rattle.amqp_wire.specs.Canonical.{canon}
use Rattle.amqp_wire.specs.Judgements.{IsJudged}
use Rattle.amqp_wire.specs.Verdicts.{decode_raw}
use Rattle.amqp_stream.specs.declared.decision.Decision.{Decision}
use Rattle.amqp_stream.specs.declared.decision.Decision.TheVariants as decisions
use Rattle.amqp_stream.specs.declared.errors.RunError.{RunError}
use Rattle.amqp_stream.specs.Buffers.{Adds}
use Rattle.amqp_stream.specs.Ends.{Store}
use Rattle.amqp_stream.specs.Steps.{Manner}
use Rattle.amqp_stream.specs.Streaming.{IsStep, WritesBy, error_ending}

-- the frame's own bytes are what is written for it
abbrev pub stands : {E : Type 0} → Result (Option Decision) E → Bool
stands (Ok (Some (decisions.Kept judged))) = judged.canonical
stands (Ok (Some decisions.Dropped)) = false
stands (Ok None) = false
stands (Err error) = false

-- a frame that is kept was judged
abbrev pub IsDecided : Raw → Decision → Type 0
IsDecided raw (decisions.Kept judged) = IsJudged raw judged
IsDecided raw decisions.Dropped = Unit {0}

-- what was decided of a frame is put after the pending bytes
abbrev pub PutsDecided : Raw → List ℕ → List ℕ → Decision → Type 0
PutsDecided raw before after (decisions.Kept judged) = Adds before after (decode_raw raw) (Ok tt)
PutsDecided raw before after decisions.Dropped = after ≡ before

-- A frame for which a compact writer writes its canonical bytes, judged so.
pub record IsKept {S E : Type 0} (w : Manner S E) (s t : S)
    (raw : Raw) (judged : FrameJudgement) : Type 0 where
  pub is_judged : IsJudged raw judged
  pub step : IsStep w s t raw (canon is_judged.frame)
  pub compact : IsTrue w.compact

-- A frame for which it writes nothing.
pub record IsDropped {S E : Type 0} (w : Manner S E) (s t : S) (raw : Raw) : Type 0 where
  pub step : IsStep w s t raw []
  pub compact : IsTrue w.compact

-- a frame that was taken before anything was written for it
abbrev pub TakesTo : {S E : Type 0} → Manner S E → S → S → Raw → Decision → Type 0
TakesTo w s t raw (decisions.Kept judged) = IsKept w s t raw judged
TakesTo w s t raw decisions.Dropped = IsDropped w s t raw

-- a frame that was not: nothing more is written or pending, whatever was
abbrev pub RefusesTo : {S E : Type 0} → Manner S E → S → S → Raw → RunError E → Type 0
RefusesTo w s t raw error =
    (store : Store) (pending : List ℕ)
    → WritesBy w s t raw store store pending pending (error_ending error)

-- what a writer decides of a frame, or why it does not take it
abbrev pub DecidesBy : {S E : Type 0} → Manner S E → S
    → S → Raw → Result Decision (RunError E) → Type 0
DecidesBy w s t raw (Ok decision) = TakesTo w s t raw decision
DecidesBy w s t raw (Err error) = RefusesTo w s t raw error

-- The same of a writer that may leave a frame, and then nothing changes.
abbrev pub PassesBy : {S E : Type 0} → Manner S E → S → S
    → Raw → Result (Option Decision) (RunError E) → Type 0
PassesBy w s t raw (Ok (Some decision)) = TakesTo w s t raw decision
PassesBy w s t raw (Ok None) = t ≡ s
PassesBy w s t raw (Err error) = RefusesTo w s t raw error
