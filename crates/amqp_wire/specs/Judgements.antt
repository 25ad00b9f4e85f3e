-- What decoding a whole payload without memory returns.
use Rattle.std.specs.Prelude.{◌≡◌, ◌≢◌, ℕ, Bool, List, Result, Ok, Err}
use Rattle.std.specs.Str.{bytes_eq}
use Rattle.amqp_types.specs.Levels.{tidy, strict}
use Rattle.amqp_types.specs.Judging.{Judge}
use Rattle.amqp_types.specs.Answers.{RefusesWhole}
use Rattle.amqp_types.specs.declared.errors.ParserError.{ParserError}
use Rattle.amqp_types.specs.declared.errors.ParserError.TheVariants as errors
use Rattle.amqp_wire.specs.declared.judging.FrameJudgement.{FrameJudgement}
use Rattle.amqp_wire.specs.Frames.{Frame, Raw}
use Rattle.amqp_wire.specs.Verdicts.{IsPayloadError, all_of, is_at, decode_raw}

-- the faults of a whole payload: none is of the frame around it or incomplete, and
-- memory never runs out
abbrev pub IsPayloadFault : ParserError → Type 0
IsPayloadFault error = IsPayloadError error × (error ≢ errors.NoMemory)

-- The payload encodes a thing, and it is said exactly whether it is its canonical bytes, and
-- whether it is tidy.
pub record IsAll {A : Type 0} (judge : Judge A) (canonical : A → List ℕ)
    (is_tidy : List ℕ → Bool) (payload : List ℕ) (judgement : FrameJudgement) : Type 0 where
  pub thing : A
  pub is : all_of judge payload ≡ Ok thing
  pub canonical_is : judgement.canonical ≡ bytes_eq payload (canonical thing)
  pub tidy_is : judgement.tidy ≡ is_tidy payload

-- a payload decoded whole, or its fault
abbrev pub JudgesAll : {A : Type 0} → Judge A → (A → List ℕ)
    → (List ℕ → Bool) → List ℕ → Result FrameJudgement ParserError → Type 0
JudgesAll judge canonical is_tidy payload (Ok judgement) =
    IsAll judge canonical is_tidy payload judgement
JudgesAll judge canonical is_tidy payload (Err error) =
    IsPayloadFault error × RefusesWhole error (all_of judge payload)

-- The payload encodes a frame, and it is said exactly at which levels.
pub record IsJudged (raw : Raw) (judgement : FrameJudgement) : Type 0 where
  pub frame : Frame
  pub is : decode_raw raw ≡ Ok frame
  pub canonical : judgement.canonical ≡ is_at strict raw
  pub tidy : judgement.tidy ≡ is_at tidy raw

-- a whole frame decoded, or the fault of its payload
abbrev pub JudgesFrame : Raw → Result FrameJudgement ParserError → Type 0
JudgesFrame raw (Ok judgement) = IsJudged raw judgement
JudgesFrame raw (Err error) = IsPayloadFault error × RefusesWhole error (decode_raw raw)
