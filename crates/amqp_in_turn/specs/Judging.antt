-- What is judged of one frame before anything is written for it.
use Rattle.std.specs.Prelude.{◌≡◌, ℕ, Bool, true, false, List, [], Result, Ok, Err}
use Rattle.amqp_types.specs.Levels.{plain}
use Rattle.amqp_wire.specs.Frames.{Raw, Frame}
use Rattle.amqp_wire.specs.Canonical.{canon}
use Rattle.amqp_wire.specs.Judgements.{IsJudged}
use Rattle.amqp_wire.specs.Verdicts.{decode_raw}
use Rattle.amqp_turns.specs.declared.fault.ContentFault.{ContentFault}
use Rattle.amqp_stream.specs.declared.decision.Decision.{Decision}
use Rattle.amqp_stream.specs.declared.decision.Decision.TheVariants as decisions
use Rattle.amqp_stream.specs.declared.errors.StreamError.{StreamError}
use Rattle.amqp_stream.specs.Errors.{Cause, faulty, cause_of}
use Rattle.amqp_stream.specs.Streaming.{Ending, finished, refused_by, stopped_by}
use Rattle.amqp_stream.specs.Writing.{IsFaulty}
use Rattle.amqp_in_turn.specs.declared.errors.Refusal.{Refusal}
use Rattle.amqp_in_turn.specs.declared.errors.Refusal.TheVariants as refusals

-- the canonical bytes of a frame, where it is kept
abbrev pub given : Bool → Frame → List ℕ
given true frame = canon frame
given false frame = []

-- a fault of a payload
abbrev pub IsFaultyBy : Raw → Cause → Type 0
IsFaultyBy raw (faulty bad) = IsFaulty plain raw bad
IsFaultyBy raw cause = ⊥

-- What is decided of a whole frame that is kept, or is not; or why it is none.
abbrev pub JudgesKept : Bool → Raw → Result Decision StreamError → Type 0
JudgesKept kept raw (Ok (decisions.Kept judged)) = (kept ≡ true) × IsJudged raw judged
JudgesKept kept raw (Ok decisions.Dropped) =
    (kept ≡ false) × ((frame : Frame) × (decode_raw raw ≡ Ok frame))
JudgesKept kept raw (Err error) = IsFaultyBy raw (cause_of error)

-- A frame is refused for this fault, or for a fault of its payload.
abbrev pub RefusesFrame : Raw → ContentFault → Ending Refusal → Type 0
RefusesFrame raw fault (refused_by (refusals.BadContent bad)) =
    (frame : Frame) × (decode_raw raw ≡ Ok frame) × (bad ≡ fault)
RefusesFrame raw fault (refused_by (refusals.OpenContent channel)) = ⊥
RefusesFrame raw fault (stopped_by (faulty bad)) = IsFaulty plain raw bad
RefusesFrame raw fault (stopped_by cause) = ⊥
RefusesFrame raw fault finished = ⊥
