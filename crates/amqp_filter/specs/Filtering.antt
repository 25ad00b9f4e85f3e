-- What filtering a stream does.
use Rattle.std.specs.Prelude.{ℕ, Bool, List, Result}
use Rattle.amqp_wire.specs.declared.outline.FrameOutline.{FrameOutline}
use Rattle.amqp_wire.specs.Frames.{Frame}
use Rattle.amqp_wire.specs.Canonical.{canon_frames}
use Rattle.amqp_stream.specs.declared.report.RunReport.{RunReport}
use Rattle.amqp_stream.specs.Ends.{Supply, Store}
use Rattle.amqp_stream.specs.Calls.{Call}
use Rattle.amqp_in_turn.specs.declared.errors.TurnError.{TurnError}
use Rattle.amqp_filter.specs.Kept.{kept_of}
use Rattle.amqp_filter.specs.Stepping.{is_method_type}
use Rattle.amqp_in_turn.specs.RunsInTurn.{GoesInTurn, GoesExactly, TurnRun}
use Rattle.amqp_in_turn.specs.Reports.{TurnReport}

-- the canonical bytes of the frames that are kept
abbrev pub kept_bytes : (FrameOutline → Bool) → List Frame → List ℕ
kept_bytes keeps frames = canon_frames (kept_of keeps frames)

-- A whole call, which writes the canonical bytes of the frames that are kept; memory may run
-- out at methods.
abbrev pub Filters : (FrameOutline → Bool)
    → Call Supply Store → Result (Unit {0}) TurnError → Type 0
Filters keeps call result = GoesInTurn (kept_bytes keeps) is_method_type call result

-- what a call returns and writes over a source that reports its bytes
abbrev pub FiltersExactly : (FrameOutline → Bool)
    → Call Supply Store → List ℕ → Result (Unit {0}) TurnError → Type 0
FiltersExactly keeps call bytes result = GoesExactly (kept_bytes keeps) call bytes result

-- a run that writes the canonical bytes of the frames that are kept
abbrev pub FilterRun : {S K : Type 0} → (FrameOutline → Bool) → (S → Supply)
    → (K → Store) → Call S K → Result (Unit {0}) TurnError → Type 0
FilterRun keeps = TurnRun (kept_bytes keeps) is_method_type

-- the same, with its report
abbrev pub FilterReport : {S K : Type 0} → (FrameOutline → Bool) → (S → Supply)
    → (K → Store) → Call S K → Result (Unit {0}) (RunReport TurnError) → Type 0
FilterReport keeps = TurnReport (kept_bytes keeps) is_method_type
