-- What is written of a stream of which rules keep some frames.
use Rattle.std.specs.Prelude.{ℕ, List, [], true, Result, IfErr, if◌then◌else◌}
use Rattle.std.specs.declared.string.ParseError.{Infallible}
use Rattle.amqp_types.specs.Levels.{plain}
use Rattle.amqp_wire.specs.Frames.{Frame}
use Rattle.amqp_wire.specs.Canonical.{canon, canon_frames}
use Rattle.amqp_wire.specs.Outlines.{outline_of}
use Rattle.amqp_stream.specs.declared.errors.StreamError.{StreamError}
use Rattle.amqp_stream.specs.declared.report.RunReport.{RunReport}
use Rattle.amqp_stream.specs.Ends.{Supply, Store}
use Rattle.amqp_stream.specs.Calls.{Call, as_reported}
use Rattle.amqp_stream.specs.Steps.{Manner}
use Rattle.amqp_stream.specs.Manners.{mapping}
use Rattle.amqp_stream.specs.Runs.{TextRun}
use Rattle.amqp_stream.specs.Reports.{IsReportAt, unreported}
use Rattle.amqp_select.specs.declared.rule.Rule.{Rule}
use Rattle.amqp_select.specs.declared.selecting.Selector.{Selector}
use Rattle.amqp_select.specs.Matching.{decides, kept}

-- the canonical bytes of the frames that are kept
abbrev pub selection : List Rule → List Frame → List ℕ
selection rules frames = canon_frames (kept rules frames)

-- the canonical bytes of a frame, where it is kept
abbrev pub selected : List Rule → Frame → List ℕ
selected rules frame = if decides rules (outline_of frame) then canon frame else []

-- selecting as a manner of writing: frames are read at level plain, none is refused, and the input
-- may end after any of them
abbrev pub selecting : Manner Selector Infallible
selecting = mapping plain (λ s frame. selected s.rules.now frame) true

-- a run that writes the canonical bytes of the frames that rules keep
abbrev pub SelectRun : {S K : Type 0} → List Rule → (S → Supply)
    → (K → Store) → Call S K → Result (Unit {0}) StreamError → Type 0
SelectRun rules supply store call result =
    TextRun (selection rules) plain supply store call result

-- the same, with its report
abbrev pub SelectReport : {S K : Type 0} → List Rule → (S → Supply) → (K → Store)
    → Call S K → Result (Unit {0}) (RunReport StreamError) → Type 0
SelectReport rules supply store call result =
    SelectRun rules supply store call (unreported result)
    × IfErr result (IsReportAt plain call.limit (as_reported supply store call).source)
