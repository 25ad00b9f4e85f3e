-- What recutting a stream does.
use Rattle.std.specs.Prelude.{ℕ, List, Result}
use Rattle.amqp_wire.specs.Frames.{Frame}
use Rattle.amqp_wire.specs.Canonical.{canon_frames}
use Rattle.amqp_stream.specs.declared.report.RunReport.{RunReport}
use Rattle.amqp_stream.specs.Ends.{Supply, Store}
use Rattle.amqp_stream.specs.Calls.{Call}
use Rattle.amqp_in_turn.specs.declared.errors.TurnError.{TurnError}
use Rattle.amqp_in_turn.specs.RunsInTurn.{GoesInTurn, GoesExactly, TurnRun}
use Rattle.amqp_in_turn.specs.Reports.{TurnReport}
use Rattle.amqp_recut.specs.Cuts.{recut}
use Rattle.amqp_recut.specs.Stepping.{is_content_type}

-- what is written for frames
abbrev pub recut_bytes : ℕ → List Frame → List ℕ
recut_bytes size frames = canon_frames (recut size frames)

-- A whole call, which writes the canonical bytes of frames recut; memory may run out at methods,
-- content headers and bodies.
abbrev pub Recuts : ℕ → Call Supply Store → Result (Unit {0}) TurnError → Type 0
Recuts size call result = GoesInTurn (recut_bytes size) is_content_type call result

-- what a call returns and writes over a source that reports its bytes
abbrev pub RecutsExactly : ℕ → Call Supply Store → List ℕ → Result (Unit {0}) TurnError → Type 0
RecutsExactly size call bytes result = GoesExactly (recut_bytes size) call bytes result

-- a run that writes the canonical bytes of frames recut
abbrev pub RecutRun : {S K : Type 0} → ℕ → (S → Supply)
    → (K → Store) → Call S K → Result (Unit {0}) TurnError → Type 0
RecutRun size = TurnRun (recut_bytes size) is_content_type

-- the same, with its report
abbrev pub RecutReport : {S K : Type 0} → ℕ → (S → Supply)
    → (K → Store) → Call S K → Result (Unit {0}) (RunReport TurnError) → Type 0
RecutReport size = TurnReport (recut_bytes size) is_content_type
