-- What the report of a run says, by the command or the rules that were asked for: all that the run
-- does, by its status, and where it ended.
use Rattle.std.specs.Prelude.{◌≡◌, ℕ, Bool, List, None}
use Rattle.amqp_types.specs.Levels.{Level, plain, tidy}
use Rattle.amqp_wire.specs.declared.frame_type.AMQPFrameType.{AMQPFrameType}
use Rattle.amqp_wire.specs.Frames.{Frame}
use Rattle.amqp_stream.specs.declared.errors.StreamError.{StreamError}
use Rattle.amqp_stream.specs.declared.errors.StreamError.TheVariants as errors
use Rattle.amqp_stream.specs.declared.report.RunReport.{RunReport}
use Rattle.amqp_stream.specs.Changes.{◌⇒◌}
use Rattle.amqp_stream.specs.Ends.{Supply, Store}
use Rattle.amqp_stream.specs.Reports.{IsReportAt}
use Rattle.amqp_in_turn.specs.declared.errors.TurnError.TheVariants as turns
use Rattle.amqp_in_turn.specs.Reports.{IsTurnReport}
use Rattle.amqp_lines.specs.Dumping.{IsDumpReport}
use Rattle.amqp_lines.specs.UndumpReports.{IsUndumpReport}
use Rattle.amqp_recut.specs.Recutting.{recut_bytes}
use Rattle.amqp_recut.specs.Stepping.{is_content_type}
use Rattle.amqp_filter.specs.Filtering.{kept_bytes}
use Rattle.amqp_filter.specs.Stepping.{is_method_type}
use Rattle.amqp_select.specs.declared.rule.Rule.{Rule}
use Rattle.amqp_select.specs.Matching.{decides}
use Rattle.amqp_select.specs.Selecting.{selection}
use Rattle.amqp_program.specs.declared.command.Command.{Command}
use Rattle.amqp_program.specs.declared.command.Command.TheVariants as commands
use Rattle.amqp_program.specs.declared.outcome.Outcome.{Outcome}
use Rattle.amqp_program.specs.declared.print_command.TheConstants.{HELP, VERSION}
use Rattle.amqp_program.specs.Makes.{RunsMake}
use Rattle.amqp_program.specs.HexPlaces.{IsHexPlace}
use Rattle.amqp_program.specs.Outcomes.{IsLineBy, IsPlaceBy, OrAtStart, Reports}
use Rattle.amqp_program.specs.Reports.{max_payload}
use Rattle.amqp_program.specs.Runs.{RunsHex, RunsRaw, RunsText, RunsDump, RunsUndump}
use Rattle.amqp_program.specs.Runs.{RunsInTurn, RunsRecut, Prints, raw_call}

-- ---- streams

-- the report of a stream in which nothing is refused
abbrev pub IsStreamReport : Supply → Supply → RunReport StreamError → Type 0
IsStreamReport a b report = OrAtStart errors.NoMemory (IsReportAt plain max_payload (a ⇒ b)) report

-- a run of `raw` or `lent`
abbrev pub ReportsRaw : Supply → Supply → Store → Store → Outcome → Type 0
ReportsRaw a b k l outcome =
    Reports (RunsRaw a b k l)
    (λ status run place. IsPlaceBy (IsStreamReport a b) run.answer place) outcome

-- a run that writes a text for the frames, of which none is refused
abbrev pub ReportsText : (List Frame → List ℕ) → Supply → Supply → Store → Store → Outcome → Type 0
ReportsText text a b k l outcome =
    Reports (RunsText text a b k l)
    (λ status run place. IsPlaceBy (IsStreamReport a b) run.answer place) outcome

-- a run of `select`
abbrev pub ReportsSelect : List Rule → Supply → Supply → Store → Store → Outcome → Type 0
ReportsSelect rules a b k l outcome = ReportsText (selection rules) a b k l outcome

-- a run of `dump`
abbrev pub ReportsDump : Supply → Supply → Store → Store → Outcome → Type 0
ReportsDump a b k l outcome =
    Reports (RunsDump a b k l)
    (λ status run place.
    IsPlaceBy (OrAtStart errors.NoMemory (IsDumpReport max_payload (a ⇒ b))) run.answer place)
    outcome

-- a run of `undump`
abbrev pub ReportsUndump : Supply → Supply → Store → Store → Outcome → Type 0
ReportsUndump a b k l outcome =
    Reports (RunsUndump a b k l)
    (λ status run place.
    IsLineBy (IsUndumpReport (raw_call a b k l)) run.answer place)
    outcome

-- a run that writes this text for frames in turn
abbrev pub ReportsInTurn : (List Frame → List ℕ) → (AMQPFrameType → Bool)
    → Supply → Supply → Store → Store → Outcome → Type 0
ReportsInTurn text wants a b k l outcome = Reports (RunsInTurn text wants a b k l)
    (λ status run place.
    IsPlaceBy (OrAtStart (turns.Stream errors.NoMemory) (IsTurnReport wants max_payload (a ⇒ b)))
    run.answer place)
    outcome

-- a run of `recut`
abbrev pub ReportsRecut : ℕ → Supply → Supply → Store → Store → Outcome → Type 0
ReportsRecut size a b k l outcome = ReportsInTurn (recut_bytes size) is_content_type a b k l outcome

-- a run of `filter`
abbrev pub ReportsFilter : List Rule → Supply → Supply → Store → Store → Outcome → Type 0
ReportsFilter rules a b k l outcome =
    ReportsInTurn (kept_bytes (decides rules)) is_method_type a b k l outcome

-- ---- commands

-- a run of `hex` (level plain) or `tidy` (level tidy)
abbrev pub ReportsHex : Level → Supply → Supply → Store → Store → Outcome → Type 0
ReportsHex level a b k l outcome =
    Reports (RunsHex level a b k l)
    (λ status run place. IsHexPlace level run.text status place) outcome

-- what a run of a command does
abbrev pub RunsCommand : Command → Supply → Supply → Store → Store → ℕ → Type 0
RunsCommand commands.Hex a b k l status = RunsHex plain a b k l status
RunsCommand commands.Raw a b k l status = RunsRaw a b k l status
RunsCommand commands.Tidy a b k l status = RunsHex tidy a b k l status
RunsCommand commands.Lent a b k l status = RunsRaw a b k l status
RunsCommand commands.Dump a b k l status = RunsDump a b k l status
RunsCommand commands.Undump a b k l status = RunsUndump a b k l status
RunsCommand (commands.Recut n) a b k l status = RunsRecut n a b k l status
RunsCommand (commands.Make n) a b k l status = RunsMake n k l status
RunsCommand commands.Help a b k l status = Prints HELP.now k l status
RunsCommand commands.Version a b k l status = Prints VERSION.now k l status

-- the same with where it ended
abbrev pub ReportsCommand : Command → Supply → Supply → Store → Store → Outcome → Type 0
ReportsCommand commands.Hex a b k l outcome = ReportsHex plain a b k l outcome
ReportsCommand commands.Raw a b k l outcome = ReportsRaw a b k l outcome
ReportsCommand commands.Tidy a b k l outcome = ReportsHex tidy a b k l outcome
ReportsCommand commands.Lent a b k l outcome = ReportsRaw a b k l outcome
ReportsCommand commands.Dump a b k l outcome = ReportsDump a b k l outcome
ReportsCommand commands.Undump a b k l outcome = ReportsUndump a b k l outcome
ReportsCommand (commands.Recut n) a b k l outcome = ReportsRecut n a b k l outcome
ReportsCommand (commands.Make n) a b k l outcome =
    RunsMake n k l outcome.status × (outcome.place ≡ None)
ReportsCommand commands.Help a b k l outcome =
    Prints HELP.now k l outcome.status × (outcome.place ≡ None)
ReportsCommand commands.Version a b k l outcome =
    Prints VERSION.now k l outcome.status × (outcome.place ≡ None)

-- the commands that read nothing
abbrev pub ReadsNothing : Command → Type 0
ReadsNothing (commands.Make n) = Unit {0}
ReadsNothing commands.Help = Unit {0}
ReadsNothing commands.Version = Unit {0}
ReadsNothing command = ⊥
