-- A run of a dumper dumps its stream.
use Rattle.amqp_lines.proofs
use proofs.Names.{◌≡◌, ◌≢◌, ℕ, List, [], ◌∷◌, ◌++◌, ◌⊎◌, inl, inr, None, Result, Ok, Err, refl, sym, ap, ◌∙◌, plain, Frame, front, StreamError, cause_of, IfErr}
use proofs.Names.{◌⇒◌, Call, as_reported, Supply, Store, line, lines}
use Rattle.std.specs.declared.string.ParseError.{Infallible}
use Rattle.amqp_stream.specs.Changes.{Change}
use Rattle.amqp_stream.specs.Steps.{text, refused}
use Rattle.amqp_stream.specs.Streaming.{stopped_by, ending_of, as_run, plan_of, IsWelcome, IsDoneOrWanting}
use Rattle.amqp_stream.specs.Causes.{IsOkOrNoMemory}
use Rattle.amqp_stream.specs.declared.report.RunReport.{RunReport}
use Rattle.amqp_stream.specs.Runs.{WriterRun}
use Rattle.amqp_stream.specs.Reports.{IsReportBy, WriterReport, NeverRanReport, NeverBeganReport, as_run_report, unreported}
use Rattle.amqp_stream.proofs.Runs.{run_by, stream_error}
use Rattle.amqp_stream.proofs.Reporting.{unreported_as_run, never_began_report}
use Rattle.amqp_lines.specs.Dumping.{dumping, WritesLines, DumpRun, IsDumpReport, DumpReport}
use Rattle.amqp_stream.specs.declared.errors.StreamError.TheVariants as errors

-- ---- the text of frames

lines_text : (frames : List Frame) → text dumping tt frames ≡ lines frames
unfolding text lines
lines_text [] = refl
lines_text (f ∷ fs) = ap (λ xs. line f ++ xs) (lines_text fs)

none_refused : (frames : List Frame) → refused dumping tt frames ≡ None
unfolding refused
none_refused [] = refl
none_refused (f ∷ fs) = none_refused fs

-- What dumping writes for frames are their lines, one after another, and it refuses none.
pub writes_lines : WritesLines
writes_lines = record { text_is = lines_text; none_refused = none_refused }

welcome : (m : ℕ) (bytes : List ℕ) → IsWelcome (plan_of dumping tt m) bytes
welcome m bytes = record { none_refused = none_refused (front plain _ bytes); ends = refl }

-- ---- a whole call

ending_is : {r : Result (Unit {0}) StreamError} {error : StreamError} → r ≡ Err error → ending_of {E = Infallible} (as_run r) ≡ stopped_by (cause_of error)
ending_is e = ap (λ x. ending_of (as_run x)) e

done_or_wanting : (r : Result (Unit {0}) StreamError) → IsDoneOrWanting (ending_of {E = Infallible} (as_run r)) → IsOkOrNoMemory r
done_or_wanting (Ok done) h = tt
done_or_wanting (Err error) h = h

dump_by : {S K : Type 0} {supply : S → Supply} {store : K → Store} {call : Call S K} (r : Result (Unit {0}) StreamError)
    → WriterRun dumping (tt ⇒ tt) supply store call (as_run r) → DumpRun supply store call r
dump_by {call = call} r run =
    run_by (λ goes. goes.run) (stream_error r errors.TurnsSpent) (λ bytes exact. exact)
    (λ bytes valid. (valid, welcome call.limit bytes)) (λ goes. done_or_wanting r) run

-- ---- its report

report_of : (m : ℕ) (source : Change Supply) (r : Result (Unit {0}) (RunReport StreamError))
    → IfErr (as_run_report {E = Infallible} r) (IsReportBy dumping tt m source) → IfErr r (IsDumpReport m source)
report_of m source (Ok done) h = tt
report_of m source (Err report) h = record {
  taken = h.taken;
  reads = h.reads;
  takes = h.takes;
  sequence = h.sequence;
  rest = h.rest;
  parts = h.parts;
  is_sequence = h.is_sequence;
  few = h.few;
  there = h.there.1;
  place_is = h.place_is;
  channel_is = h.channel_is;
}

-- a call that ran, or never began, with its report
abbrev pub ReportedOrNever : {S K : Type 0} → (S → Supply) → (K → Store) → Call S K → Result (Unit {0}) (RunReport StreamError) → Type 0
ReportedOrNever supply store call r =
    WriterReport dumping (tt ⇒ tt) supply store call (as_run_report r)
    ⊎ NeverRanReport {T = Unit {0}} (tt ⇒ tt) call.source call.sink (as_run_report {E = Infallible} r)

-- No dump ends with the error that an encoding is not tidy.
pub untidy_never : {S K : Type 0} {supply : S → Supply} {store : K → Store} {call : Call S K} (r : Result (Unit {0}) (RunReport StreamError))
    → ReportedOrNever supply store call r → unreported r ≢ Err errors.NotTidy
untidy_never r (inl run) e = let alone = rw unreported_as_run at run.0 in alone.stream.run.tidy_only (ending_is e)
untidy_never r (inr never) e =
    let alone = rw unreported_as_run at never.0 in
    let other = sym (ending_is e) ∙ ap ending_of alone.0.no_memory in absurd cc

-- A dump with its report writes the lines of its stream and reports where it ended, or never began, out of memory.
pub dump_report : {S K : Type 0} {supply : S → Supply} {store : K → Store} {call : Call S K} (r : Result (Unit {0}) (RunReport StreamError))
    → ReportedOrNever supply store call r → DumpReport supply store call r ⊎ NeverBeganReport call.source call.sink errors.NoMemory r
dump_report {supply = supply} {store = store} {call = call} r (inl run) =
    inl (dump_by (unreported r) (rw unreported_as_run at run.0), report_of call.limit (as_reported supply store call).source r run.1)
dump_report r (inr never) = inr (never_began_report r never)
