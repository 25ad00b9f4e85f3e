-- What a run that ended early reports: the place and the channel, by what was taken and what is held.
use Rattle.amqp_stream.proofs
use Rattle.amqp_stream.specs
use proofs.Names.{◌≡◌, ℕ, ◌+◌, ◌-◌, ◌≤◌, List, [], length, ◌⊎◌, inl, inr, Some, Result, Ok, Err, ap, arith, length-append, Frame, StreamError, RunError, Cause}
use proofs.Names.{write_failed, out_of_memory, cause_of, Change, Call, Supply, Store, last, counted, Manner, Ending, refused_by, stopped_by, error_ending}
use proofs.Names.{ending_of, as_run, state_of, RestsAfter, RestsBy, Resumes, WriterRun}
use Rattle.std.proofs.Common.{min, max}
use Rattle.std.specs.Prelude.{IfErr}
use specs.declared.report.RunReport.{RunReport}
use specs.Calls.{as_reported}
use specs.Reports.{channel_in, IsRestBy, IsReportBy, IsRestAt, IsReportAt, NeverRanReport, NeverBeganReport, unreported, as_run_report}
use proofs.Finishing.{rests_after}
use proofs.Exactly.{streams_exactly, completes}
use proofs.Forwarding.{as_one_run}
use proofs.Transcribing.{Transcriber, never_began}
use proofs.Names.errors
use proofs.Names.ends

-- ---- a run that began with nothing held

-- A run that began with nothing held is a run of a writer, with all that is said of one.
pub one_run : {T E S K : Type 0} {w : Manner T E} {writer : Change T} {supply : S → Supply} {store : K → Store} {call : Call S K}
    {held : Change (List ℕ)} {came : Change ℕ} {result : Result (Unit {0}) (RunError E)}
    → held.old ≡ [] → Resumes w writer (as_reported supply store call) held came (ending_of result)
    → (call.budget ≡ 0 → call.source.new ≡ call.source.old) → (call.budget ≡ 0 → call.sink.new ≡ call.sink.old)
    → (call.budget ≡ 0 → result ≡ Err (ends.Stream errors.TurnsSpent)) → WriterRun w writer supply store call result
one_run {w = w} {writer = writer} {supply = supply} {store = store} {call = call} none resumed unread unwritten spent =
    let stream = as_one_run none resumed in
    let ran = as_reported supply store call in
    record {
      stream = stream;
      unread = unread;
      unwritten = unwritten;
      spent = spent;
      exact = λ bytes left. streams_exactly w writer.old ran bytes left stream.run;
      complete = λ bytes left accepted faultless. completes w writer.old ran bytes left stream.run accepted.0 accepted.1 faultless;
    }

-- the frames in front of what is held, and why it ends there
reached : {S E : Type 0} (w : Manner S E) (s t : S) (m : ℕ) (bytes written held : List ℕ) (ending : Ending E) → RestsBy w s t m bytes written held ending
    → (at : RestsAfter w s m bytes held) × IsRestBy w (state_of w s m at.used) m bytes held ending
reached w s t m bytes written held (stopped_by write_failed) h = (h, tt)
reached w s t m bytes written held (stopped_by out_of_memory) h = (h.rests, h.wanting)
reached w s t m bytes written held (refused_by why) h =
    (rests_after h.rests, rw h.rests.state_is at h.refused)
reached w s t m bytes written held ending h = (rests_after h.rests, h.place_is)

-- where no more came than the count holds, it is exact
came_is : (came n : ℕ) → Some came ≡ counted n (Some 0) → n ≤ last → came ≡ n
came_is came n e few = let c : came ≡ max 0 (min (0 + n) last) = cc in omega arith

-- The report of such a run says where it ended.
pub reports : {S E : Type 0} {w : Manner S E} {writer : Change S} {call : Call Supply Store} {held : Change (List ℕ)} {came : Change ℕ}
    {ended : Result (Unit {0}) (RunError E)} (r : Result (Unit {0}) (RunReport (RunError E)))
    → unreported r ≡ ended → held.old ≡ [] → came.old ≡ 0 → Resumes w writer call held came (ending_of ended) → length held.new ≤ call.limit + 8
    → IfErr r (λ report. report.place ≡ came.new - length held.new) → IfErr r (λ report. report.channel ≡ channel_in held.new)
    → IfErr r (IsReportBy w writer.old call.limit call.source)
reports (Ok done) e none zero h few at_is channel_is = tt
reports {w = w} {writer = writer} {call = call} {held = held} {came = came} (Err report) e none zero h few at_is channel_is =
    let run = rw (← e) at h in
    let at = reached w writer.old writer.new call.limit run.run.taken run.run.written held.new (error_ending report.error) run.rests in
    let taken : run.run.taken ≡ run.piece = cc run.parts in
    let counts = rw zero at run.counts in
    record {
      taken = run.run.taken;
      reads = run.run.reads;
      takes = rw taken run.takes;
      sequence = at.0.used;
      rest = held.new;
      parts = at.0.parts;
      is_sequence = at.0.is_sequence;
      few = few;
      there = (at.0.none_refused, at.1);
      place_is = λ fits.
          omega (
            arith,
            at_is,
            came_is came.new (length run.piece) counts (omega (arith, ap length taken)),
            ap length taken,
            ap length at.0.parts,
            length-append at.0.used held.new,
          );
      channel_is = channel_is;
    }

-- ---- a run in which nothing is refused

-- The error of a report is the same before and after it is made one of a run.
pub unreported_as_run : {E : Type 0} (r : Result (Unit {0}) (RunReport StreamError)) → unreported {E = RunError E} (as_run_report r) ≡ as_run (unreported r)
unreported_as_run r = grind arith

-- Of a writer that writes bytes for each frame and refuses none, a report says where reading ended.
pub report_at : {S E : Type 0} {w : Manner S E} {s : S} {f : List Frame → List ℕ}
    → Transcriber w s f → (m : ℕ) (source : Change Supply) (r : Result (Unit {0}) (RunReport StreamError))
    → IfErr (as_run_report {E = E} r) (IsReportBy w s m source) → IfErr r (IsReportAt w.level m source)
report_at is m source (Ok done) h = tt
report_at {w = w} {s = s} is m source (Err report) h = search (by_cause (cause_of report.error) h.there.1)
  where
    by_cause : (cause : Cause) → IsRestBy w (state_of w s m h.sequence) m h.taken h.rest (stopped_by cause) → IsRestAt w.level m h.taken h.rest cause
    by_cause write_failed rest = tt
    by_cause out_of_memory wanting = is.wants_none wanting.raw.kind wanting.such
    by_cause cause rest = rest

-- ---- the result without the report

-- Of what a call returned, or that it never began, with a report, what is said without one.
pub without_report : {A B C D : Type 0} → (A × B) ⊎ (C × D) → A ⊎ C
without_report (inl h) = inl h.0
without_report (inr h) = inr h.0

-- a run that never began, where nothing is refused
pub never_began_report : {T E S K : Type 0} {writer : Change T} {source : Change S} {sink : Change K} (r : Result (Unit {0}) (RunReport StreamError))
    → NeverRanReport {E = E} writer source sink (as_run_report r) → NeverBeganReport source sink errors.NoMemory r
never_began_report (Ok done) h = absurd (let other = h.0.0.no_memory in cc)
never_began_report (Err report) h = (never_began (rw unreported_as_run at h.0.0), search)
