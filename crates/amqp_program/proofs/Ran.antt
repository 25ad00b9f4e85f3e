-- Runs of the commands over a stream: what holds of a call that ran, or never began since memory ran out.
use Rattle.std.proofs.Common.{arith, ◌≡◌, ◌⊎◌, ℕ, List, [], None, Some, Result, Ok, Err, IfErr, inl, inr, refl, ap, subst, ◌∙◌, Bool}
use mathlib.Core.Path.{fun_ext}
use Rattle.std.specs.declared.string.ParseError.{Infallible}
use Rattle.amqp_types.specs.Levels.{plain}
use Rattle.amqp_wire.specs.declared.frame_type.AMQPFrameType.{AMQPFrameType}
use Rattle.amqp_wire.specs.Canonical.{canon_frames}
use Rattle.amqp_wire.specs.Frames.{Frame}
use Rattle.amqp_stream.specs.declared.errors.StreamError.{StreamError}
use Rattle.amqp_stream.specs.declared.errors.StreamError.TheVariants as errors
use Rattle.amqp_stream.specs.declared.report.RunReport.{RunReport}
use Rattle.amqp_stream.specs.Calls.{Call}
use Rattle.amqp_stream.specs.Canonicalizing.{Canonicalizes}
use Rattle.amqp_stream.specs.Causes.{NeverBegan, NoFaults, IsOkOrNoMemory}
use Rattle.amqp_stream.specs.Changes.{◌⇒◌}
use Rattle.amqp_stream.specs.Ends.{Supply, Store, Gains}
use Rattle.amqp_stream.specs.Errors.{status_of}
use Rattle.amqp_stream.specs.Reports.{CanonicalReport, IsReportAt, NeverBeganReport, unreported}
use Rattle.amqp_stream.specs.Runs.{Claims, Runs}
use Rattle.amqp_stream.specs.Streaming.{Plan, StreamsExactly, plan_of}
use Rattle.amqp_stream.specs.Transcribing.{text_plan, text_ending}
use Rattle.amqp_stream.proofs.Adding.{Gains-none}
use Rattle.amqp_stream.proofs.Transcribing.{never_out_of_memory}
use Rattle.amqp_select.specs.declared.rule.Rule.{Rule}
use Rattle.amqp_select.specs.Covering.{uncovered}
use Rattle.amqp_select.specs.Matching.{decides}
use Rattle.amqp_select.specs.Refusals.{Spell}
use Rattle.amqp_select.specs.Selecting.{selection, SelectReport}
use Rattle.amqp_select.proofs.Covered.{decides_same, kept_same}
use Rattle.amqp_in_turn.specs.declared.errors.TurnError.{TurnError}
use Rattle.amqp_in_turn.specs.declared.errors.TurnError.TheVariants as turns
use Rattle.amqp_in_turn.specs.Reports.{TurnReport, IsTurnReport}
use Rattle.amqp_in_turn.specs.RunsInTurn.{GoesExactly, IsOkOrNoMemory as IsTurnedOrNoMemory}
use Rattle.amqp_filter.specs.Filtering.{kept_bytes}
use Rattle.amqp_filter.specs.Stepping.{is_method_type}
use Rattle.amqp_lines.specs.declared.errors.UndumpError.{UndumpError}
use Rattle.amqp_lines.specs.declared.report.UndumpReport.{UndumpReport}
use Rattle.amqp_lines.specs.Dumping.{dumping, DumpReport, IsDumpReport}
use Rattle.amqp_lines.specs.Undumping.{UndumpRun, IsOkOrNoMemory as IsUndumpedOrNoMemory}
use Rattle.amqp_lines.specs.UndumpReports.{IsUndumpReport, unreported_lines}
use Rattle.amqp_program.specs.declared.outcome.Outcome.{Outcome}
use Rattle.amqp_program.specs.Commands.{AreNamed}
use Rattle.amqp_program.specs.Outcomes.{IsLineBy, IsPlaceBy, OrAtStart, line_of, out_of_memory, place_of, streamed, turned, undumped}
use Rattle.amqp_program.specs.Reporting.{ReportsDump, ReportsFilter, ReportsInTurn, ReportsRaw, ReportsSelect, ReportsText, ReportsUndump}
use Rattle.amqp_program.specs.Reports.{max_payload}
use Rattle.amqp_program.specs.Runs.{AcceptsRaw, IsDoneOrNoMemory, raw_call, turn_status_of, undump_status_of}
use Rattle.amqp_program.proofs.Selections.{one_spelling}
use Rattle.amqp_program.proofs.Statuses.{answer_status_three, answer_status_zero}

-- ---- calls that ran or never began

module _ {S K : Type 0} {supply : S → Supply} {store : K → Store} {call : Call S K} {claims : Claims} {Never : Type 0} where
  stream_of : {Still : Type 0} → (Never → Still) → Runs supply store call claims ⊎ Never → claims.Goes ⊎ Still
  stream_of f ran = grind arith

  exact_of : (Never → (input : List ℕ) → claims.Exactly input) → Runs supply store call claims ⊎ Never
      → (input : List ℕ) → (supply call.source.old).left ≡ Some input → claims.Exactly input
  exact_of f ran input left = grind arith

  -- what is so of a run that was done, and of one that never began, is so where all was accepted
  pub complete_of : {Ended : Type 0} → (claims.IsDone → Ended) → (Never → Ended)
      → Runs supply store call claims ⊎ Never → (input : List ℕ) → (supply call.source.old).left ≡ Some input → claims.Accepts input
      → NoFaults (supply call.source.old ⇒ supply call.source.new) (store call.sink.old ⇒ store call.sink.new) → Ended
  complete_of f g ran input left accepted faultless = grind arith

-- without where it ended
unreported_ran : {P R N Q : Type 0} → (P × R) ⊎ (N × Q) → P ⊎ N
unreported_ran ran = grind arith

-- one of two is not so
other_of : {P Q Not : Type 0} → P ⊎ Q → (P → Not → ⊥) → Not → Q
other_of either f such = grind arith

-- where it ended
placed : {S K E P : Type 0} (IsReport : RunReport E → Type 0) {no_memory : E} {source source' : S} {sink sink' : K}
    (answer : Result (Unit {0}) (RunReport E))
    → (P × IfErr answer IsReport) ⊎ NeverBeganReport (source ⇒ source') (sink ⇒ sink') no_memory answer
    → IsPlaceBy (OrAtStart no_memory IsReport) (unreported answer) (place_of answer)
placed IsReport answer ran = grind arith

module _ {S K E : Type 0} (supply : S → Supply) (store : K → Store) {source source' : S} {sink sink' : K} {error : E} {r : Result (Unit {0}) E}
    (never : NeverBegan (source ⇒ source') (sink ⇒ sink') error r) where
  never_at : NeverBegan (supply source ⇒ supply source') (store sink ⇒ store sink') error r
  never_at = grind arith

  never_gains : Gains (store sink) (store sink') []
  never_gains = rw never.sink_stays (Gains-none (store sink))

-- a stream that ended well or ran out of memory has the status 0 or 3
stream_done : (r : Result (Unit {0}) StreamError) → IsOkOrNoMemory r → IsDoneOrNoMemory (status_of r)
stream_done r h = grind arith

turn_done : (r : Result (Unit {0}) TurnError) → IsTurnedOrNoMemory r → IsDoneOrNoMemory (turn_status_of r)
turn_done r h = grind arith

undump_done : (r : Result (Unit {0}) UndumpError) → IsUndumpedOrNoMemory r → IsDoneOrNoMemory (undump_status_of r)
undump_done r h = grind arith

-- what status 0 of `raw` says
accepted : (a b : Supply) (k l : Store) (answer : Result (Unit {0}) StreamError)
    → Canonicalizes plain (raw_call a b k l) answer ⊎ NeverBegan (a ⇒ b) (k ⇒ l) errors.NoMemory answer → answer ≡ Ok tt → AcceptsRaw a b k l
accepted a b k l answer (inl c) e =
    let cause = rw e at c.run.cause in
    let writes = rw e at c.run.writes in
    record {
      taken = c.run.taken;
      reads = c.run.reads;
      takes = c.run.takes;
      end = cause.1;
      sequence = cause.0;
      canonical = rw writes.text_is at c.run.gains;
    }
accepted a b k l answer (inr never) e = absurd (cc (never.no_memory))

place_lines : (IsReport : UndumpReport → Type 0) (answer : Result (Unit {0}) UndumpReport)
    → IfErr answer IsReport → IsLineBy IsReport (unreported_lines answer) (line_of answer)
place_lines IsReport answer h = grind arith

-- ---- the commands

module _ {S K : Type 0} (supply : S → Supply) (store : K → Store) (source source' : S) (sink sink' : K) where
  -- what is written of a stream that never began is by its input, since that is nothing
  never_exactly : {r : Result (Unit {0}) StreamError} (plan : Plan Infallible) → NeverBegan (source ⇒ source') (sink ⇒ sink') errors.NoMemory r
      → (bytes : List ℕ) → StreamsExactly plan (raw_call (supply source) (supply source') (store sink) (store sink')) bytes (text_ending r)
  never_exactly plan never bytes = record {
    written = [];
    gains = never_gains supply store never;
    answer = rw never.no_memory tt;
  }

  -- the same of a stream whose frames have to be in turn
  never_in_turn : {r : Result (Unit {0}) TurnError} (text : List Frame → List ℕ)
      → NeverBegan (source ⇒ source') (sink ⇒ sink') (turns.Stream errors.NoMemory) r
      → (bytes : List ℕ) → GoesExactly text (raw_call (supply source) (supply source') (store sink) (store sink')) bytes r
  never_in_turn text never bytes = record {
    written = [];
    gains = never_gains supply store never;
    answer = rw never.no_memory tt;
  }

  -- a run of `raw` or `lent`, with where it ended
  pub raw_reports : (answer : Result (Unit {0}) (RunReport StreamError)) (outcome : Outcome) → outcome ≡ streamed answer
      → CanonicalReport plain supply store (raw_call source source' sink sink') answer
      ⊎ NeverBeganReport (source ⇒ source') (sink ⇒ sink') errors.NoMemory answer
      → ReportsRaw (supply source) (supply source') (store sink) (store sink') outcome
  raw_reports answer outcome e reported =
      let ran = unreported_ran reported in
      let stream = stream_of (never_at supply store) ran in
      let memory = other_of stream (λ goes. never_out_of_memory canon_frames goes.run) in
      rw e (record {
        run = record {
          answer = unreported answer;
          status_is = refl;
          stream = stream;
          memory = memory;
          no_memory = λ three. memory (answer_status_three (unreported answer) three);
          accepts = λ zero. accepted _ _ _ _ (unreported answer) stream (answer_status_zero (unreported answer) zero);
          exact = exact_of (never_exactly (text_plan canon_frames plain max_payload)) ran;
          complete = complete_of (λ ok. inl (ap status_of ok)) (λ never. inr (ap status_of never.no_memory)) ran;
        };
        place = placed (IsReportAt plain max_payload (supply source ⇒ supply source')) answer reported;
      })

  -- a run of `dump`, with where it ended
  pub dump_reports : (answer : Result (Unit {0}) (RunReport StreamError)) (outcome : Outcome) → outcome ≡ streamed answer
      → DumpReport supply store (raw_call source source' sink sink') answer ⊎ NeverBeganReport (source ⇒ source') (sink ⇒ sink') errors.NoMemory answer
      → ReportsDump (supply source) (supply source') (store sink) (store sink') outcome
  dump_reports answer outcome e reported =
      let ran = unreported_ran reported in
      rw e (record {
        run = record {
          answer = unreported answer;
          status_is = refl;
          stream = stream_of (never_at supply store) ran;
          exact = exact_of (never_exactly (plan_of dumping tt max_payload)) ran;
          complete = complete_of (stream_done (unreported answer)) (λ never. inr (ap status_of never.no_memory)) ran;
        };
        place = placed (IsDumpReport max_payload (supply source ⇒ supply source')) answer reported;
      })

  -- a run of `undump`, with where it ended
  pub undump_reports : (answer : Result (Unit {0}) UndumpReport) (outcome : Outcome) → outcome ≡ undumped answer
      → UndumpRun supply store (raw_call source source' sink sink') (unreported_lines answer)
      → IfErr answer (IsUndumpReport (raw_call (supply source) (supply source') (store sink) (store sink')))
      → ReportsUndump (supply source) (supply source') (store sink) (store sink') outcome
  undump_reports answer outcome e run report = rw e (record {
    run = record {
      answer = unreported_lines answer;
      status_is = refl;
      stream = run.stream;
      exact = run.exact;
      complete = λ input left valid none. undump_done (unreported_lines answer) (run.complete input left valid none);
    };
    place = place_lines (IsUndumpReport (raw_call (supply source) (supply source') (store sink) (store sink'))) answer report;
  })

  -- a run of `select`, with where it ended
  pub select_reports : (rules : List Rule) (answer : Result (Unit {0}) (RunReport StreamError)) (outcome : Outcome) → outcome ≡ streamed answer
      → SelectReport rules supply store (raw_call source source' sink sink') answer
      ⊎ NeverBeganReport (source ⇒ source') (sink ⇒ sink') errors.NoMemory answer
      → ReportsSelect rules (supply source) (supply source') (store sink) (store sink') outcome
  select_reports rules answer outcome e reported =
      let ran = unreported_ran reported in
      let stream = stream_of (never_at supply store) ran in
      rw e (record {
        run = record {
          answer = unreported answer;
          status_is = refl;
          stream = stream;
          no_memory = λ three. other_of stream (λ goes. never_out_of_memory (selection rules) goes) (answer_status_three (unreported answer) three);
          exact = exact_of (never_exactly (text_plan (selection rules) plain max_payload)) ran;
          complete = complete_of (λ ok. inl (ap status_of ok)) (λ never. inr (ap status_of never.no_memory)) ran;
        };
        place = placed (IsReportAt plain max_payload (supply source ⇒ supply source')) answer reported;
      })

  -- a run of `recut` or `filter`, with where it ended
  pub turn_reports : (text : List Frame → List ℕ) (wants : AMQPFrameType → Bool) (answer : Result (Unit {0}) (RunReport TurnError)) (outcome : Outcome)
      → outcome ≡ turned answer
      → TurnReport text wants supply store (raw_call source source' sink sink') answer
      ⊎ NeverBeganReport (source ⇒ source') (sink ⇒ sink') (turns.Stream errors.NoMemory) answer
      → ReportsInTurn text wants (supply source) (supply source') (store sink) (store sink') outcome
  turn_reports text wants answer outcome e reported =
      let ran = unreported_ran reported in
      rw e (record {
        run = record {
          answer = unreported answer;
          status_is = refl;
          stream = stream_of (never_at supply store) ran;
          exact = exact_of (never_in_turn text) ran;
          complete = λ input left valid whole none.
              complete_of (turn_done (unreported answer)) (λ never. inr (ap turn_status_of never.no_memory)) ran input left (valid, whole) none;
        };
        place = placed (IsTurnReport wants max_payload (supply source ⇒ supply source')) answer reported;
      })

-- ---- rules that words stand for

module _ (words : List (List ℕ)) (found rules : List Rule) (a b : Supply) (k l : Store) (outcome : Outcome) (named : AreNamed words found)
    (spell : Spell words rules) where
  same_rules : found ≡ uncovered rules
  same_rules = named.are ∙ ap uncovered (one_spelling words named.all rules named.spell spell)

  -- by the rules that no earlier one covers, `select` writes the same as by those that words stand for
  pub selects_named : ReportsSelect found a b k l outcome → ReportsSelect rules a b k l outcome
  selects_named run = subst (λ text. ReportsText text a b k l outcome)
      (ap selection same_rules ∙ fun_ext λ frames. ap canon_frames (kept_same rules frames)) run

  -- and so does `filter`
  pub filters_named : ReportsFilter found a b k l outcome → ReportsFilter rules a b k l outcome
  filters_named run = subst (λ keeps. ReportsInTurn (kept_bytes keeps) is_method_type a b k l outcome)
      (ap decides same_rules ∙ fun_ext λ outline. decides_same rules outline) run

module _ (rules : List Rule) (a : Supply) (k : Store) (outcome : Outcome) (e : outcome ≡ out_of_memory) where
  -- memory ran out before a run of `select` began
  pub select_without_memory : ReportsSelect rules a a k k outcome
  select_without_memory =
      select_reports (λ b. b) (λ l. l) a a k k rules (Err (record { error = errors.NoMemory; place = 0; channel = None })) outcome e
      (inr (record { no_memory = refl; source_stays = refl; sink_stays = refl }, record { place_is = refl; no_channel = refl }))

  -- the same of `filter`
  pub filter_without_memory : ReportsFilter rules a a k k outcome
  filter_without_memory =
      turn_reports (λ b. b) (λ l. l) a a k k (kept_bytes (decides rules)) is_method_type
      (Err (record { error = turns.Stream errors.NoMemory; place = 0; channel = None })) outcome e
      (inr (record { no_memory = refl; source_stays = refl; sink_stays = refl }, record { place_is = refl; no_channel = refl }))
