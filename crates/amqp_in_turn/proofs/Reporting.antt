-- Where a run of a writer that goes by the turns of the channels ended, and its report.
use Rattle.amqp_stream.specs as stream
use Rattle.amqp_in_turn.specs
use Rattle.std.proofs.lemmas.Grind.{common_steps}
use Rattle.std.proofs.Common.{arith, ◌≡◌, ℕ, Bool, List, [], ◌++◌, drop, refl, sym, ap, ◌∙◌, inl, inr, ◌⊎◌, Option, Some, Result, Ok, Err}
use Rattle.std.specs.Prelude.{IfErr}
use Rattle.amqp_types.specs.Levels.{plain}
use Rattle.amqp_wire.specs.declared.frame_type.AMQPFrameType.{AMQPFrameType}
use Rattle.amqp_wire.specs.Frames.{Frame}
use Rattle.amqp_wire.specs.Fronts.{front}
use Rattle.amqp_wire.proofs.Cuts.{front-got}
use Rattle.amqp_wire.proofs.Sequences.{SpellsFrames-precedes, sequence_front}
use Rattle.amqp_turns.specs.declared.fault.ContentFault.{ContentFault}
use Rattle.amqp_turns.specs.InTurn.{IsNextFault}
use stream.declared.errors.StreamError.TheVariants as streams
use stream.declared.errors.RunError.{RunError}
use stream.declared.errors.RunError.TheVariants as runs_end
use stream.declared.report.RunReport.{RunReport}
use stream.Errors.{Cause, write_failed, cause_of}
use stream.Changes.{Change}
use stream.Ends.{Supply, Store}
use stream.Calls.{Call}
use stream.Steps.{Manner}
use stream.Causes.{IsSequence}
use stream.Streaming.{stopped_by, error_ending, state_of}
use stream.Resuming.{IsRefusedThere}
use stream.Reports.{channel_in, IsRestBy, IsReportBy, IsAtStart, WriterReport, NeverRanReport, NeverBeganReport, unreported}
use specs.declared.errors.TurnError.TheVariants as errors
use specs.declared.errors.Refusal.{Refusal}
use specs.declared.errors.Refusal.TheVariants as refusals
use specs.Errors.{turn_error, as_turned}
use specs.RunsInTurn.{frames_at}
use specs.Reports.{IsRestOf, IsRestInTurn, next_channel, IsTurnReport, named_channel, TurnReport, as_turned_report}
use Rattle.amqp_in_turn.proofs.RunsInTurn.{plainly, IsRefused, takes, refuses, GoesByTurns, whole_in_turn, turn_run}

-- A run returns the same errors with its report as without it.
pub unreported_turned : (r : Result (Unit {0}) (RunReport (RunError Refusal))) → unreported (as_turned_report r) ≡ as_turned (unreported r)
unreported_turned (Ok done) = refl
unreported_turned (Err report) = refl

-- where memory ran out before anything was read
started : (r : Result (Unit {0}) (RunReport (RunError Refusal))) → unreported r ≡ Err (runs_end.Stream streams.NoMemory)
    → IfErr r IsAtStart → IfErr (as_turned_report r) IsAtStart
started (Ok done) e h = tt
started (Err report) e h = grind (arith, common_steps)

-- the frames of a sequence come before those of what follows it
sequence_then : (m : ℕ) (sequence rest : List ℕ) → IsSequence plain m sequence → frames_at m (sequence ++ rest) ≡ frames_at m sequence ++ frames_at m rest
sequence_then m sequence rest is = grind (arith, common_steps, SpellsFrames-precedes, sequence_front)

module _ {S : Type 0} {step : S → Frame → Result (List ℕ × S) Refusal} {end : S → Option Refusal}
    (wants : AMQPFrameType → Bool) (compact : Bool) {StandsFor : S → List Frame → Type 0} {given : List Frame → Frame → List ℕ}
    {after : List Frame → List Frame → List ℕ} (by : GoesByTurns step end StandsFor given after) where
  -- the writer's manner
  abbrev w : Manner S Refusal
  w = plainly step end wants compact

  -- ---- where it ended

  rest_of : (t : S) (m : ℕ) (taken rest : List ℕ) (cause : Cause) → IsRestBy w t m taken rest (stopped_by cause) → IsRestOf wants m taken rest cause
  rest_of t m taken rest write_failed h = tt
  rest_of t m taken rest cause h = h

  module _ (t : S) (m : ℕ) (sequence rest : List ℕ) (h : StandsFor t (frames_at m sequence)) (is : IsSequence plain m sequence) where
    -- the frame after a sequence, where it is refused, is not in turn
    refused_there : (why : Refusal) → (there : IsRefusedThere w t m rest why)
        → (bad : ContentFault) × (why ≡ refusals.BadContent bad) × IsRefused (frames_at m sequence) there.frame bad
    refused_there why there = elim (by.steps t (frames_at m sequence) there.frame h) [
      | takes u e g ↦ absurd (let other = sym e ∙ there.refuses in cc)
      | refuses bad e refused ↦ (bad, (let other = sym e ∙ there.refuses in cc), refused)
    ]

    next_refused : (fault : ContentFault) → IsRefusedThere w t m rest (refusals.BadContent fault)
        → IsNextFault (frames_at m (sequence ++ rest)) (frames_at m sequence) fault
    next_refused fault there =
        let found = refused_there (refusals.BadContent fault) there in
        let same : found.0 ≡ fault = let e = found.1 in cc in
        record {
          next = there.frame;
          rest = front plain (Some m) (drop there.used rest);
          parts = rw (sequence_then m sequence rest is, (front-got plain (Some m) rest there.frame there.used there.found).sequence);
          wrong = (rw same at found.2).last;
        }

    -- what follows a sequence of frames is that of one in turn, and the channel of the next frame is named; at the end of input there is none
    rest_by : (taken : List ℕ) (error : RunError Refusal) (next : Option ℕ) → taken ≡ sequence ++ rest
        → IsRestBy w t m taken rest (error_ending error) → next ≡ channel_in rest
        → IsRestInTurn wants m taken sequence rest (named_channel error next) (turn_error error)
        × (next_channel (turn_error error) (named_channel error next) ≡ channel_in rest)
    unfolding channel_in
    rest_by taken (runs_end.Stream error) next parts there named = (rest_of t m taken rest (cause_of error) there, named)
    rest_by taken (runs_end.Refused (refusals.BadContent fault)) next parts (inl there) named = grind (arith, common_steps, next_refused)
    rest_by taken (runs_end.Refused (refusals.BadContent fault)) next parts (inr end) named = absurd (by.only_open t fault end.1)
    rest_by taken (runs_end.Refused (refusals.OpenContent channel)) next parts (inl there) named =
        absurd (let other = (refused_there (refusals.OpenContent channel) there).1 in cc)
    rest_by taken (runs_end.Refused (refusals.OpenContent channel)) next parts (inr end) named =
        ((end.0, by.ends_open t (frames_at m sequence) channel h end.1), ap channel_in (sym end.0))

  reports_in_turn : (s : S) (m : ℕ) (source : Change Supply) (r : Result (Unit {0}) (RunReport (RunError Refusal)))
      → StandsFor s [] → IfErr r (IsReportBy w s m source) → IfErr (as_turned_report r) (IsTurnReport wants m source)
  reports_in_turn s m source (Ok done) new h = tt
  reports_in_turn s m source (Err report) new h =
      let whole = whole_in_turn wants compact by s m h.sequence new h.there.0 in
      let rest =
      rest_by (state_of w s m h.sequence) m h.sequence h.rest whole.stands h.is_sequence h.taken report.error report.channel h.parts h.there.1 h.channel_is in
      record {
        taken = h.taken;
        reads = h.reads;
        takes = h.takes;
        sequence = h.sequence;
        rest = h.rest;
        parts = h.parts;
        is_sequence = h.is_sequence;
        few = h.few;
        there = (whole.in_turn, rest.0);
        place_is = h.place_is;
        channel_is = rest.1;
      }

  -- a call that ran, or never began, with its report
  abbrev pub ReportedOrNever : {A K : Type 0} → Change S → (A → Supply) → (K → Store)
      → Call A K → Result (Unit {0}) (RunReport (RunError Refusal)) → Type 0
  ReportedOrNever writer supply store call r = WriterReport w writer supply store call r ⊎ NeverRanReport writer call.source call.sink r

  -- From a new writer, a run with its report writes for the frames in turn and reports where it ended, or never began, out of memory.
  pub reported_run : {A K : Type 0} (writer : Change S) {supply : A → Supply} {store : K → Store} {call : Call A K}
      (r : Result (Unit {0}) (RunReport (RunError Refusal))) → StandsFor writer.old [] → ReportedOrNever writer supply store call r
      → TurnReport (after []) wants supply store call (as_turned_report r)
      ⊎ NeverBeganReport call.source call.sink (errors.Stream streams.NoMemory) (as_turned_report r)
  reported_run writer {supply = supply} {store = store} {call = call} r new (inl run) =
      grind (arith, common_steps, reports_in_turn, turn_run, unreported_turned)
  reported_run writer r new (inr h) = grind (arith, common_steps, started, unreported_turned)
