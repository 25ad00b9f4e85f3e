-- A run of a writer that goes by the turns of the channels, as a call that writes for the frames of its stream as far as they are in turn.
use Rattle.amqp_turns.specs as turns
use Rattle.amqp_wire.specs as wire
use Rattle.amqp_stream.specs as stream
use Rattle.amqp_in_turn.specs
use Rattle.std.proofs.lemmas.Grind.{common_steps}
use Rattle.std.proofs.Common.{◌≡◌, ◌≢◌, ℕ, ◌<◌, ◌≤◌, Bool, append-nil, append_assoc, List, [], ◌∷◌, ◌++◌, length, refl, sym, ap, ◌∙◌, arith, inl, inr, ◌⊎◌}
use Rattle.std.proofs.Common.{Option, Some, None, Result, Ok, Err}
use Rattle.std.specs.List.{AllByRecursion}
use Rattle.std.proofs.lemmas.List.{length-append}
use Rattle.amqp_types.specs.Levels.{plain}
use Rattle.amqp_types.specs.ContentHeaders.{ContentHeader}
use wire.declared.frame_type.AMQPFrameType.{AMQPFrameType}
use wire.Frames.{Frame, Head, channel_id_of}
use wire.Outlines.{outline_of}
use wire.Spelling.{SpellsFrames, Spells}
use Rattle.amqp_wire.proofs.Outlined.{header_front}
use Rattle.amqp_wire.proofs.Sequences.{front-is_sequence}
use turns.declared.fault.ContentFault.{ContentFault}
use turns.declared.fault.ContentFault.TheVariants as faults
use turns.Units.{of_channel, size_in}
use turns.Answers.{Wrong, IsLastAnswer}
use turns.Stands.{Lost}
use stream.declared.errors.StreamError.{StreamError}
use stream.declared.errors.StreamError.TheVariants as streams
use stream.declared.errors.RunError.{RunError}
use stream.declared.errors.RunError.TheVariants as runs_end
use stream.Errors.{Cause, write_failed, out_of_memory, cause_of}
use stream.Changes.{Change}
use stream.Ends.{Supply, Store}
use stream.Calls.{Call, as_reported}
use stream.Steps.{Manner, text, refused, state}
use stream.Causes.{answer_to}
use stream.Streaming.{Ending, finished, refused_by, stopped_by, ending_of, text_of, refused_of, state_of, plan_of, AtWanting, HasWritten, HasCause, Streams}
use stream.Streaming.{answer_at_end, answer_of, IsExactRun, UnlessStoppedBy, StreamsExactly, IsWelcome, IsDoneOrWanting}
use stream.Runs.{WriterRun, NeverRan}
use Rattle.amqp_stream.proofs.Transcribing.{error_by, error_by-cause, unless, caused_by, written_unless}
use Rattle.amqp_stream.proofs.Runs.{run_by}
use specs.declared.errors.TurnError.{TurnError}
use specs.declared.errors.TurnError.TheVariants as errors
use specs.declared.errors.Refusal.{Refusal}
use specs.declared.errors.Refusal.TheVariants as refusals
use specs.Errors.{as_turned}
use specs.Reports.{IsLeastOpen}
use turns.InTurn.{greatest, AreInTurn, IsLongestInTurn, IsNextFault, NoneIsOpen, state_on}
use specs.RunsInTurn.{frames_at, AtWanted, IsAllInTurn, HasCauseInTurn, HasWrittenInTurn, GoesInTurn, IsAnsweredTo, IsExactlyInTurn, UnlessStoppedInTurn}
use specs.RunsInTurn.{GoesExactly, IsComplete, IsOkOrNoMemory, TurnRun}
use Rattle.amqp_turns.proofs.Messages.{all_back}
use Rattle.amqp_turns.proofs.Turns.{are_in_turn, none_lost, lost_later, before_or_with}

-- ---- one frame

-- the manner of a writer that reads frames at level plain
abbrev pub plainly : {S : Type 0} → (S → Frame → Result (List ℕ × S) Refusal) → (S → Option Refusal) → (AMQPFrameType → Bool) → Bool → Manner S Refusal
plainly step end wants compact = record { level = plain; step = step; end = end; wants = wants; compact = compact }

-- the first fault of a channel, and only of a size that no header can announce that it is too large
pub record IsFresh (bad : ContentFault) (frame : Frame) : Type 0 where
  pub other : bad ≢ faults.Faulted
  pub large : bad ≡ faults.BodyTooLarge → greatest < size_in (outline_of frame)

-- a frame after these is not in turn, and has this fault
pub record IsRefused (earlier : List Frame) (frame : Frame) (bad : ContentFault) : Type 0 where
  pub lost : state_on (earlier ++ frame ∷ []) (channel_id_of frame) ≡ Lost
  pub last : IsLastAnswer outline_of greatest (of_channel outline_of (channel_id_of frame) (earlier ++ frame ∷ [])) (Wrong bad)
  pub fresh : IsFresh bad frame

-- A frame after these gives its bytes, and the state stands for one frame more; or it is refused, since it is not in turn.
pub data Stepped {S : Type 0} (step : S → Frame → Result (List ℕ × S) Refusal) (StandsFor : S → List Frame → Type 0)
    (given : List Frame → Frame → List ℕ) (s : S) (earlier : List Frame) (frame : Frame) : Type 0 where
  takes : (t : S) → step s frame ≡ Ok (given earlier frame, t) → StandsFor t (earlier ++ frame ∷ []) → Stepped step StandsFor given s earlier frame
  refuses : (bad : ContentFault) → step s frame ≡ Err (refusals.BadContent bad) → IsRefused earlier frame bad
      → Stepped step StandsFor given s earlier frame

-- What a writer that goes by the turns of the channels has to show: its states stand for frames that are in turn, a step gives what is written for one
-- frame more or refuses the one that is not in turn, and a stream may end where no message is open.
pub record GoesByTurns {S : Type 0} (step : S → Frame → Result (List ℕ × S) Refusal) (end : S → Option Refusal)
    (StandsFor : S → List Frame → Type 0) (given : List Frame → Frame → List ℕ) (after : List Frame → List Frame → List ℕ) : Type 0 where
  pub none : (earlier : List Frame) → after earlier [] ≡ []
  pub more : (earlier : List Frame) (frame : Frame) (frames : List Frame)
      → after earlier (frame ∷ frames) ≡ given earlier frame ++ after (earlier ++ frame ∷ []) frames
  pub steps : (s : S) (earlier : List Frame) (frame : Frame) → StandsFor s earlier → Stepped step StandsFor given s earlier frame
  pub in_turn : (s : S) (earlier : List Frame) → StandsFor s earlier → (channel : ℕ) → state_on earlier channel ≢ Lost
  pub only_open : (s : S) (bad : ContentFault) → end s ≡ Some (refusals.BadContent bad) → ⊥
  pub ends_none : (s : S) (frames : List Frame) → StandsFor s frames → end s ≡ None → NoneIsOpen frames
  pub ends_open : (s : S) (frames : List Frame) (channel : ℕ) → StandsFor s frames
      → end s ≡ Some (refusals.OpenContent channel) → IsLeastOpen frames channel
  pub may_end : (s : S) (frames : List Frame) → StandsFor s frames → NoneIsOpen frames → end s ≡ None

-- ---- frames one after another

-- why the frames after these that were written for end where they do: they are all, or the next is refused
pub data Ends (earlier frames front : List Frame) (why : Option Refusal) : Type 0 where
  all : frames ≡ front → why ≡ None → Ends earlier frames front why
  fault : (next : Frame) (more : List Frame) (bad : ContentFault) → frames ≡ front ++ next ∷ more
      → why ≡ Some (refusals.BadContent bad) → IsRefused (earlier ++ front) next bad → Ends earlier frames front why

ends_on : {earlier frames front : List Frame} {why : Option Refusal} (frame : Frame)
    → Ends (earlier ++ frame ∷ []) frames front why → Ends earlier (frame ∷ frames) (frame ∷ front) why
ends_on frame (all whole e) = all (ap (λ fs. frame ∷ fs) whole) e
ends_on frame (fault next more bad parts e refused) = fault next more bad (ap (λ fs. frame ∷ fs) parts) e (rw append_assoc at refused)

-- frames in turn have no frame that is refused
never_in_turn : {front : List Frame} {next : Frame} {bad : ContentFault} (more frames : List Frame) → IsRefused front next bad
    → frames ≡ (front ++ next ∷ []) ++ more → AreInTurn frames → ⊥
never_in_turn {front = front} {next = next} more frames refused e turn =
    none_lost frames (channel_id_of next) turn (rw e (lost_later (front ++ next ∷ []) more (channel_id_of next) refused.lost))

-- ---- results

-- what a run returns
abbrev Outcome : Type 0
Outcome = Result (Unit {0}) (RunError Refusal)

-- an ending as a result
abbrev turned_ending : Ending Refusal → Result (Unit {0}) TurnError
turned_ending finished = Ok tt
turned_ending (refused_by (refusals.BadContent bad)) = Err (errors.BadContent bad)
turned_ending (refused_by (refusals.OpenContent channel)) = Err errors.OpenContent
turned_ending (stopped_by cause) = Err (errors.Stream (error_by cause))

back : (r : Outcome) → as_turned r ≡ turned_ending (ending_of r)
back r = grind (arith, error_by-cause)

unless_turned : {P Q : Type 0} (r : Outcome) → (P → Q) → UnlessStoppedBy (ending_of r) P → UnlessStoppedInTurn (as_turned r) Q
unless_turned (Err (runs_end.Stream error)) g h = unless (cause_of error) g h
unless_turned (Err (runs_end.Refused (refusals.BadContent bad))) g h = g h
unless_turned r g h = g h

turns_by : (r : Outcome) (error : StreamError)
    → as_turned r ≡ Err (errors.Stream error) → ending_of r ≡ stopped_by (cause_of error)
turns_by r error e = grind arith

done_or_memory : (r : Outcome) → IsDoneOrWanting (ending_of r) → IsOkOrNoMemory (as_turned r)
done_or_memory r h = grind arith

-- ---- sizes

-- the sizes in content headers that were read
abbrev Fits : Frame → Type 0
Fits frame = size_in (outline_of frame) ≤ greatest

spelled_fits : (bytes : List ℕ) (frame : Frame) → Spells plain bytes frame → Fits frame
spelled_fits bytes (Head channel header) h =
    let front = header_front h.spelled in
    omega (arith, front.size_fits, ap (λ (x : ContentHeader). x.body_size) front.header_is)
spelled_fits bytes frame h = omega arith

sequence_fits : (m : Option ℕ) (bytes : List ℕ) (frames : List Frame) → SpellsFrames plain m bytes frames → AllByRecursion Fits frames
sequence_fits m bytes [] h = tt
sequence_fits m bytes (frame ∷ frames) h = (spelled_fits h.0 frame h.3, sequence_fits m h.1 frames h.5)

-- ---- where the frames end

module _ {frames front : List Frame} {why : Option Refusal} where
  rest_after : Ends [] frames front why → (rest : List Frame) × (frames ≡ front ++ rest)
  rest_after (all whole e) = ([], rw append-nil whole)
  rest_after (fault next more bad parts e refused) = (next ∷ more, parts)

  longest_by : Ends [] frames front why → (other back : List Frame) → frames ≡ other ++ back → AreInTurn other → length other ≤ length front
  longest_by (all whole e) other back are turn = omega (arith, ap length (sym whole ∙ are), length-append other back)
  longest_by (fault next more bad parts e refused) other back are turn = elim (before_or_with front next more other back (sym parts ∙ are)) [
    | inl short ↦ short
    | inr found ↦ absurd (never_in_turn found.0 other refused found.1 turn)
  ]

  -- Where nothing is refused, the frames in front are all.
  whole_by : Ends [] frames front why → why ≡ None → front ≡ frames
  whole_by (all whole e) h = sym whole
  whole_by (fault next more bad parts e refused) h = absurd cc

  next_by : (bad : ContentFault) → Ends [] frames front why → why ≡ Some (refusals.BadContent bad) → IsNextFault frames front bad
  next_by bad (all whole e) h = absurd cc
  next_by bad (fault next more worse parts e refused) h = grind (arith, common_steps)

  never_open : (channel : ℕ) → Ends [] frames front why → why ≡ Some (refusals.OpenContent channel) → ⊥
  never_open channel (all whole e) h = cc
  never_open channel (fault next more bad parts e refused) h = cc

  fresh_by : (bad : ContentFault) → AllByRecursion Fits frames → Ends [] frames front why
      → why ≡ Some (refusals.BadContent bad) → (bad ≢ faults.BodyTooLarge) × (bad ≢ faults.Faulted)
  fresh_by bad fits (all whole e) h = absurd cc
  fresh_by bad fits (fault next more worse parts e refused) h =
      let same : worse ≡ bad = cc in
      let news = (rw same at refused).fresh in
      let fit = (all_back Fits front (next ∷ more) (rw parts at fits)).0 in
      (λ large. absurd (omega (arith, news.large large, fit)), news.other)

  refused_never : AreInTurn frames → Ends [] frames front why → why ≡ None
  refused_never turn (all whole e) = e
  refused_never turn (fault next more bad parts e refused) = absurd (never_in_turn more frames refused (rw append_assoc parts) turn)

module _ {S : Type 0} {step : S → Frame → Result (List ℕ × S) Refusal} {end : S → Option Refusal}
    (wants : AMQPFrameType → Bool) (compact : Bool) {StandsFor : S → List Frame → Type 0} {given : List Frame → Frame → List ℕ}
    {after : List Frame → List Frame → List ℕ} (by : GoesByTurns step end StandsFor given after) where
  -- the writer's manner
  abbrev w : Manner S Refusal
  w = plainly step end wants compact

  -- what is written for frames: that of their front that is in turn
  pub record Ran (s : S) (earlier frames : List Frame) : Type 0 where
    pub front : List Frame
    pub text_is : text w s frames ≡ after earlier front
    pub stands : StandsFor (state w s frames) (earlier ++ front)
    pub ends : Ends earlier frames front (refused w s frames)

  ran_more : (s t : S) (earlier : List Frame) (frame : Frame) (frames : List Frame)
      → step s frame ≡ Ok (given earlier frame, t) → Ran t (earlier ++ frame ∷ []) frames → Ran s earlier (frame ∷ frames)
  unfolding text refused state
  ran_more s t earlier frame frames e ran = record {
    front = frame ∷ ran.front;
    text_is = rw (e, ran.text_is, by.more earlier frame ran.front);
    stands = rw e (rw append_assoc at ran.stands);
    ends = rw e (ends_on frame ran.ends);
  }

  ran_stopped : (s : S) (earlier : List Frame) (frame : Frame) (frames : List Frame) (bad : ContentFault) → StandsFor s earlier
      → step s frame ≡ Err (refusals.BadContent bad) → IsRefused earlier frame bad → Ran s earlier (frame ∷ frames)
  unfolding text refused state
  ran_stopped s earlier frame frames bad h e refused =
      let ends = fault frame frames bad refl refl (rw append-nil refused) in
      record { front = []; text_is = rw (e, by.none earlier); stands = rw (e, append-nil) h; ends = rw e ends }

  -- A writer that stands for earlier frames writes for more frames as far as they are in turn, and refuses the first that is not.
  pub runs : (s : S) (earlier frames : List Frame) → StandsFor s earlier → Ran s earlier frames
  unfolding text refused state
  runs s earlier [] h = grind (arith, common_steps, append-nil)
  runs s earlier (frame ∷ frames) h = elim (by.steps s earlier frame h) [
    | takes t e g ↦ ran_more s t earlier frame frames e (runs t (earlier ++ frame ∷ []) frames g)
    | refuses bad e refused ↦ ran_stopped s earlier frame frames bad h e refused
  ]

  longest_ran : {s : S} {frames : List Frame} (ran : Ran s [] frames) → IsLongestInTurn frames ran.front
  longest_ran ran =
      let rest = rest_after ran.ends in
      record { rest = rest.0; parts = rest.1; in_turn = are_in_turn ran.front (by.in_turn _ ran.front ran.stands); longest = longest_by ran.ends }

  -- ---- a run

  -- where none is refused all are in turn, and written for, and the state stands for them
  pub record IsWholeInTurn (s : S) (m : ℕ) (sequence : List ℕ) : Type 0 where
    pub in_turn : AreInTurn (frames_at m sequence)
    pub text_is : text_of w s m sequence ≡ after [] (frames_at m sequence)
    pub stands : StandsFor (state_of w s m sequence) (frames_at m sequence)

  -- Where a new writer refuses none of a sequence of frames, all are in turn, and it wrote for all.
  pub whole_in_turn : (s : S) (m : ℕ) (sequence : List ℕ) → StandsFor s [] → refused_of w s m sequence ≡ None → IsWholeInTurn s m sequence
  whole_in_turn s m sequence new none =
      let ran = runs s [] (frames_at m sequence) new in
      let whole = whole_by ran.ends none in
      let stands = rw whole at ran.stands in
      record { in_turn = are_in_turn (frames_at m sequence) (by.in_turn _ _ stands); text_is = rw whole at ran.text_is; stands = stands }

  writes_by : (s : S) (m : ℕ) (taken written text_is : List ℕ) (r : Outcome)
      → HasWritten (plan_of w s m) taken written (ending_of r) → text_of w s m taken ≡ text_is → HasWrittenInTurn text_is written (as_turned r)
  writes_by s m taken written text_is (Ok done) h e = h.text_is ∙ e
  writes_by s m taken written text_is (Err (runs_end.Stream error)) h e = grind (arith, common_steps, written_unless)
  writes_by s m taken written text_is (Err (runs_end.Refused (refusals.BadContent bad))) h e = h ∙ e
  writes_by s m taken written text_is r h e = h ∙ e

  in_turn_by : (s : S) (m : ℕ) (taken written : List ℕ) (frames : List Frame) (cause : Cause) → HasWritten (plan_of w s m) taken written (stopped_by cause)
      → (refused_of w s m taken ≡ None → frames ≡ frames_at m taken) → IsAllInTurn (frames_at m taken) frames cause
  in_turn_by s m taken written frames write_failed h whole = tt
  in_turn_by s m taken written frames out_of_memory h whole = tt
  in_turn_by s m taken written frames cause h whole = whole h.none_refused

  at_wanted : (s : S) (m : ℕ) (taken written : List ℕ) → StandsFor s [] → AtWanting (plan_of w s m) m taken written → AtWanted (after []) wants m taken written
  at_wanted s m taken written new h = grind (arith, common_steps, whole_in_turn)

  cause_by : (s : S) (call : Call Supply Store) (taken written : List ℕ) (r : Outcome) → StandsFor s []
      → (ran : Ran s [] (frames_at call.limit taken)) → HasWritten (plan_of w s call.limit) taken written (ending_of r)
      → HasCause (plan_of w s call.limit) call taken written (ending_of r)
      → HasCauseInTurn (after []) wants call taken written ran.front (as_turned r)
  cause_by s call taken written (Ok done) new ran wrote h = (h.0, h.1, whole_by ran.ends wrote.none_refused, by.ends_none _ ran.front ran.stands h.2)
  cause_by s call taken written (Err (runs_end.Stream error)) new ran wrote h = grind (arith, common_steps, at_wanted, caused_by, in_turn_by, whole_by)
  cause_by s call taken written (Err (runs_end.Refused (refusals.BadContent bad))) new ran wrote (inl is) = next_by bad ran.ends is
  cause_by s call taken written (Err (runs_end.Refused (refusals.BadContent bad))) new ran wrote (inr h) = absurd (by.only_open _ bad h.ends)
  cause_by s call taken written (Err (runs_end.Refused (refusals.OpenContent channel))) new ran wrote (inl is) = absurd (never_open channel ran.ends is)
  cause_by s call taken written (Err (runs_end.Refused (refusals.OpenContent channel))) new ran wrote (inr h) =
      (h.sequence, h.empty, whole_by ran.ends h.none_refused, (channel, (by.ends_open _ ran.front channel ran.stands h.ends).begun))

  goes : (s : S) (call : Call Supply Store) (r : Outcome) → StandsFor s []
      → Streams (plan_of w s call.limit) call (ending_of r) → GoesInTurn (after []) wants call (as_turned r)
  goes s call r new run =
      let ran = runs s [] (frames_at call.limit run.taken) new in
      let short = run.short_by in
      let behind = whole_in_turn s call.limit short.sequence new short.none_refused in
      record {
        taken = run.taken;
        are_bytes = run.are_bytes;
        reads = run.reads;
        takes = run.takes;
        at_most = run.at_most;
        all_spent = λ e. run.all_spent (turns_by r streams.TurnsSpent e);
        written = run.written;
        gains = run.gains;
        frames = ran.front;
        in_turn = longest_ran ran;
        writes = writes_by s call.limit run.taken run.written (after [] ran.front) r run.writes ran.text_is;
        cause = cause_by s call run.taken run.written r new ran run.writes run.cause;
        behind = record {
          sequence = short.sequence;
          rest = short.rest;
          parts = short.parts;
          is_sequence = short.is_sequence;
          in_turn = behind.in_turn;
          written_begins = rw behind.text_is at short.written_begins;
          few = short.few;
        };
      }

  -- ---- errors that never come

  -- a call that ran, or never began
  abbrev pub RanOrNever : {A K : Type 0} → Change S → (A → Supply) → (K → Store) → Call A K → Outcome → Type 0
  RanOrNever writer supply store call r = WriterRun w writer supply store call r ⊎ NeverRan writer call.source call.sink r

  fresh_run : (s : S) (call : Call Supply Store) (bad : ContentFault) → StandsFor s []
      → Streams (plan_of w s call.limit) call (refused_by (refusals.BadContent bad)) → (bad ≢ faults.BodyTooLarge) × (bad ≢ faults.Faulted)
  fresh_run s call bad new run = elim run.cause [
    | inl is ↦
        let sequence = front-is_sequence plain (Some call.limit) run.taken run.are_bytes in
        fresh_by bad (sequence_fits (Some call.limit) sequence.used (frames_at call.limit run.taken) sequence.sequence)
        (runs s [] (frames_at call.limit run.taken) new).ends is
    | inr h ↦ absurd (by.only_open _ bad h.ends)
  ]

  module _ {A K : Type 0} {writer : Change S} {supply : A → Supply} {store : K → Store} {call : Call A K} where
    -- No run ends with the error that an encoding is not tidy.
    pub never_untidy : (r : Result (Unit {0}) (RunError Refusal)) → RanOrNever writer supply store call r → as_turned r ≢ Err (errors.Stream streams.NotTidy)
    never_untidy r (inl run) e = run.stream.run.tidy_only (turns_by r streams.NotTidy e)
    never_untidy r (inr h) e = grind (arith, common_steps, turns_by)

    -- A fault of content that ends the run of a new writer is neither a body above the limit nor a fault that came before.
    pub fresh : (r : Result (Unit {0}) (RunError Refusal)) (bad : ContentFault) → StandsFor writer.old [] → RanOrNever writer supply store call r
        → as_turned r ≡ Err (errors.BadContent bad) → (bad ≢ faults.BodyTooLarge) × (bad ≢ faults.Faulted)
    fresh (Err (runs_end.Refused (refusals.BadContent worse))) bad new (inl run) e =
        let same : worse ≡ bad = cc in
        rw same at (fresh_run writer.old (as_reported supply store call) worse new run.stream.run)
    fresh (Err (runs_end.Refused (refusals.BadContent worse))) bad new (inr h) e = let other = h.0.no_memory in absurd cc
    fresh r bad new h e = absurd cc

  -- ---- the result by all of the bytes

  answered_end : (m : ℕ) (bytes : List ℕ) (front : List Frame) (t : S) (last : Option Refusal) (answer : Result (Unit {0}) StreamError)
      → end t ≡ last → answer_to plain m bytes ≡ answer → front ≡ frames_at m bytes
      → StandsFor t front → IsAnsweredTo m bytes front (turned_ending (answer_at_end last answer))
  answered_end m bytes front t None (Ok done) e is whole h = (whole, is, by.ends_none t front h e)
  answered_end m bytes front t (Some (refusals.BadContent bad)) (Ok done) e is whole h = absurd (by.only_open t bad e)
  answered_end m bytes front t (Some (refusals.OpenContent channel)) (Ok done) e is whole h =
      (whole, is, (channel, (by.ends_open t front channel h e).begun))
  answered_end m bytes front t last (Err error) e is whole h = (whole, is ∙ ap Err (sym (error_by-cause error)))

  answered : (m : ℕ) (bytes : List ℕ) (front : List Frame) (t : S) (why : Option Refusal) → Ends [] (frames_at m bytes) front why
      → StandsFor t front → IsAnsweredTo m bytes front (turned_ending (answer_of why (end t) (answer_to plain m bytes)))
  answered m bytes front t None ends h = answered_end m bytes front t (end t) (answer_to plain m bytes) refl refl (whole_by ends refl) h
  answered m bytes front t (Some (refusals.BadContent bad)) ends h = next_by bad ends refl
  answered m bytes front t (Some (refusals.OpenContent channel)) ends h = absurd (never_open channel ends refl)

  exactly : (s : S) (m : ℕ) (bytes written : List ℕ) (r : Outcome) → StandsFor s []
      → IsExactRun (plan_of w s m) m bytes written (ending_of r) → IsExactlyInTurn (after []) m bytes written (as_turned r)
  exactly s m bytes written r new h =
      let ran = runs s [] (frames_at m bytes) new in
      record {
        frames = ran.front;
        in_turn = longest_ran ran;
        answered =
            rw (back r, h.answer) (answered m bytes ran.front (state_of w s m bytes) (refused_of w s m bytes) ran.ends ran.stands);
        written_is = h.text_is ∙ ran.text_is;
      }

  goes_exactly : (s : S) (call : Call Supply Store) (bytes : List ℕ) (r : Outcome)
      → StandsFor s [] → StreamsExactly (plan_of w s call.limit) call bytes (ending_of r) → GoesExactly (after []) call bytes (as_turned r)
  goes_exactly s call bytes r new run =
      record { written = run.written; gains = run.gains; answer = unless_turned r (exactly s call.limit bytes run.written r new) run.answer }

  -- ---- input that is complete

  welcome : (s : S) (m : ℕ) (bytes : List ℕ) → StandsFor s [] → IsComplete m bytes → IsWelcome (plan_of w s m) bytes
  welcome s m bytes new h =
      let none = refused_never h.in_turn (runs s [] (frames_at m bytes) new).ends in
      record {
        none_refused = none;
        ends = by.may_end (state_of w s m bytes) (frames_at m bytes) (whole_in_turn s m bytes new none).stands h.none_open;
      }

  -- ---- a whole call

  -- From a new writer, a run writes for the frames in turn, and ends by the first that is not, by an open message, or by the stream.
  pub turn_run : {A K : Type 0} (writer : Change S) {supply : A → Supply} {store : K → Store} {call : Call A K}
      (r : Outcome) → StandsFor writer.old []
      → WriterRun w writer supply store call r → TurnRun (after []) wants supply store call (as_turned r)
  turn_run writer {supply = supply} {store = store} {call = call} r new run =
      let ran = as_reported supply store call in
      run_by (λ stream. goes writer.old ran r new stream.run) (ap as_turned) (λ bytes. goes_exactly writer.old ran bytes r new)
      (λ bytes accepted. (accepted.0, welcome writer.old call.limit bytes new accepted.1)) (λ goes. done_or_memory r) run
