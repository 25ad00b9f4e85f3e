-- A run of a writer that refuses nothing and takes no memory transcribes its stream.
use Rattle.amqp_stream.proofs
use Rattle.amqp_stream.specs
use proofs.Names.{◌≡◌, ◌≢◌, ℕ, List, [], ◌∷◌, ◌++◌, length, Option, Some, None, Result, Ok, Err, IsTrue, Bool, false, refl, sym, ap, subst, ◌∙◌, arith}
use proofs.Names.{append-nil, append_assoc, length-append, Infallible, Level, AMQPFrameType, Frame, canon, canon_frames, front, StreamError, error_for, Cause}
use proofs.Names.{faulty, cut_short, budget_spent, read_failed, write_failed, out_of_memory, cause_of, Change, Supply, Store, Call, IsPrefix, Gathered, Manner}
use proofs.Names.{text, refused, canonical_at, answer_to, Ending, finished, refused_by, stopped_by, ending_of, as_run, Plan, HasWritten, IsShortBy, Streams}
use proofs.Names.{StreamsExactly, IsWelcome, UnlessStoppedBy, IsDoneOrWanting, plan_of, answer_at_end, IsExactRun, text_ending, Canonicalizes}
use mathlib.Core.Path.{fun_ext}
use Rattle.std.specs.List.{flat_map}
use Rattle.amqp_wire.proofs.Strictness.{canon_front-short}
use proofs.Adding.{Gains-then}
use specs.Manners.{mapping}
use specs.Causes.{IsCausedBy, IsWrittenUnless, NeverBegan, UnlessStopped, IsOutOfMemory}
use specs.Streaming.{AtWanting}
use specs.Transcribing.{transcript, text_plan, Transcribes, TranscribesExactly}
use proofs.Names.errors
use proofs.Names.ends

-- From this state on the writer has this text for frames, refuses none, takes no memory, and may end anywhere.
pub record Transcriber {S E : Type 0} (w : Manner S E) (s : S) (text_for : List Frame → List ℕ) : Type 0 where
  pub text_is : (frames : List Frame) → text w s frames ≡ text_for frames
  pub none_refused : (frames : List Frame) → refused w s frames ≡ None
  pub wants_none : (kind : AMQPFrameType) → IsTrue (w.wants kind) → ⊥
  pub ends : (t : S) → w.end t ≡ None

-- ---- its plan is that of the text

false_by : (b : Bool) → (IsTrue b → ⊥) → b ≡ false
false_by b none = grind arith

same_plan : {E : Type 0} (level : Level) {text_is text_for : List ℕ → List ℕ} {refusal other : List ℕ → Option E} {end may : List ℕ → Option E}
    {wants none : AMQPFrameType → Bool} → text_is ≡ text_for → refusal ≡ other → end ≡ may → wants ≡ none
    → (let a : Plan E = record { level = level; text = text_is; refusal = refusal; end = end; wants = wants } in
    let b : Plan E = record { level = level; text = text_for; refusal = other; end = may; wants = none } in a ≡ b)
same_plan level p q r e = cc

-- what is known where memory ran out is replaced in the cause of an error
pub caused_by : (level : Level) (call : Call Supply Store) (taken : List ℕ) {P Q : Type 0} (cause : Cause)
    → (P → Q) → IsCausedBy level call taken P cause → IsCausedBy level call taken Q cause
caused_by level call taken out_of_memory f h = f h
caused_by level call taken cause f h = h

-- ---- where nothing is refused it is no matter of what type the refusals are

module _ (E : Type 0) (f : List Frame → List ℕ) (level : Level) where
  never_wanting : {m : ℕ} {taken written : List ℕ} → AtWanting {E = E} (text_plan f level m) m taken written → ⊥
  never_wanting h = absurd (let none = h.wanting.such in cc)

  short_so : {m n : ℕ} {taken written : List ℕ} → IsShortBy {E = E} (text_plan f level m) m taken written n
      → IsShortBy {E = Infallible} (text_plan f level m) m taken written n
  short_so h = search

  -- So a run of a writer that refuses nothing is one of the text.
  infallibly : {call : Call Supply Store} (r : Result (Unit {0}) StreamError)
      → Streams {E = E} (text_plan f level call.limit) call (text_ending r) → Transcribes f level call r
  infallibly (Ok done) run = search (arith, short_so run.short_by)
  infallibly {call = call} (Err error) run = record {
    taken = run.taken;
    are_bytes = run.are_bytes;
    reads = run.reads;
    takes = run.takes;
    at_most = run.at_most;
    all_spent = λ e. run.all_spent (ap stopped_by cc);
    written = run.written;
    gains = run.gains;
    writes = by_cause (cause_of error) run.writes;
    cause = caused_by level call run.taken (cause_of error) (λ h. absurd (never_wanting h)) run.cause;
    tidy_only = λ e. run.tidy_only (ap stopped_by cc);
    short_by = short_so run.short_by;
  }
    where
      by_cause : (cause : Cause) → HasWritten {E = E} (text_plan f level call.limit) run.taken run.written (stopped_by cause)
          → HasWritten {E = Infallible} (text_plan f level call.limit) run.taken run.written (stopped_by cause)
      by_cause write_failed h = h
      by_cause out_of_memory h = h
      by_cause cause h = search

-- ---- what follows of a call that writes a text

-- It never runs out of memory.
pub never_out_of_memory : (f : List Frame → List ℕ) {level : Level} {call : Call Supply Store} {r : Result (Unit {0}) StreamError}
    → Transcribes f level call r → r ≢ Err errors.NoMemory
never_out_of_memory f run e = let out = rw e at run in absurd (let none = out.cause.wanting.such in cc)

-- What it wrote begins the text of all frames in front of what it took.
begins : (f : List Frame → List ℕ) {level : Level} {call : Call Supply Store} (r : Result (Unit {0}) StreamError)
    → (run : Transcribes f level call r) → IsPrefix run.written (transcript f level call.limit run.taken)
begins f (Ok done) run = ([], append-nil run.written ∙ run.writes.text_is)
begins f {level = level} {call = call} (Err error) run = by_cause (cause_of error) run.writes
  where
    by_cause : (cause : Cause) → HasWritten {E = Infallible} (text_plan f level call.limit) run.taken run.written (stopped_by cause)
        → IsPrefix run.written (transcript f level call.limit run.taken)
    by_cause write_failed h = h
    by_cause out_of_memory h = h
    by_cause cause h = ([], append-nil run.written ∙ h.text_is)

-- what was written by a run that stopped early, by its cause
pub written_unless : {E : Type 0} (plan : Plan E) (taken written : List ℕ) (cause : Cause)
    → HasWritten plan taken written (stopped_by cause) → IsWrittenUnless (plan.text taken) written cause
written_unless plan taken written write_failed h = h
written_unless plan taken written out_of_memory h = h
written_unless plan taken written cause h = h.text_is

-- ---- valid input

-- the error that tells of memory that ran out
pub memory_error : (error : StreamError) → IsOutOfMemory (cause_of error) → error ≡ errors.NoMemory
memory_error error h = grind arith

-- a call that is done, or ran out of memory, is done
pub is_done : (E : Type 0) (f : List Frame → List ℕ) {level : Level} {call : Call Supply Store} (r : Result (Unit {0}) StreamError)
    → Transcribes f level call r → IsDoneOrWanting (text_ending {E = E} r) → r ≡ Ok tt
is_done E f (Ok done) run h = refl
is_done E f (Err error) run h = absurd (never_out_of_memory f run (ap Err (memory_error error h)))

-- ---- an ending as the result of a stream

-- the error that has a cause
abbrev pub error_by : Cause → StreamError
error_by (faulty bad) = error_for bad
error_by cut_short = errors.CutShort
error_by budget_spent = errors.TurnsSpent
error_by read_failed = errors.ReadFault
error_by write_failed = errors.WriteFault
error_by out_of_memory = errors.NoMemory

-- The error that has the cause of an error is that error.
pub error_by-cause : (error : StreamError) → error_by (cause_of error) ≡ error
error_by-cause error = grind arith

-- where nothing is refused
abbrev returned : {E : Type 0} → Ending E → Result (Unit {0}) StreamError
returned finished = Ok tt
returned (refused_by why) = Ok tt
returned (stopped_by cause) = Err (error_by cause)

returned-run : (E : Type 0) (r : Result (Unit {0}) StreamError) → returned (ending_of {E = E} (as_run r)) ≡ r
returned-run E r = grind (arith, error_by-cause)

-- A run that never began since memory ran out, as a call that returns the error of a stream.
pub never_began : {E S K : Type 0} {source : Change S} {sink : Change K} {r : Result (Unit {0}) StreamError}
    → NeverBegan source sink (ends.Stream errors.NoMemory) (as_run {E = E} r) → NeverBegan source sink errors.NoMemory r
never_began {E = E} {r = r} h =
    search (sym (returned-run E r) ∙ ap (λ x. returned (ending_of x)) h.no_memory)

-- ---- the result by all of the bytes

at_end_of : (E : Type 0) (r : Result (Unit {0}) StreamError) → text_ending {E = E} r ≡ answer_at_end None r
at_end_of E r = grind arith

-- A call that writes a text returns what all bytes of its source give, and wrote the text of the frames at their front.
pub text_exactly : {E : Type 0} (f : List Frame → List ℕ) (level : Level) (m : ℕ) (bytes written : List ℕ) (r : Result (Unit {0}) StreamError)
    → IsExactRun {E = E} (text_plan f level m) m bytes written (text_ending r) → (r ≡ answer_to level m bytes) × (written ≡ transcript f level m bytes)
text_exactly {E = E} f level m bytes written r h =
    let answer = answer_to level m bytes in
    (cc (returned-run E r, h.answer, at_end_of E answer, returned-run E answer), h.text_is)

exactly_so : {E : Type 0} (f : List Frame → List ℕ) (level : Level) (m : ℕ) (bytes written : List ℕ) (r : Result (Unit {0}) StreamError)
    → IsExactRun {E = E} (text_plan f level m) m bytes written (text_ending r)
    → IsExactRun {E = Infallible} (text_plan f level m) m bytes written (text_ending r)
exactly_so f level m bytes written r h =
    let both = text_exactly f level m bytes written r h in
    search (at_end_of Infallible r ∙ ap (answer_at_end None) both.0)

-- What follows from a fact follows where the fact holds but for causes that stop a run.
pub unless : {P Q : Type 0} (cause : Cause) → (P → Q) → UnlessStopped cause P → UnlessStopped cause Q
unless (faulty bad) g h = g h
unless cut_short g h = g h
unless cause g h = tt

unless_so : (E : Type 0) {P Q : Type 0} (r : Result (Unit {0}) StreamError) → (P → Q)
    → UnlessStoppedBy (text_ending {E = E} r) P → UnlessStoppedBy (text_ending {E = Infallible} r) Q
unless_so E (Ok done) g h = g h
unless_so E (Err error) g h = unless (cause_of error) g h

-- ---- a writer that has a text for frames

module _ {S E : Type 0} {w : Manner S E} {s : S} {f : List Frame → List ℕ} (is : Transcriber w s f) where
  -- What it is to write is the text.
  plan_is : (m : ℕ) → plan_of w s m ≡ text_plan f w.level m
  plan_is m =
      same_plan w.level (fun_ext λ bytes. is.text_is (front w.level (Some m) bytes)) (fun_ext λ bytes. is.none_refused (front w.level (Some m) bytes))
      (fun_ext λ bytes. is.ends _) (fun_ext λ kind. false_by (w.wants kind) (is.wants_none kind))

  -- It refuses no stream.
  pub welcome : (m : ℕ) (bytes : List ℕ) → IsWelcome (plan_of w s m) bytes
  welcome m bytes = search (is.none_refused, is.ends)

  -- A run of it is a call that transcribes so.
  pub transcribes : {call : Call Supply Store} (r : Result (Unit {0}) StreamError)
      → Streams (plan_of w s call.limit) call (text_ending r) → Transcribes f w.level call r
  transcribes {call = call} r run = infallibly E f w.level r (rw (plan_is call.limit) at run)

  -- Over a source that reports its bytes, it gives the text for all of them.
  pub transcribes_exactly : {call : Call Supply Store} {bytes : List ℕ} (r : Result (Unit {0}) StreamError)
      → StreamsExactly (plan_of w s call.limit) call bytes (text_ending r) → TranscribesExactly f w.level call bytes r
  transcribes_exactly {call = call} {bytes = bytes} r run =
      let h = rw (plan_is call.limit) at run in
      search (unless_so E r (exactly_so f w.level call.limit bytes h.written r) h.answer)

-- ---- writers of bytes for each frame by itself

-- A writer of the manner `mapping` writes its bytes for each frame, one after another, refuses none and takes no memory.
pub maps : {S E : Type 0} {level : Level} {compact : Bool} (bytes_of : S → Frame → List ℕ) (s : S)
    → Transcriber {E = E} (mapping level bytes_of compact) s (flat_map (bytes_of s))
unfolding text refused
maps {E = E} {level = level} {compact = compact} bytes_of s =
    search (arith, text_by, refused_by)
  where
    text_by : (frames : List Frame) → text {E = E} (mapping level bytes_of compact) s frames ≡ flat_map (bytes_of s) frames
    text_by [] = refl
    text_by (f ∷ fs) = ap (λ (xs : List ℕ). bytes_of s f ++ xs) (text_by fs)

    refused_by : (frames : List Frame) → refused {E = E} (mapping level bytes_of compact) s frames ≡ None
    refused_by [] = refl
    refused_by (f ∷ fs) = refused_by fs

-- ---- writers of canonical bytes

-- A writer of canonical bytes writes those of each frame.
pub canonical : {S E : Type 0} {level : Level} {s : S} → Transcriber {E = E} (canonical_at level) s canon_frames
canonical {s = s} = maps (λ s f. canon f) s

-- A call that transcribes into canonical bytes writes no more than was taken.
pub canonicalizes : {level : Level} {call : Call Supply Store} {r : Result (Unit {0}) StreamError}
    → Transcribes canon_frames level call r → Canonicalizes level call r
canonicalizes {level = level} {call = call} {r = r} run =
    let begun = begins canon_frames r run in
    record {
      run = run;
      no_longer = omega (arith, ap length begun.1, length-append run.written begun.0, canon_front-short level (Some call.limit) run.taken run.are_bytes);
    }

-- a call that canonicalizes, with what it took
pub record CanonicalizesAs (level : Level) (over : Call Supply Store) (r : Result (Unit {0}) StreamError) (taken_is : List ℕ) (reads_is : ℕ) : Type 0 where
  pub call : Canonicalizes level over r
  pub taken : call.run.taken ≡ taken_is
  pub reads : call.run.reads ≡ reads_is

-- A run of a writer of canonical bytes is a call that canonicalizes, with what the run took.
pub canonicalizes_as : {S : Type 0} {w : Manner S Infallible} {s : S} {call : Call Supply Store} (r : Result (Unit {0}) StreamError)
    → Transcriber w s canon_frames → (run : Streams (plan_of w s call.limit) call (text_ending r)) → CanonicalizesAs w.level call r run.taken run.reads
unfolding canonicalizes
canonicalizes_as {w = w} {call = call} r is =
    subst (λ (plan : Plan Infallible). (run : Streams plan call (text_ending r)) → CanonicalizesAs w.level call r run.taken run.reads)
    (sym (plan_is is call.limit)) (λ run. record { call = canonicalizes run; taken = refl; reads = refl })

-- bytes gathered after bytes
pub gathered_then : {a b c : Store} {x y z p q : List ℕ} → Gathered a b x y p → Gathered b c y z q → Gathered a c x z (p ++ q)
gathered_then g h = record {
  written = g.written ++ h.written;
  gains = Gains-then _ _ _ _ _ g.gains h.gains;
  parts = grind (arith, append_assoc, g.parts, h.parts);
}
