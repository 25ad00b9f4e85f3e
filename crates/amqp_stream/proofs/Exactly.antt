-- What a run returns, by all the bytes that a source has.
use Rattle.amqp_stream.proofs
use Rattle.amqp_stream.specs
use proofs.Names.{◌≡◌, ◌≢◌, ℕ, List, [], ◌++◌, length, Option, Some, None, Result, Ok, Err, refl, sym, ap, subst, ◌∙◌, inl, inr, arith, append_assoc}
use proofs.Names.{append-nil, length-append, Level, Fault, past, fault, front, place, splits_of, StreamError, error_for, faulty, cut_short, budget_spent}
use proofs.Names.{read_failed, write_failed, out_of_memory, cause_of, Call, Supply, Store, IsEmpty, prepended, judge_place, answer_to, IsSequence, Manner, text}
use proofs.Names.{refused, Ending, finished, refused_by, stopped_by, text_of, refused_of, state_of, plan_of, Plan, Streams, answer_at_end, IsExactRun}
use proofs.Names.{UnlessStoppedBy, StreamsExactly, IsWelcome, IsDoneOrWanting}
use Rattle.amqp_wire.proofs.Cuts.{verdict-none}
use Rattle.amqp_wire.proofs.Sequences.{place_fault, front_fault, sequence_place}
use specs.Causes.{IsValid, NoFaults}
use specs.Streaming.{answer_of, answer_by}
use proofs.Adding.{taken_of}
use proofs.Going.{settled}
use proofs.Names.errors

-- ---- the bytes taken, and those that are left

pub record IsSplit (bytes taken : List ℕ) (left : Option (List ℕ)) : Type 0 where
  pub rest : List ℕ
  pub parts : bytes ≡ taken ++ rest

-- Of all the bytes of a source those that were taken are the front.
pub split_of : (bytes taken : List ℕ) (left : Option (List ℕ)) → Some bytes ≡ prepended taken left → IsSplit bytes taken left
split_of bytes taken None e = absurd (cc)
split_of bytes taken (Some rest) e = record { rest = rest; parts = cc }

-- all were taken
pub all_taken : (bytes taken : List ℕ) (left : Option (List ℕ)) → Some bytes ≡ prepended taken left → IsEmpty left → taken ≡ bytes
all_taken bytes taken left e h = grind (arith, append-nil)

-- ---- the result by the place of all

answer_more : (level : Level) (m : ℕ) (bytes : List ℕ) → place level (Some m) bytes ≢ []
    → judge_place level m bytes ≡ past → answer_to level m bytes ≡ Err errors.CutShort
answer_more level m bytes h e = grind arith

answer_bad : (level : Level) (m : ℕ) (bytes : List ℕ) (bad : Fault) → judge_place level m bytes ≡ fault bad → answer_to level m bytes ≡ Err (error_for bad)
answer_bad level m bytes bad e = grind (arith, verdict-none level (Some m))

pub answer_sequence : (level : Level) (m : ℕ) (bytes : List ℕ) → IsSequence level m bytes → answer_to level m bytes ≡ Ok tt
answer_sequence level m bytes sequence = rw (sequence_place level (Some m) bytes sequence.0 sequence.1)

-- each fault has an error that reports it
cause-error_of : (bad : Fault) → cause_of (error_for bad) ≡ faulty bad
cause-error_of bad = grind arith

-- the front of more bytes begins with the front
pub front-append : (level : Level) (m : ℕ) (bytes rest : List ℕ)
    → front level (Some m) (bytes ++ rest) ≡ front level (Some m) bytes ++ front level (Some m) (place level (Some m) bytes ++ rest)
front-append level m bytes rest =
    let s = splits_of level (Some m) bytes in
    let p = place level (Some m) bytes in
    cc (s.parts, append_assoc s.used p rest, s.sequence.sequence (p ++ rest))

-- ---- a run over all of the bytes

answer_at_error : {E : Type 0} (end : Option E) (error : StreamError) → answer_at_end end (Err error) ≡ stopped_by (cause_of error)
answer_at_error end error = grind arith

module _ {S E : Type 0} (w : Manner S E) (s : S) (m : ℕ) (bytes : List ℕ) where
  -- the result by what is known of all
  known : {why end : Option E} {answer : Result (Unit {0}) StreamError}
      → refused_of w s m bytes ≡ why → w.end (state_of w s m bytes) ≡ end → answer_to w.level m bytes ≡ answer
      → answer_by (plan_of w s m) m bytes ≡ answer_of why end answer
  known p q r = cc

  -- the stream ends early
  known_error : (error : StreamError)
      → refused_of w s m bytes ≡ None → answer_to w.level m bytes ≡ Err error → answer_by (plan_of w s m) m bytes ≡ stopped_by (cause_of error)
  known_error error p r = known p refl r ∙ answer_at_error (w.end (state_of w s m bytes)) error

module _ {S E : Type 0} (w : Manner S E) (s : S) (call : Call Supply Store) (bytes : List ℕ) (left : call.source.old.left ≡ Some bytes) where
  -- what is to be written
  abbrev plan : Plan E
  plan = plan_of w s call.limit

  -- a run that took all of them
  exact_all : {e : Ending E} (c : Streams plan call e) → IsEmpty call.source.new.left
      → answer_by plan call.limit c.taken ≡ e → c.written ≡ text_of w s call.limit c.taken
      → IsExactRun plan call.limit bytes c.written e
  exact_all {e = e} c empty answer text_is =
      subst (λ (xs : List ℕ). IsExactRun plan call.limit xs c.written e)
      (all_taken bytes c.taken call.source.new.left (taken_of left c.takes) empty) (search (sym answer))

  -- the bytes taken are the front
  split : {e : Ending E} (c : Streams plan call e) → IsSplit bytes c.taken call.source.new.left
  split c = split_of bytes c.taken call.source.new.left (taken_of left c.takes)

  -- a fault of bytes
  exact_bad : (bad : Fault) (c : Streams plan call (stopped_by (faulty bad)))
      → IsExactRun plan call.limit bytes c.written (stopped_by (faulty bad))
  exact_bad bad c =
      let t = split c in
      let at = ap (judge_place w.level call.limit) t.parts ∙ place_fault _ _ _ t.rest bad c.cause in
      let same = ap (front w.level (Some call.limit)) t.parts ∙ front_fault _ _ _ t.rest bad c.cause in
      record {
        answer =
            sym (known_error w s call.limit bytes (error_for bad) (ap (refused w s) same ∙ c.writes.none_refused) (answer_bad w.level call.limit bytes bad at)
            ∙ ap stopped_by (cause-error_of bad));
        text_is = c.writes.text_is ∙ ap (text w s) (sym same);
      }

  -- a frame that is refused
  exact_refused : (why : E) (c : Streams plan call (refused_by why)) → refused_of w s call.limit c.taken ≡ Some why
      → IsExactRun plan call.limit bytes c.written (refused_by why)
  exact_refused why c is =
      let t = split c in
      let fronts = ap (front w.level (Some call.limit)) t.parts ∙ front-append w.level call.limit c.taken t.rest in
      let after = settled w s (front w.level (Some call.limit) c.taken) _ why is in
      record {
        answer = sym (known w s call.limit bytes (ap (refused w s) fronts ∙ after.refused_is) refl refl);
        text_is = c.writes ∙ sym (ap (text w s) fronts ∙ after.text_is);
      }

  exact_at : (e : Ending E) (c : Streams plan call e)
      → UnlessStoppedBy e (IsExactRun plan call.limit bytes c.written e)
  exact_at finished c =
      exact_all c c.cause.1 (known w s call.limit c.taken c.writes.none_refused c.cause.2 (answer_sequence _ _ _ c.cause.0)) c.writes.text_is
  exact_at (refused_by why) c = elim c.cause [
    | inl is ↦ exact_refused why c is
    | inr h ↦ exact_all c h.empty (known w s call.limit c.taken h.none_refused h.ends (answer_sequence _ _ _ h.sequence)) c.writes
  ]
  exact_at (stopped_by (faulty bad)) c = exact_bad bad c
  exact_at (stopped_by cut_short) c =
      exact_all c c.cause.1 (known_error _ _ _ _ errors.CutShort c.writes.none_refused (answer_more _ _ _ c.cause.0.0 c.cause.0.1)) c.writes.text_is
  exact_at (stopped_by cause) c = tt

  -- Over a source that reports its bytes, a run gives what all of them give.
  pub streams_exactly : {e : Ending E} → Streams plan call e → StreamsExactly plan call bytes e
  streams_exactly {e = e} c = search (exact_at e c)

  -- Valid input that is not refused, with enough reads and no faults of the two ends, is read to its end, or memory runs out.
  pub completes : {e : Ending E} → Streams plan call e → IsValid w.level call.limit call.budget bytes
      → IsWelcome plan bytes → NoFaults call.source call.sink → IsDoneOrWanting e
  completes {e = e} c v welcome f =
      by_ending e c (known w s call.limit bytes welcome.none_refused welcome.ends (answer_sequence w.level call.limit bytes v.sequence)) (exact_at e c)
    where
      by_ending : (e : Ending E) (c : Streams plan call e) → answer_by plan call.limit bytes ≡ finished
          → UnlessStoppedBy e (IsExactRun plan call.limit bytes c.written e) → IsDoneOrWanting e
      by_ending finished c p h = tt
      by_ending (stopped_by budget_spent) c p h =
          let t = split c in
          absurd (omega (arith, v.enough, c.cause.1, ap length t.parts, length-append c.taken t.rest))
      by_ending (stopped_by read_failed) c p h = absurd (omega (arith, c.cause.1 f.source_below, f.source))
      by_ending (stopped_by write_failed) c p h = absurd (omega (arith, c.cause f.sink_below, f.sink))
      by_ending (stopped_by out_of_memory) c p h = tt
      by_ending e c p h = absurd (let x = h.answer ∙ p in cc)
