-- How a run of the engine ends.
use Rattle.amqp_stream.proofs
use Rattle.amqp_stream.specs
use proofs.Names.{◌≡◌, ℕ, ◌+◌, ◌-◌, ◌≤◌, List, [], ◌∷◌, ◌++◌, length, Option, Some, None, Result, Ok, Err, IsTrue, refl, sym, ap, subst, ◌∙◌, arith}
use proofs.Names.{append_assoc, append-nil, drop, inl, inr, take_at, take-append-drop, length-append, nil_from_length, Fault, Judged, not_tidy, past, fault}
use proofs.Names.{took, IsBytes, IsBytes-take, Raw, Frame, scan, judge_frame, place-none, verdict-whole, ReadError, StreamError, RunError, SinkFault}
use proofs.Names.{stream_error, read_fault, Cause, faulty, cut_short, budget_spent, read_failed, write_failed, out_of_memory, cause_of, ◌⇒◌, Call, call_of}
use proofs.Names.{Supply, Store, Gains, Rises, IsEmpty, IsPrefix, WritesAll, GatherFails, IsFaulty, judge_place, IsSequence, Manner, text, refused, state}
use proofs.Names.{Ending, finished, refused_by, stopped_by, error_ending, ending_of, WritesBy, end_with, EndsWith, text_of, state_of, plan_of, IsShortBy}
use proofs.Names.{HasCause, HasWritten, HasState, refused_of, with_ahead, Rests, RestsAfter, RestsBy, Resumes}
use Rattle.amqp_wire.specs.Verdicts.{judge_scanned}
use Rattle.amqp_wire.proofs.Cuts.{IsStop, front-stop, front-got, stop-none, verdict-more, verdict-bad}
use Rattle.amqp_wire.proofs.Sequences.{sequence_of_all}
use specs.Writing.{AsksTidy}
use specs.Streaming.{IsRefused, WriteFails, ended, IsAllWritten}
use specs.Resuming.{RestsAt}
use proofs.Adding.{Takes-ahead, Gains-then, Rises-later}
use proofs.Going.{Start, Taken, Spans, Spans-then, Spans-one, Clear, Going, Clear-flushed, Going-kept}
use proofs.Names.ends

-- ---- what was used is a sequence of frames, and what is held writes nothing

-- Nothing is written for what is held, and the state stays.
record WritesNone {S E : Type 0} (w : Manner S E) (m : ℕ) (u : S) (held : List ℕ) (why : Option E) : Type 0 where
  text_none : text_of w u m held ≡ []
  refused_is : refused_of w u m held ≡ why
  state_stays : state_of w u m held ≡ u

none_stopped : {S E : Type 0} (w : Manner S E) (m : ℕ) (u : S) (held : List ℕ) → IsStop (judge_frame w.level (Some m) held) → WritesNone w m u held None
unfolding text refused state
none_stopped w m u held stop =
    let none = (front-stop w.level (Some m) held stop).0 in
    record { text_none = rw none; refused_is = rw none; state_stays = rw none }

none_refused : {S E : Type 0} (w : Manner S E) (m : ℕ) (u : S) (held : List ℕ) (f : Frame) (n : ℕ) (why : E)
    → judge_frame w.level (Some m) held ≡ took f n → w.step u f ≡ Err why → WritesNone w m u held (Some why)
unfolding text refused state
none_refused w m u held f n why found refuses =
    let fronts = (front-got w.level (Some m) held f n found).sequence in
    record { text_none = rw (fronts, refuses); refused_is = rw (fronts, refuses); state_stays = rw (fronts, refuses) }

-- Of all that was taken, this was written.
record Wrote {S E : Type 0} (w : Manner S E) (m : ℕ) (s u : S) (taken text : List ℕ) (why : Option E) : Type 0 where
  text_is : text ≡ text_of w s m taken
  refused_is : refused_of w s m taken ≡ why
  state_is : u ≡ state_of w s m taken

wrote : {S E : Type 0} {w : Manner S E} {m : ℕ} {s u : S} {used text held : List ℕ} {why : Option E}
    → Spans w m s u used text → WritesNone w m u held why → Wrote w m s u (used ++ held) text why
wrote {text = text} {held = held} h none = record {
  text_is = cc (h.text_is held, append-nil text);
  refused_is = h.refused_is held ∙ none.refused_is;
  state_is = sym (h.state_is held ∙ none.state_stays);
}

-- The front of a list of bytes is bytes.
pub front_bytes : (a b : List ℕ) → IsBytes (a ++ b) → IsBytes a
front_bytes a b fits = subst IsBytes (take_at a b (length a) refl) (IsBytes-take (length a) (a ++ b) fits)

-- What was used is frames that were written for, and the rest is held.
rests_on : {S E : Type 0} {w : Manner S E} {m : ℕ} {s u : S} {used text held : List ℕ}
    → Spans w m s u used text → IsBytes (used ++ held) → Rests w s u m (used ++ held) text held
rests_on {w = w} {m = m} {u = u} {used = used} {held = held} h fits =
    let all = rw append-nil at (wrote h (none_stopped w m u [] (stop-none w.level (Some m)))) in
    let none = (rw append-nil at (h.after [])) ∙ place-none w.level (Some m) in
    let sequence : IsSequence w.level m used = (_, sequence_of_all _ _ used (front_bytes used held fits) none) in search

-- The same, whatever was written for it.
abbrev pub rests_after : {S E : Type 0} {w : Manner S E} {m : ℕ} {s u : S} {taken text held : List ℕ}
    → Rests w s u m taken text held → RestsAfter w s m taken held
rests_after h = record { used = h.used; parts = h.parts; is_sequence = h.is_sequence; none_refused = h.none_refused }

short_by : {S E : Type 0} {w : Manner S E} {m n : ℕ} {s u : S} {taken text written rest : List ℕ} (more : List ℕ)
    → Rests w s u m taken text rest → text ++ more ≡ written → length rest ≤ n → IsShortBy (plan_of w s m) m taken written n
short_by {w = w} {m = m} {s = s} {written = written} more h same few =
    let begins : IsPrefix (text_of w s m h.used) written = (more, cc) in search

-- the run as a call whose source and sink are these after it
abbrev pub over : {S E : Type 0} → Start S E → Supply → Store → Call Supply Store
over r b l = call_of r.m r.budget (r.source ⇒ b) (r.sink ⇒ l)

-- the run ended so: its writer, how many bytes came, its source and sink, and what is held after it
abbrev pub Ended : {S E : Type 0} → Start S E → S → ℕ → Supply → Store → List ℕ → Ending E → Type 0
Ended r t came b l after ending = Resumes r.w (r.s ⇒ t) (over r b l) (r.held ⇒ after) (r.came ⇒ came) ending

-- by what was taken and written
ended_at : {S E : Type 0} {r : Start S E} {left came : ℕ} {c : Supply} {l : Store} {taken written held : List ℕ} {idle : ℕ} (t : S) (e : Ending E)
    → Taken r left came c taken idle → Gains r.sink l written → IsShortBy (plan_of r.w r.s r.m) r.m taken written (r.m + 8)
    → (e ≡ stopped_by budget_spent → left + idle ≡ 0)
    → HasWritten (plan_of r.w r.s r.m) taken written e → HasState r.w (r.s ⇒ t) r.m taken e
    → HasCause (plan_of r.w r.s r.m) (with_ahead r.held (over r c l)) taken written e → (e ≡ stopped_by (faulty not_tidy) → AsksTidy r.w.level)
    → RestsBy r.w r.s t r.m taken written held e → Ended r t came c l held e
ended_at {r = r} {left = left} {taken = taken} {written = written} t e h gains short spent writes state_is cause tidy_only rests = record {
  run = record {
    taken = taken;
    are_bytes = h.are_bytes;
    reads = r.budget - left;
    takes = Takes-ahead _ _ _ _ _ _ h.parts h.takes;
    at_most = omega arith;
    all_spent = λ same. omega (arith, spent same);
    written = written;
    gains = gains;
    writes = writes;
    cause = cause;
    tidy_only = tidy_only;
    short_by = short;
  };
  state_is = state_is;
  piece = h.piece;
  parts = h.parts;
  takes = h.takes;
  counts = h.counts;
  some = λ same. omega (arith, spent same);
  rests = rests;
}

-- ---- a run that ends with nothing pending

-- what is known of all that was taken, where no frame follows
record AtPlace {S E : Type 0} (w : Manner S E) (m : ℕ) (s u : S) (taken held written : List ℕ) (j : Judged Frame) : Type 0 where
  all : IsAllWritten (plan_of w s m) taken written
  state_is : u ≡ state_of w s m taken
  verdict_is : judge_place w.level m taken ≡ j
  rests : RestsAt w s u m taken written held

fault_told : (error : ReadError) (bad : Fault) → read_fault error ≡ Some bad → cause_of (stream_error error) ≡ faulty bad
fault_told error bad e = grind arith

never_untidy : (error : ReadError) → read_fault error ≡ Some not_tidy → ⊥
never_untidy error e = grind arith

module _ {S E : Type 0} {r : Start S E} {u : S} {left came : ℕ} {c : Supply} {l : Store} {held : List ℕ} {idle : ℕ}
    (h : Clear r u left came c l held idle) where
  rests : Rests r.w r.s u r.m (h.used ++ held) h.text held
  rests = rests_on h.spans h.taken.are_bytes

  -- where no frame follows
  at_place : {j : Judged Frame} → judge_frame r.w.level (Some r.m) held ≡ j → IsStop j → AtPlace r.w r.m r.s u (h.used ++ held) held h.text j
  at_place e stop =
      let is : IsStop (judge_frame r.w.level (Some r.m) held) = rw e stop in
      let all = wrote h.spans (none_stopped _ _ _ _ is) in
      let places = h.spans.after held ∙ (front-stop _ _ _ is).1 in
      search (rests, sym places, ap (judge_frame r.w.level (Some r.m)) places ∙ e)

  short : IsShortBy (plan_of r.w r.s r.m) r.m (h.used ++ held) h.text (r.m + 8)
  short = short_by [] rests (append-nil h.text) h.room

  -- a fault of bytes
  finish_bad : (bad : Fault) → judge_frame r.w.level (Some r.m) held ≡ fault bad
      → (bad ≡ not_tidy → AsksTidy r.w.level) → Ended r u came c l held (stopped_by (faulty bad))
  finish_bad bad e asks =
      let at = at_place e tt in
      ended_at u (stopped_by (faulty bad)) h.taken h.gains short (λ same. absurd cc) at.all at.state_is at.verdict_is (λ same. asks cc) at.rests

  -- a fault that the header of a frame shows
  finish_fault : (bad : Fault) (error : ReadError) → read_fault error ≡ Some bad → scan (Some r.m) held ≡ fault bad
      → Ended r u came c l held (stopped_by (cause_of (stream_error error)))
  finish_fault bad error same found =
      rw (fault_told error bad same) (finish_bad bad (verdict-bad _ _ _ bad found) (λ e. absurd (never_untidy error (same ∙ ap Some e))))

  -- the read budget is spent
  pub finish_spent : scan (Some r.m) held ≡ past → left + idle ≡ 0 → Ended r u came c l held (stopped_by budget_spent)
  finish_spent more zero =
      let at = at_place (verdict-more _ _ _ more) tt in
      ended_at u (stopped_by budget_spent) h.taken h.gains short (λ same. zero) at.all at.state_is
      (at.verdict_is, omega (arith, ap length h.taken.parts, length-append r.held h.taken.piece))
      (λ same. absurd cc) at.rests

  -- a read failed
  pub finish_unread : scan (Some r.m) held ≡ past → Rises r.source.faults c.faults → Ended r u came c l held (stopped_by read_failed)
  finish_unread more rises =
      let at = at_place (verdict-more _ _ _ more) tt in
      ended_at u (stopped_by read_failed) h.taken h.gains short (λ e. absurd cc) at.all at.state_is (at.verdict_is, rises) (λ e. absurd cc) at.rests

  -- a frame that has a fault
  finish_faulty : {raw : Raw} {n : ℕ} (bad : Fault)
      → scan (Some r.m) held ≡ took raw n → IsFaulty r.w.level raw bad → Ended r u came c l held (stopped_by (faulty bad))
  unfolding judge_frame
  finish_faulty {n = n} bad found is = finish_bad bad (ap (judge_scanned r.w.level) found ∙ is.judged_bad n) is.tidy_only

  -- a frame that is refused
  finish_refused : {raw : Raw} {n : ℕ} {why : E} → scan (Some r.m) held ≡ took raw n → IsRefused r.w u raw why → Ended r u came c l held (refused_by why)
  finish_refused {why = why} found is =
      let whole = verdict-whole _ _ _ _ _ is.frame found is.at_level is.is_whole in
      let all = wrote h.spans (none_refused _ _ _ _ _ _ _ whole is.refuses) in
      ended_at u (refused_by why) h.taken h.gains short (λ e. absurd cc) all.text_is all.state_is (inl all.refused_is) (λ e. absurd cc)
      (record { rests = rests; refused = inl (search) })

  -- a frame at which memory ran out
  finish_memory : {raw : Raw} {n : ℕ} (t : S)
      → scan (Some r.m) held ≡ took raw n → IsTrue (r.w.wants raw.kind) → Ended r t came c l held (stopped_by out_of_memory)
  finish_memory t found wants =
      let is = rests in
      ended_at t (stopped_by out_of_memory) h.taken h.gains short (λ e. absurd cc) (_, sym (h.spans.text_is held)) tt (search) (λ e. absurd cc)
      (record { rests = rests_after is; wanting = search })

-- The end of input: with what the writer says of the end, or inside a frame.
pub finish_end : {S E : Type 0} {r : Start S E} {u : S} {left came : ℕ} {c : Supply} {l : Store} {idle : ℕ} (held : List ℕ) (end : Option E)
    → Clear r u left came c l held idle → scan (Some r.m) held ≡ past → IsEmpty c.left → r.w.end u ≡ end → Ended r u came c l held (end_with held end)
finish_end {u = u} [] None h more empty may =
    let at = at_place h (verdict-more _ _ _ more) tt in
    ended_at u finished h.taken h.gains (short h) (λ e. absurd cc) at.all at.state_is
    ((_, sequence_of_all _ _ _ h.taken.are_bytes (sym at.rests.place_is)), empty, rw (← at.state_is) may) (λ e. absurd cc) at.rests
finish_end {u = u} [] (Some why) h more empty may =
    let at = at_place h (verdict-more _ _ _ more) tt in
    ended_at u (refused_by why) h.taken h.gains (short h) (λ e. absurd cc) at.all.text_is at.state_is
    (inr (record {
      sequence = (_, sequence_of_all _ _ _ h.taken.are_bytes (sym at.rests.place_is));
      empty = empty;
      none_refused = at.all.none_refused;
      ends = rw (← at.state_is) may;
    }))
    (λ e. absurd cc) (record { rests = rests h; refused = inr (refl, may) })
finish_end {u = u} (byte ∷ bytes) end h more empty may =
    let at = at_place h (verdict-more _ _ _ more) tt in
    ended_at u (stopped_by cut_short) h.taken h.gains (short h) (λ e. absurd cc) at.all at.state_is
    (((λ e. absurd (let none = at.rests.place_is ∙ e in cc)), at.verdict_is), empty) (λ e. absurd cc) at.rests

-- ---- a run that is to end with an error, and first writes what is pending

still_unwritten : (E : Type 0) (error : StreamError) (written : Result (Unit {0}) SinkFault)
    → cause_of error ≡ write_failed → ending_of {E = E} (ended (ends.Stream error) written) ≡ stopped_by write_failed
still_unwritten E error written same = grind arith

-- nothing was pending after a failed write, so nothing more was written
still_failed : {l l' l'' : Store} {before after bytes : List ℕ} {written : Result (Unit {0}) SinkFault}
    → GatherFails l l' before after bytes → WritesAll l' l'' after written → GatherFails l l'' before after bytes
still_failed f g =
    let none : g.piece ≡ [] = nil_from_length g.piece (omega (arith, length-append g.piece g.prefix.0, ap length (g.prefix.1 ∙ f.none))) in
    let gains = rw append-nil at (Gains-then _ _ _ _ _ f.gains (rw none at g.gains)) in
    search arith

module _ {S E : Type 0} {r : Start S E} {u : S} {left came : ℕ} {c : Supply} {l : Store} {held before : List ℕ}
    (g : Going r u left came c l held before) where
  -- A piece of the front of what is pending was written, and of what follows it.
  finish_unwritten : {l' : Store} {piece : List ℕ} (t : S) (tail rest : List ℕ) → Gains l l' piece → IsPrefix piece (before ++ tail)
      → text_of r.w u r.m held ≡ tail ++ rest → Rises l.faults l'.faults → Ended r t came c l' held (stopped_by write_failed)
  finish_unwritten {l' = l'} {piece = piece} t tail rest gains prefix text_is rises =
      let split = append_assoc g.used g.since held in
      let both = Spans-then g.spans g.spans_since in
      let whole : ((g.text ++ g.written) ++ piece) ++ (prefix.0 ++ rest) ≡ text_of r.w r.s r.m (g.used ++ (g.since ++ held)) =
      grind (arith, append_assoc, both.text_is held) in
      ended_at t (stopped_by write_failed) g.taken (Gains-then _ _ _ _ _ g.gains gains)
      (short_by (g.written ++ piece) (rests_on g.spans g.taken.are_bytes) (sym (append_assoc g.text g.written piece)) g.room) (λ e. absurd cc)
      (prefix.0 ++ rest, whole) tt (Rises-later _ _ _ g.gains.faults gains.faults rises)
      (λ e. absurd cc)
      (rw split at (rests_after (rests_on both (subst IsBytes (sym split) g.taken.are_bytes))))

  -- what was pending could not be written
  pub finish_unflushed : {l' : Store} {bad : SinkFault} (t : S) → WritesAll l l' before (Err bad) → Ended r t came c l' held (stopped_by write_failed)
  finish_unflushed t f =
      finish_unwritten t [] (text_of r.w u r.m held) f.gains (f.prefix.0, f.prefix.1 ∙ sym (append-nil before)) refl f.err

  -- a frame for which nothing was written, or not all
  finish_frame : {l' : Store} {after : List ℕ} {raw : Raw} {n : ℕ} (t : S) → scan (Some r.m) held ≡ took raw n
      → WriteFails r.w u raw l l' before after → Ended r t came c l' held (stopped_by write_failed)
  finish_frame {n = n} t found h =
      finish_unwritten t h.bytes (text_of r.w h.next r.m (drop n held)) h.failed.gains h.failed.prefix
      (cc (take-append-drop n held, (Spans-one r.m held n found h.step).text_is (drop n held))) h.failed.rises

  flush_then : {l' : Store} (t : S) (error : RunError E) (written : Result (Unit {0}) SinkFault) → WritesAll l l' before written
      → (Clear r u left came c l' held 0 → Ended r t came c l' held (error_ending error)) → Ended r t came c l' held (ending_of (ended error written))
  flush_then t error (Ok done) f then = then (Clear-flushed g f)
  flush_then t error (Err bad) f then = finish_unflushed t f

  -- a fault that the header of a frame shows
  pub finish_header : {l' : Store} {result : Result (Unit {0}) (RunError E)} (bad : Fault) (error : ReadError) → read_fault error ≡ Some bad
      → scan (Some r.m) held ≡ fault bad → EndsWith l l' before (ends.Stream (stream_error error)) result → Ended r u came c l' held (ending_of result)
  finish_header bad error same found h =
      rw h.answer (flush_then u (ends.Stream (stream_error error)) h.written h.writes (λ clear. finish_fault clear bad error same found))

module _ {S E : Type 0} {r : Start S E} {u : S} {left came : ℕ} {c : Supply} {l l' l'' : Store} {held before after : List ℕ} {raw : Raw} {n : ℕ} (t : S)
    (g : Going r u left came c l held before) (found : scan (Some r.m) held ≡ took raw n) where
  stop_with : (error : RunError E) (written : Result (Unit {0}) SinkFault) → WritesBy r.w u t raw l l' before after (error_ending error)
      → WritesAll l' l'' after written → Ended r t came c l'' held (ending_of (ended error written))
  stop_with (ends.Refused why) written h f = rw h.2 (flush_then (Going-kept g h.1) u (ends.Refused why) written f (λ clear. finish_refused clear found h.0))
  stop_with (ends.Stream error) written h f = by_cause (cause_of error) refl h
    where
      by_cause : (cause : Cause) → cause_of error ≡ cause → WritesBy r.w u t raw l l' before after (stopped_by cause)
          → Ended r t came c l'' held (ending_of (ended (ends.Stream error) written))
      by_cause (faulty bad) same h =
          rw h.2 (flush_then (Going-kept g h.1) u (ends.Stream error) written f (λ clear. rw same (finish_faulty clear bad found h.0)))
      by_cause write_failed same h =
          rw (still_unwritten E error written same)
          (finish_frame g t found (record { bytes = h.bytes; next = h.next; step = h.step; failed = still_failed h.failed f }))
      by_cause out_of_memory same h =
          flush_then (Going-kept g h.1) t (ends.Stream error) written f (λ clear. rw same (finish_memory clear t found h.0))
      by_cause cause same h = absurd h

  -- a frame that was not written
  pub finish_stopped : {error : RunError E} {result : Result (Unit {0}) (RunError E)} → WritesBy r.w u t raw l l' before after (error_ending error)
      → EndsWith l' l'' after error result → Ended r t came c l'' held (ending_of result)
  finish_stopped {error = error} h stop = rw stop.answer (stop_with error stop.written h stop.writes)
