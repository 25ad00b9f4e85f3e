-- Runs that go on: a call of a forwarder, as one of canonical bytes, bytes that are fed in pieces, and two runs one after another.
use Rattle.amqp_stream.proofs
use Rattle.amqp_stream.specs
use proofs.Names.{◌≡◌, ℕ, List, [], ◌∷◌, ◌++◌, Some, Result, Ok, Err, refl, sym, ap, subst, ◌∙◌, append_assoc, append-nil, ◌+◌, ◌≤◌, length, Option, inl, inr}
use proofs.Names.{arith, Infallible, Level, plain, canon, canon_frames, front, place, place-none, splits_of, sequence_front, StreamError, Cause, write_failed}
use proofs.Names.{out_of_memory, cause_of, faulty, cut_short, budget_spent, read_failed, Change, ◌⇒◌, Call, call_of, Supply, Store, Canonicalizes, canonical_at}
use proofs.Names.{Manner, stopped_by, Ending, finished, refused_by, text_of, plan_of, IsShortBy, HasCause, HasWritten, HasState, with_ahead, RestsBy, Resumes}
use proofs.Names.{ahead, Rests, RestsAfter, text_ending, length-append, IsBytes, Frame, SpellsFrames, IsSequence, IsPrefix}
use Rattle.std.proofs.lemmas.List.Concat.{flat_map-append}
use Rattle.std.specs.List.{concat}
use Rattle.amqp_wire.proofs.Cuts.{front-none}
use Rattle.amqp_wire.proofs.Sequences.{SpellsFrames-precedes}
use specs.declared.forwarder.Forwarded.{Forwarded}
use specs.Canonicalizing.{canon_of}
use specs.Streaming.{StreamsBy}
use specs.Resuming.{RunsAddUp}
use specs.Forwarding.{Forwarding, ForwardsBy, Forwards, HeldUnless, HeldAfter, forward_ending, forward_result, as_forward, fault_after, lasting_after, Fed}
use specs.Forwarding.{fed_after, PiecesAreWhole}
use proofs.Exactly.{front-append}
use proofs.Transcribing.{CanonicalizesAs, canonical, canonicalizes_as, memory_error, never_out_of_memory}
use proofs.Adding.{Takes-then, Takes-ahead, counted_more, Gains-then, Rises-later, IsBytes-append, ahead_of_none}
use proofs.Going.{Through, through, Spans}
use proofs.Finishing.{front_bytes}
use proofs.Names.ends

-- ---- a call

-- no call of canonical bytes ends for memory
no_memory : {level : Level} {call : Call Supply Store} (error : StreamError) → Canonicalizes level call (Err error) → cause_of error ≡ out_of_memory → ⊥
no_memory error run e = never_out_of_memory canon_frames run.run (ap Err (memory_error error (rw e tt)))

held_at : {S : Type 0} {level : Level} {writer : Change S} {call : Call Supply Store} {held : Change (List ℕ)} {came : Change ℕ}
    (r : Result (Unit {0}) StreamError) (h : Resumes {E = Infallible} (canonical_at level) writer call held came (text_ending r))
    → (is : CanonicalizesAs level (with_ahead held.old call) r h.run.taken h.run.reads) → HeldAfter level call.limit is.call.run.taken held.new r
held_at {level = level} {call = call} (Ok done) h is = h.rests.place_is ∙ ap (place level (Some call.limit)) (sym is.taken)
held_at {level = level} {writer = writer} {call = call} {held = held} (Err error) h is =
    rw is.taken (by_cause (cause_of error) (no_memory error is.call) h.rests)
  where
    by_cause : (cause : Cause) → (cause ≡ out_of_memory → ⊥)
        → RestsBy {E = Infallible} (canonical_at level) writer.old writer.new call.limit h.run.taken h.run.written held.new (stopped_by cause)
        → HeldUnless level call.limit h.run.taken held.new cause
    by_cause write_failed some rests = tt
    by_cause out_of_memory some rests = absurd (some refl)
    by_cause cause some rests = rests.place_is

-- a call of a forwarder ends as a run does
forward_ends : (E : Type 0) (result : Result Forwarded StreamError)
    → (forward_ending {E = E} (as_forward result) ≡ text_ending (forward_result result)) × (fault_after {E = E} (as_forward result) ≡ lasting_after result)
forward_ends E result = grind arith

-- A call of a forwarder with the writer of canonical bytes is a call that writes the canonical bytes of what came.
pub forwards : {S : Type 0} {writer : Change S} {forwarder : Change Forwarding} {source : Change Supply} {sink : Change Store}
    (result : Result Forwarded StreamError)
    → ForwardsBy {E = Infallible} (canonical_at plain) writer forwarder source sink (as_forward result) → Forwards plain forwarder source sink result
forwards result h =
    let ends = forward_ends Infallible result in
    let run = rw ends.0 at h.run in
    let is = canonicalizes_as (forward_result result) canonical run.run in
    record {
      call = is.call;
      piece = run.piece;
      parts = is.taken ∙ run.parts;
      takes = rw is.reads run.takes;
      counts = run.counts;
      some = λ e. run.some (ap (λ x. text_ending (forward_result x)) e);
      held = held_at (forward_result result) run is;
      limit = h.limit;
      fault = h.fault ∙ ends.1;
    }

-- ---- bytes that are fed in pieces

place_more : (level : Level) (m : ℕ) (a b : List ℕ) → place level (Some m) (a ++ b) ≡ place level (Some m) (place level (Some m) a ++ b)
place_more level m a b =
    let s = splits_of level (Some m) a in
    let p = place level (Some m) a in
    cc (s.parts, append_assoc s.used p b, s.sequence.after (p ++ b))

text_more : (level : Level) (m : ℕ) (a b : List ℕ) → canon_of level m (a ++ b) ≡ canon_of level m a ++ canon_of level m (place level (Some m) a ++ b)
text_more level m a b =
    ap canon_frames (front-append level m a b) ∙ flat_map-append canon (front level (Some m) a) (front level (Some m) (place level (Some m) a ++ b))

-- what all of some bytes give
abbrev at_once : Level → ℕ → List ℕ → Fed
at_once level m bytes = record { text = canon_of level m bytes; held = place level (Some m) bytes }

fed_more : (level : Level) (m : ℕ) (a : List ℕ) (pieces : List (List ℕ)) → fed_after level m (at_once level m a) pieces ≡ at_once level m (a ++ concat pieces)
fed_more level m a [] = rw append-nil
fed_more level m a (piece ∷ pieces) =
    rw (← text_more level m a piece, ← place_more level m a piece) (fed_more level m (a ++ piece) pieces ∙ rw append_assoc)

-- Bytes that come in pieces give what they give at once, however they are cut.
pub pieces_are_whole : PiecesAreWhole
pieces_are_whole level m pieces =
    let none = fed_more level m [] pieces in rw (front-none level (Some m), place-none level (Some m)) at none

-- ---- a run that begins with nothing held, and runs one after another

-- one that begins with nothing held is a run
pub as_one_run : {S E : Type 0} {w : Manner S E} {writer : Change S} {call : Call Supply Store}
    {held : Change (List ℕ)} {came : Change ℕ} {e : Ending E} → held.old ≡ [] → Resumes w writer call held came e → StreamsBy w writer call e
as_one_run {w = w} {writer = writer} {call = call} {held = held} {e = e} none h =
    let P : Supply → Type 0 = λ a. StreamsBy w writer (record call { source = a ⇒ call.source.new }) e in
    subst P {x = ahead held.old call.source.old} (ahead_of_none held.old call.source.old none) (search)

-- ---- what was used is a sequence of frames that were written for, whatever follows

spans_of : {S E : Type 0} {w : Manner S E} {s t : S} {m : ℕ} {bytes written held : List ℕ} (h : Rests w s t m bytes written held) → Spans w m s t h.used written
spans_of {w = w} {s = s} {m = m} h =
    let frames = front w.level (Some m) h.used in
    let before = SpellsFrames-precedes w.level (Some m) h.used h.is_sequence.0 h.is_sequence.1 in
    let same : frames ≡ h.is_sequence.0 = sequence_front w.level (Some m) h.used h.is_sequence.0 h.is_sequence.1 in
    let on : (rest : List ℕ) → Through w s frames (front w.level (Some m) rest) = λ rest. through w s frames _ h.none_refused in
    record {
      after = before.after;
      text_is = λ rest. cc (same, before.sequence rest, (on rest).text_is);
      refused_is = λ rest. cc (same, before.sequence rest, (on rest).refused_is);
      state_is = λ rest. cc (same, before.sequence rest, (on rest).state_is);
    }

spells_then : (level : Level) (m : Option ℕ) (a b : List ℕ) (fs gs : List Frame)
    → SpellsFrames level m a fs → SpellsFrames level m b gs → SpellsFrames level m (a ++ b) (fs ++ gs)
spells_then level m a b [] gs r q = rw r q
spells_then level m a b (f ∷ fs) gs r q =
    (r.0, r.1 ++ b, cc (r.2, append_assoc r.0 r.1 b), r.3, r.4, spells_then level m r.1 b fs gs r.5 q)

sequence_then : (level : Level) (m : ℕ) (a b : List ℕ) → IsSequence level m a → IsSequence level m b → IsSequence level m (a ++ b)
sequence_then level m a b f g = (f.0 ++ g.0, spells_then level (Some m) a b f.0 g.0 f.1 g.1)

-- ---- what is said of the second run is said of both

module _ {S E : Type 0} {w : Manner S E} {m : ℕ} {s t : S} {used p : List ℕ} (sp : Spans w m s t used p) (first : IsSequence w.level m used) where
  prefix_then : (bytes q : List ℕ) → IsPrefix q (text_of w t m bytes) → IsPrefix (p ++ q) (text_of w s m (used ++ bytes))
  prefix_then bytes q h = (h.0, cc (append_assoc p q h.0, sp.text_is bytes))

  writes_then : (bytes q : List ℕ) (e : Ending E) → HasWritten (plan_of w t m) bytes q e → HasWritten (plan_of w s m) (used ++ bytes) (p ++ q) e
  writes_then bytes q (stopped_by write_failed) h = prefix_then bytes q h
  writes_then bytes q (stopped_by out_of_memory) h = prefix_then bytes q h
  writes_then bytes q (refused_by why) h = cc (sp.text_is bytes)
  writes_then bytes q ending h = record { text_is = cc (sp.text_is bytes); none_refused = sp.refused_is bytes ∙ h.none_refused }

  states_then : (u : S) (bytes : List ℕ) (e : Ending E) → HasState w (t ⇒ u) m bytes e → HasState w (s ⇒ u) m (used ++ bytes) e
  states_then u bytes (stopped_by write_failed) h = tt
  states_then u bytes (stopped_by out_of_memory) h = tt
  states_then u bytes ending h = h ∙ sym (sp.state_is bytes)

  short_then : {n : ℕ} {bytes q : List ℕ} → IsShortBy (plan_of w t m) m bytes q n → IsShortBy (plan_of w s m) m (used ++ bytes) (p ++ q) n
  short_then h = record {
    sequence = used ++ h.sequence;
    rest = h.rest;
    parts = cc (append_assoc used h.sequence h.rest);
    is_sequence = sequence_then w.level m used h.sequence first h.is_sequence;
    none_refused = sp.refused_is h.sequence ∙ h.none_refused;
    written_begins = (h.written_begins.0, cc (sp.text_is h.sequence, append_assoc p (text_of w t m h.sequence) h.written_begins.0));
    few = h.few;
  }

  rest_then : {u : S} {bytes q held : List ℕ} → Rests w t u m bytes q held → Rests w s u m (used ++ bytes) (p ++ q) held
  rest_then {held = held} h = record {
    used = used ++ h.used;
    parts = cc (append_assoc used h.used held);
    is_sequence = sequence_then w.level m used h.used first h.is_sequence;
    none_refused = sp.refused_is h.used ∙ h.none_refused;
    text_is = cc (sp.text_is h.used);
    state_is = h.state_is ∙ sym (sp.state_is h.used);
  }

  rest_after_then : {bytes held : List ℕ} → RestsAfter w t m bytes held → RestsAfter w s m (used ++ bytes) held
  rest_after_then {held = held} h = record {
    used = used ++ h.used;
    parts = cc (append_assoc used h.used held);
    is_sequence = sequence_then w.level m used h.used first h.is_sequence;
    none_refused = sp.refused_is h.used ∙ h.none_refused;
  }

  rests_then : (u : S) (bytes q held : List ℕ) (e : Ending E) → RestsBy w t u m bytes q held e → RestsBy w s u m (used ++ bytes) (p ++ q) held e
  rests_then u bytes q held (stopped_by write_failed) h = rest_after_then h
  rests_then u bytes q held (stopped_by out_of_memory) h = record { rests = rest_after_then h.rests; wanting = h.wanting }
  rests_then u bytes q held (refused_by why) h = record { rests = rest_then h.rests; refused = h.refused }
  rests_then u bytes q held ending h = record { rests = rest_then h.rests; place_is = h.place_is ∙ sym (sp.after bytes) }

module _ {S E : Type 0} {w : Manner S E} {m : ℕ} {s t : S} {used p : List ℕ} (sp : Spans w m s t used p) (first : IsSequence w.level m used)
    (budget more : ℕ) (a b c : Supply) (k l n : Store) (ab : a.faults ≤ b.faults) (bc : b.faults ≤ c.faults) (kl : k.faults ≤ l.faults)
    (ln : l.faults ≤ n.faults) (bytes q : List ℕ) where
  causes_then : (e : Ending E) → (e ≡ stopped_by budget_spent → budget ≤ length (used ++ bytes))
      → HasCause (plan_of w t m) (call_of m more (b ⇒ c) (l ⇒ n)) bytes q e
      → HasCause (plan_of w s m) (call_of m budget (a ⇒ c) (k ⇒ n)) (used ++ bytes) (p ++ q) e
  causes_then finished few h = (sequence_then w.level m used bytes first h.0, h.1, ap w.end (sp.state_is bytes) ∙ h.2)
  causes_then (refused_by why) few h = elim h [
    | inl x ↦ inl (sp.refused_is bytes ∙ x)
    | inr y ↦ inr (record {
      sequence = sequence_then w.level m used bytes first y.sequence;
      empty = y.empty;
      none_refused = sp.refused_is bytes ∙ y.none_refused;
      ends = ap w.end (sp.state_is bytes) ∙ y.ends;
    })
  ]
  causes_then (stopped_by (faulty bad)) few h = rw (sp.after bytes) h
  causes_then (stopped_by cut_short) few h = (rw (sp.after bytes) h.0, h.1)
  causes_then (stopped_by budget_spent) few h = (rw (sp.after bytes) h.0, few refl)
  causes_then (stopped_by read_failed) few h = (rw (sp.after bytes) h.0, Rises-later _ _ _ ab bc h.1)
  causes_then (stopped_by write_failed) few h = Rises-later _ _ _ kl ln h
  causes_then (stopped_by out_of_memory) few h = record {
    sequence = used ++ h.sequence;
    rest = h.rest;
    parts = cc (append_assoc used h.sequence h.rest);
    is_sequence = sequence_then w.level m used h.sequence first h.is_sequence;
    none_refused = sp.refused_is h.sequence ∙ h.none_refused;
    wanting = h.wanting;
    written_is = cc (sp.text_is h.sequence);
  }

-- ---- both runs

-- Two runs one after the other, of which the first spent its read budget, are one run with both budgets.
pub runs_add_up : {S E : Type 0} (w : Manner S E) → RunsAddUp w
runs_add_up w s t u m budget more h0 h1 h2 c0 c1 c2 a b c k l n e f g =
    let first = f.rests.rests in
    let used = first.used in
    let sp = spans_of first in
    let taken = used ++ g.run.taken in
    let parts : taken ≡ h0 ++ (f.piece ++ g.piece) =
    grind (arith, append_assoc, g.parts, first.parts, f.parts) in
    let takes = Takes-then _ _ _ _ _ _ _ f.takes g.takes in
    let came : e ≡ stopped_by budget_spent → budget + more ≤ length (f.piece ++ g.piece) =
    λ same. omega (arith, f.some refl, g.some same, length-append f.piece g.piece) in
    let fits : IsBytes used = front_bytes used h1 (subst IsBytes first.parts f.run.are_bytes) in
    record {
      run = record {
        taken = taken;
        are_bytes = IsBytes-append used g.run.taken fits g.run.are_bytes;
        reads = f.run.reads + g.run.reads;
        takes = Takes-ahead _ _ _ _ _ _ parts takes;
        at_most = omega arith;
        all_spent = λ same. omega (arith, f.run.all_spent refl, g.run.all_spent same);
        written = f.run.written ++ g.run.written;
        gains = Gains-then _ _ _ _ _ f.run.gains g.run.gains;
        writes = writes_then sp first.is_sequence g.run.taken g.run.written e g.run.writes;
        cause =
            causes_then sp first.is_sequence (budget + more) more (ahead h0 a) (ahead h1 b) c k l n f.takes.faults g.takes.faults f.run.gains.faults
            g.run.gains.faults g.run.taken g.run.written e
            (λ same. omega (arith, came same, ap length parts, length-append h0 (f.piece ++ g.piece))) g.run.cause;
        tidy_only = g.run.tidy_only;
        short_by = short_then sp first.is_sequence g.run.short_by;
      };
      state_is = states_then sp first.is_sequence u g.run.taken e g.state_is;
      piece = f.piece ++ g.piece;
      parts = parts;
      takes = takes;
      counts = counted_more c0 c1 c2 f.piece g.piece f.counts g.counts;
      some = came;
      rests = rests_then sp first.is_sequence u g.run.taken g.run.written h2 e g.rests;
    }
