-- What is written for frames after frames; and the engine's loop: what was taken, what was written, and what is pending.
use Rattle.amqp_stream.proofs
use Rattle.amqp_stream.specs
use proofs.Names.{◌≡◌, ◌≢◌, ℕ, ◌+◌, ◌-◌, ◌*◌, ◌<◌, ◌≤◌, List, [], ◌++◌, length, take, drop, Some, Result, Ok, IsTrue, refl, sym, ap, subst, ◌∙◌, arith}
use proofs.Names.{append_assoc, append-nil, ◌∷◌, None, Err, length-append, length-drop, take-append-drop, took, IsBytes, AMQPFrameType, FrameLayout, Raw}
use proofs.Names.{frame_length, Frame, scan, laid_out, place, scan-in_bounds, verdict-whole, SourceFault, ◌⇒◌, Supply, Store, Takes, Gains, counted, ReadsMore}
use proofs.Names.{Lies, WritesAll, Gathered, Manner, text, refused, state, Writes, text_of, refused_of, state_of}
use Rattle.amqp_wire.specs.Frames.{length_around}
use Rattle.amqp_wire.proofs.Encoded.{scan-beside}
use Rattle.amqp_wire.proofs.Cuts.{ComesBefore-none, ComesBefore-more}
use specs.Writing.{Keeps}
use specs.Streaming.{IsStep}
use proofs.Adding.{Takes-then, Takes-none, counted_none, counted_more, Gains-none, Gains-then, IsBytes-append}
use proofs.Names.kinds

-- where none of the first frames is refused, the others are written for from the state after them
pub record Through {S E : Type 0} (w : Manner S E) (s : S) (fs gs : List Frame) : Type 0 where
  pub text_is : text w s (fs ++ gs) ≡ text w s fs ++ text w (state w s fs) gs
  pub refused_is : refused w s (fs ++ gs) ≡ refused w (state w s fs) gs
  pub state_is : state w s (fs ++ gs) ≡ state w (state w s fs) gs

through_at : {S E : Type 0} (w : Manner S E) (s : S) (f : Frame) (fs gs : List Frame) (r : Result (List ℕ × S) E) → w.step s f ≡ r
    → ((t : S) → refused w t fs ≡ None → Through w t fs gs) → refused w s (f ∷ fs) ≡ None → Through w s (f ∷ fs) gs
unfolding text refused state
through_at w s f fs gs (Ok p) is ih h =
    let rest = ih p.1 (rw is at h) in
    record { text_is = rw (is, rest.text_is, append_assoc); refused_is = rw is rest.refused_is; state_is = rw is rest.state_is }
through_at w s f fs gs (Err why) is ih h = absurd (let none = rw is at h in cc)

-- What is written for frames that follow others is written from the state after these.
pub through : {S E : Type 0} (w : Manner S E) (s : S) (fs gs : List Frame) → refused w s fs ≡ None → Through w s fs gs
unfolding text refused state
through w s [] gs h = search
through w s (f ∷ fs) gs h = through_at w s f fs gs (w.step s f) refl (λ t. through w t fs gs) h

-- after a frame that is refused nothing changes
pub record IsSettled {S E : Type 0} (w : Manner S E) (s : S) (fs gs : List Frame) (why : E) : Type 0 where
  pub refused_is : refused w s (fs ++ gs) ≡ Some why
  pub text_is : text w s (fs ++ gs) ≡ text w s fs

settled_at : {S E : Type 0} (w : Manner S E) (s : S) (f : Frame) (fs gs : List Frame) (why : E) (r : Result (List ℕ × S) E) → w.step s f ≡ r
    → ((t : S) → refused w t fs ≡ Some why → IsSettled w t fs gs why) → refused w s (f ∷ fs) ≡ Some why → IsSettled w s (f ∷ fs) gs why
unfolding text refused
settled_at w s f fs gs why (Ok p) is ih h =
    let rest = ih p.1 (rw is at h) in record { refused_is = rw is rest.refused_is; text_is = rw (is, rest.text_is) }
settled_at w s f fs gs why (Err x) is ih h = record { refused_is = rw is (rw is at h); text_is = rw is }

-- Frames that follow a refused one change neither the refusal nor what is written.
pub settled : {S E : Type 0} (w : Manner S E) (s : S) (fs gs : List Frame) (why : E) → refused w s fs ≡ Some why → IsSettled w s fs gs why
unfolding text refused
settled w s [] gs why h = absurd cc
settled w s (f ∷ fs) gs why h = settled_at w s f fs gs why (w.step s f) refl (λ t. settled w t fs gs why) h

-- ---- the loop

-- How a run starts: the manner and the state of its writer, the limit, the read budget, the two ends, the bytes that are held already,
-- and how many came before.
pub record Start (S E : Type 0) : Type 0 where
  pub w : Manner S E
  pub s : S
  pub m : ℕ
  pub budget : ℕ
  pub source : Supply
  pub sink : Store
  pub held : List ℕ
  pub came : ℕ

-- These bytes are a sequence of frames, and this text is written for them from the state s to t, whatever follows.
pub record Spans {S E : Type 0} (w : Manner S E) (m : ℕ) (s t : S) (bytes text : List ℕ) : Type 0 where
  pub after : (rest : List ℕ) → place w.level (Some m) (bytes ++ rest) ≡ place w.level (Some m) rest
  pub text_is : (rest : List ℕ) → text_of w s m (bytes ++ rest) ≡ text ++ text_of w t m rest
  pub refused_is : (rest : List ℕ) → refused_of w s m (bytes ++ rest) ≡ refused_of w t m rest
  pub state_is : (rest : List ℕ) → state_of w s m (bytes ++ rest) ≡ state_of w t m rest

Spans-none : {S E : Type 0} (w : Manner S E) (m : ℕ) (s : S) → Spans w m s s [] []
Spans-none w m s = search

-- Two sequences of frames, one after the other, are written for one after the other.
pub Spans-then : {S E : Type 0} {w : Manner S E} {m : ℕ} {s t u : S} {a b p q : List ℕ}
    → Spans w m s t a p → Spans w m t u b q → Spans w m s u (a ++ b) (p ++ q)
Spans-then {w = w} {m = m} {u = u} {a = a} {b = b} {p = p} {q = q} g h = record {
  after = λ rest. rw (append_assoc a b rest) (g.after (b ++ rest) ∙ h.after rest);
  text_is = λ rest.
      cc (append_assoc a b rest, append_assoc p q (text_of w u m rest), g.text_is (b ++ rest), h.text_is rest);
  refused_is = λ rest. rw (append_assoc a b rest) (g.refused_is (b ++ rest) ∙ h.refused_is rest);
  state_is = λ rest. rw (append_assoc a b rest) (g.state_is (b ++ rest) ∙ h.state_is rest);
}

-- The frame that lies at the front of what is held is written for by a step.
pub Spans-one : {S E : Type 0} {w : Manner S E} {s t : S} {raw : Raw} {bytes : List ℕ} (m : ℕ) (held : List ℕ) (n : ℕ)
    → scan (Some m) held ≡ took raw n → IsStep w s t raw bytes → Spans w m s t (take n held) bytes
unfolding text refused state
Spans-one m held n found is =
    let one = ComesBefore-more _ _ [] _ [] _ _ (ComesBefore-none _ _) (verdict-whole _ _ _ _ _ is.frame found is.at_level is.is_whole) in
    record {
      after = one.after;
      text_is = λ rest. rw (one.sequence rest, is.steps);
      refused_is = λ rest. rw (one.sequence rest, is.steps);
      state_is = λ rest. rw (one.sequence rest, is.steps);
    }

-- What was held at first and taken so far, with what is held at its end. At most `idle` reads gave nothing.
pub record Taken {S E : Type 0} (r : Start S E) (left came : ℕ) (b : Supply) (bytes : List ℕ) (idle : ℕ) : Type 0 where
  pub piece : List ℕ
  pub parts : bytes ≡ r.held ++ piece
  pub takes : Takes r.source b piece (r.budget - left)
  pub counts : Some came ≡ counted (length piece) (Some r.came)
  pub fall : left ≤ r.budget
  pub few : r.budget ≤ left + length piece + idle
  pub are_bytes : IsBytes bytes

-- Nothing is pending: for what was used all is written, and the writer is in the state u. The rest is held.
pub record Clear {S E : Type 0} (r : Start S E) (u : S) (left came : ℕ) (b : Supply) (l : Store) (held : List ℕ) (idle : ℕ) : Type 0 where
  pub used : List ℕ
  pub text : List ℕ
  pub spans : Spans r.w r.m r.s u used text
  pub gains : Gains r.sink l text
  pub taken : Taken r left came b (used ++ held) idle
  pub room : length held ≤ r.m + 8

-- What the loop keeps. All is written for what was used before the last read; what is pending belongs to what was used since then.
pub record Going {S E : Type 0} (r : Start S E) (u : S) (left came : ℕ) (b : Supply) (l : Store) (held pending : List ℕ) : Type 0 where
  pub used : List ℕ
  pub text : List ℕ
  pub between : S
  pub spans : Spans r.w r.m r.s between used text
  pub since : List ℕ
  pub text_since : List ℕ
  pub spans_since : Spans r.w r.m between u since text_since
  pub written : List ℕ
  pub gains : Gains r.sink l (text ++ written)
  pub parts : written ++ pending ≡ text_since
  pub taken : Taken r left came b (used ++ (since ++ held)) 0
  pub room : length (since ++ held) ≤ r.m + 8
  pub compact : IsTrue r.w.compact → length pending ≤ length since

-- Before its first read a run has used nothing, and holds what was held at first.
pub Clear-held : {S E : Type 0} (r : Start S E) (held : List ℕ) → held ≡ r.held
    → IsBytes held → length held ≤ r.m + 8 → Clear r r.s r.budget r.came r.source r.sink held 0
Clear-held r held e fits few = record {
  used = [];
  text = [];
  spans = Spans-none r.w r.m r.s;
  gains = Gains-none r.sink;
  taken = record {
    piece = [];
    parts = e ∙ sym (append-nil r.held);
    takes = subst (Takes r.source r.source []) {x = 0} (omega arith) (Takes-none _);
    counts = counted_none _ [] refl;
    fall = omega arith;
    few = omega arith;
    are_bytes = fits;
  };
  room = few;
}

-- the loop goes on, with nothing pending
pub Going-clear : {S E : Type 0} {r : Start S E} {u : S} {left came : ℕ} {b : Supply} {l : Store} {held pending : List ℕ}
    → Clear r u left came b l held 0 → pending ≡ [] → Going r u left came b l held pending
Going-clear {r = r} {u = u} h none = record {
  used = h.used;
  text = h.text;
  between = u;
  spans = h.spans;
  since = [];
  text_since = [];
  spans_since = Spans-none r.w r.m u;
  written = [];
  gains = rw append-nil h.gains;
  parts = none;
  taken = h.taken;
  room = h.room;
  compact = λ is. omega (arith, ap length none);
}

-- a frame has no more bytes than it uses
around_fits : (kind : AMQPFrameType) (p n : ℕ) → 8 ≤ n → (kind ≢ kinds.ProtocolHeader → p + 8 ≤ n) → length_around kind p ≤ n
around_fits kind p n least h = grind arith

-- A borrowed frame has no more bytes than it uses of those that it lies in.
pub frame_fits : (m : ℕ) (held : List ℕ) (raw : Raw) (n : ℕ) → scan (Some m) held ≡ took raw n → frame_length raw ≤ n
frame_fits m held raw n found =
    around_fits raw.kind (length raw.payload) n (scan-in_bounds (Some m) held raw n found).least (λ e. scan-beside (Some m) held raw n found e)

module _ {S E : Type 0} {r : Start S E} {u : S} {left came : ℕ} {b : Supply} {l : Store} {held pending : List ℕ}
    (g : Going r u left came b l held pending) where
  -- what was pending was written
  pub Clear-flushed : {l' : Store} {done : Unit {0}} → WritesAll l l' pending (Ok done) → Clear r u left came b l' held 0
  Clear-flushed all = record {
    used = g.used ++ g.since;
    text = g.text ++ g.text_since;
    spans = Spans-then g.spans g.spans_since;
    gains = rw (append_assoc, g.parts) at (Gains-then _ _ _ _ _ g.gains (rw all.ok at all.gains));
    taken = rw append_assoc g.taken;
    room = omega (arith, length-append g.since held);
  }

  -- these bytes were gathered, for what was used since
  going_on : {v : S} {l' : Store} {after bytes : List ℕ} (since rest : List ℕ) → Spans r.w r.m g.between v since (g.text_since ++ bytes)
      → Gathered l l' pending after bytes → since ++ rest ≡ g.since ++ held
      → (IsTrue r.w.compact → length after ≤ length since) → Going r v left came b l' rest after
  going_on {after = after} {bytes = bytes} since rest spans k same compact = record {
    used = g.used;
    text = g.text;
    between = g.between;
    spans = g.spans;
    since = since;
    text_since = g.text_since ++ bytes;
    spans_since = spans;
    written = g.written ++ k.written;
    gains = rw append_assoc at (Gains-then _ _ _ _ _ g.gains k.gains);
    parts = grind (arith, append_assoc);
    taken = rw same g.taken;
    room = omega (arith, ap length same);
    compact = compact;
  }

  -- nothing of a frame was gathered
  pub Going-kept : {l' : Store} {after : List ℕ} → Keeps l l' pending after → Going r u left came b l' held after
  Going-kept {after = after} k =
      going_on _ held (rw append-nil g.spans_since) k refl
      (λ is. omega (arith, g.compact is, ap length (k.parts ∙ append-nil pending), length-append k.written after))

  -- a frame that lies at the front of what is held is used, and what is written for it was gathered
  pub Going-frame : {v : S} {l' : Store} {after : List ℕ} {layout : FrameLayout}
      → Lies r.m held layout → Writes r.w u v (laid_out layout held) l l' pending after
      → (IsTrue r.w.compact → length after ≤ length pending + layout.frame_len) → Going r v left came b l' (drop layout.frame_len held) after
  Going-frame {layout = layout} lies w compact =
      let n = layout.frame_len in
      let all : take n held ++ drop n held ≡ held = take-append-drop n held in
      going_on (g.since ++ take n held) (drop n held) (Spans-then g.spans_since (Spans-one r.m held n lies.found w.step)) w.gathered
      (rw (append_assoc, all))
      (λ is.
      omega (arith, g.compact is, compact is, ap length all, length-drop n held, length-append {A = ℕ}))

  -- what is pending for a compact writer and the next frame fit a buffer for the largest frame
  pub fits_room : {layout : FrameLayout} → Lies r.m held layout → IsTrue r.w.compact → length pending + frame_length (laid_out layout held) ≤ r.m + 8
  fits_room {layout = layout} lies is =
      omega (arith, g.compact is, length-append g.since held, frame_fits r.m held (laid_out layout held) layout.frame_len lies.found)

-- one read, after which nothing is pending still
pub Clear-read : {S E : Type 0} {r : Start S E} {u : S} {left came later : ℕ}
    {b c : Supply} {l : Store} {held after : List ℕ} {q : Result ℕ SourceFault} (idle : ℕ)
    → Clear r u left came b l held 0 → 0 < left → (h : ReadsMore (b ⇒ c) (held ⇒ after) q) → 1 ≤ length h.piece + idle
    → Some later ≡ counted (length h.piece) (Some came) → length after ≤ r.m + 8 → Clear r u (left - 1) later c l after idle
Clear-read {r = r} {left = left} {came = came} {later = later} {c = c} {held = held} {after = after} idle k some h enough counts room =
    let t = k.taken in
    let parts : (k.used ++ held) ++ h.piece ≡ k.used ++ after = cc (append_assoc k.used held h.piece, h.held) in
    record {
      used = k.used;
      text = k.text;
      spans = k.spans;
      gains = k.gains;
      taken = rw (← parts) (record {
        piece = t.piece ++ h.piece;
        parts = cc (append_assoc r.held t.piece h.piece, t.parts);
        takes =
            subst (Takes r.source c (t.piece ++ h.piece)) {x = (r.budget - left) + 1} (omega arith)
            (Takes-then _ _ _ _ _ _ _ t.takes h.takes);
        counts = counted_more r.came came later t.piece h.piece t.counts counts;
        fall = omega arith;
        few = omega (arith, length-append t.piece h.piece);
        are_bytes = IsBytes-append (k.used ++ held) h.piece t.are_bytes h.are_bytes;
      });
      room = room;
    }

-- A frame that is used leaves fewer bytes to hold, with as many reads.
pub frame_falls : (m left : ℕ) (held : List ℕ) (layout : FrameLayout) → Lies m held layout
    → left * (m + 9) + length (drop layout.frame_len held) < left * (m + 9) + length held
frame_falls m left held layout lies =
    omega (arith, (scan-in_bounds (Some m) held (laid_out layout held) layout.frame_len lies.found).least, length-drop layout.frame_len held)
