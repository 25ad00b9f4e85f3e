-- The loop of `forward`: what was read and written so far, one more frame, and how it ends.
use Rattle.std.proofs.Common.{◌≡◌, ℕ, ◌+◌, ◌-◌, ◌≤◌, List, [], ◌∷◌, ◌++◌, length, take, drop, Option, Some, None, Result, Ok, Err, IsErrAnd, inl, inr}
use Rattle.std.proofs.Common.{refl, sym, ap, subst, ◌∙◌, arith, append_assoc, append-nil}
use Rattle.std.proofs.lemmas.List.{length-append, take-append-drop}
use Rattle.amqp_types.specs.Levels.{plain}
use Rattle.amqp_types.specs.Judging.{IsBytes}
use Rattle.amqp_types.proofs.Bytes.{IsBytes-take}
use Rattle.amqp_wire.specs.Frames.{Frame, Raw, raw_of, frame_length}
use Rattle.amqp_wire.specs.Canonical.{canon, canon_frames}
use Rattle.amqp_wire.specs.Spelling.{SpellsFrames}
use Rattle.amqp_wire.specs.Fronts.{front, place, ComesBefore}
use Rattle.amqp_wire.specs.declared.raw_frame.AMQPRawFrame.{AMQPRawFrame}
use Rattle.amqp_wire.proofs.HeaderScan.{scan-in_bounds}
use Rattle.amqp_wire.proofs.Cuts.{ComesBefore-none, ComesBefore-more, verdict-whole, front-none, place-none}
use Rattle.amqp_wire.proofs.Sequences.{sequence_of_all}
use Rattle.amqp_wire.proofs.Strictness.{canon_frames-more}
use Rattle.amqp_stream.specs.declared.errors.ReadError.{ReadError}
use Rattle.amqp_stream.specs.declared.errors.ReadError.TheVariants as reads
use Rattle.amqp_stream.specs.declared.errors.StreamError.{StreamError}
use Rattle.amqp_stream.specs.declared.sink.SinkFault.{SinkFault}
use Rattle.amqp_stream.specs.Changes.{◌⇒◌}
use Rattle.amqp_stream.specs.Ends.{Supply, Store, Takes, Gains}
use Rattle.amqp_stream.specs.Errors.{stream_error, Cause, faulty, write_failed, cause_of}
use Rattle.amqp_stream.specs.Reading.{Holding, Ends, idle_reads, IsBorrowed, HasNext}
use Rattle.amqp_stream.specs.Writing.{WritesAll, Gathered, GatherFails, WritesFrame, IsUnwritten}
use Rattle.amqp_stream.proofs.Adding.{Rises-later, Takes-then, Takes-none, Gains-none, Gains-then, IsBytes-append, IsBytes-nil}
use Rattle.amqp_stream.proofs.Going.{frame_fits}
use Rattle.amqp_stream.proofs.NextCalls.{next_bytes}
use Rattle.amqp_vectors_streams.specs.Forwarding.{IsPassed, IsEndedBy, HasEnded, IsForwardedUpTo, HasForwarded, Forwards}

-- ---- one frame, with nothing pending before it and after it

-- what was pending of it was written
pub gathered_flushed : {a b c : Store} {before pending bytes : List ℕ} {done : Unit {0}} → before ≡ []
    → Gathered a b before pending bytes → WritesAll b c pending (Ok done) → Gathered a c [] [] bytes
gathered_flushed {a = a} {b = b} {c = c} {bytes = bytes} none g all = record {
  written = g.written ++ all.piece;
  gains = Gains-then a b c g.written all.piece g.gains all.gains;
  parts = append-nil (g.written ++ all.piece) ∙ ap (λ (xs : List ℕ). g.written ++ xs) all.ok ∙ g.parts ∙ ap (λ (xs : List ℕ). xs ++ bytes) none;
}

-- a part of what was pending of it was written
pub flush_fails : {a b c : Store} {before pending bytes : List ℕ} {bad : SinkFault} → before ≡ []
    → Gathered a b before pending bytes → WritesAll b c pending (Err bad) → GatherFails a c [] [] bytes
flush_fails {a = a} {b = b} {c = c} {bytes = bytes} none g all = record {
  piece = g.written ++ all.piece;
  gains = Gains-then a b c g.written all.piece g.gains all.gains;
  prefix = (
    all.prefix.0,
    append_assoc g.written all.piece all.prefix.0 ∙ ap (λ (xs : List ℕ). g.written ++ xs) all.prefix.1 ∙ g.parts ∙ ap (λ (xs : List ℕ). xs ++ bytes) none,
  );
  rises = Rises-later a.faults b.faults c.faults g.gains.faults all.gains.faults all.err;
  none = refl;
}

-- ---- the loop

abbrev holding : ℕ → List ℕ → Holding
holding m held = record { limit = m; held = held }

-- a call of `next`, by the limit and the bytes that were held
abbrev pub Next : ℕ → Supply → Supply → ℕ → ℕ → List ℕ → Holding → Result (Option AMQPRawFrame) ReadError → Type 0
Next m b c budget budget' held new r = HasNext IsBorrowed (b ⇒ c) (budget ⇒ budget') (holding m held ⇒ new) r

-- the same, by its result
pub next_by : {m : ℕ} {b c : Supply} {budget budget' : ℕ} {old new : Holding} {read r : Result (Option AMQPRawFrame) ReadError}
    → old.limit ≡ m → read ≡ r → HasNext IsBorrowed (b ⇒ c) (budget ⇒ budget') (old ⇒ new) read → Next m b c budget budget' old.held new r
next_by {b = b} {c = c} {budget = budget} {budget' = budget'} {old = old} {new = new} {r = r} limit is next =
    subst (λ x. HasNext IsBorrowed (b ⇒ c) (budget ⇒ budget') (holding x old.held ⇒ new) r) limit (rw is at next)

-- What was read so far, and written for its frames. The rest is held, and at most `idle` reads gave nothing.
pub record Forwarded (m : ℕ) (before : List ℕ) (budget_old budget : ℕ) (a b : Supply) (k l : Store) (rest : List ℕ) (idle : ℕ) : Type 0 where
  pub taken : List ℕ
  pub are_bytes : IsBytes taken
  pub takes : Takes a b taken (budget_old - budget)
  pub budget_falls : budget ≤ budget_old
  pub few : budget_old ≤ budget + length taken + idle
  pub frames : List Frame
  pub front : List ℕ
  pub front_fits : IsBytes front
  pub all : before ++ taken ≡ front ++ rest
  pub precedes : ComesBefore plain (Some m) front frames
  pub gains : Gains k l (canon_frames frames)

-- At the start nothing was read and nothing was written.
pub Forwarded-none : (m : ℕ) (before : List ℕ) (budget : ℕ) (a : Supply) (k : Store) → Forwarded m before budget budget a a k k before 0
Forwarded-none m before budget a k = record {
  taken = [];
  are_bytes = IsBytes-nil;
  takes = subst (Takes a a []) {x = 0} (omega arith) (Takes-none a);
  budget_falls = omega arith;
  few = omega arith;
  frames = [];
  front = [];
  front_fits = IsBytes-nil;
  all = append-nil before;
  precedes = ComesBefore-none plain (Some m);
  gains = Gains-none k;
}

-- more was read, after the rest
Forwarded-pulled : {m : ℕ} {before : List ℕ} {budget_old budget budget' : ℕ} {a b c : Supply} {k l : Store}
    {held : List ℕ} {new : Holding} {r : Result (Option AMQPRawFrame) ReadError} (idle : ℕ)
    → Forwarded m before budget_old budget a b k l held 0 → (p : Next m b c budget budget' held new r)
    → budget ≤ budget' + length p.taken + idle → Forwarded m before budget_old budget' a c k l p.bytes idle
Forwarded-pulled {before = before} {budget_old = budget_old} {budget = budget} {budget' = budget'} {a = a} {b = b} {c = c} {held = held} idle f p few =
    let piece = p.taken in
    record {
      taken = f.taken ++ piece;
      are_bytes = IsBytes-append f.taken piece f.are_bytes (next_bytes p);
      takes =
          subst (Takes a c (f.taken ++ piece)) {x = (budget_old - budget) + (budget - budget')} (omega (arith, f.budget_falls, p.budget_falls))
          (Takes-then a b c f.taken piece (budget_old - budget) (budget - budget') f.takes p.takes);
      budget_falls = omega (arith, f.budget_falls, p.budget_falls);
      few = omega (arith, f.few, few, length-append f.taken piece);
      frames = f.frames;
      front = f.front;
      front_fits = f.front_fits;
      all =
          sym (append_assoc before f.taken piece) ∙ ap (λ (xs : List ℕ). xs ++ piece) f.all
          ∙ append_assoc f.front held piece ∙ ap (λ (xs : List ℕ). f.front ++ xs) (sym p.all);
      precedes = f.precedes;
      gains = f.gains;
    }

-- the frame at the front of the rest was written
Forwarded-frame : {m : ℕ} {before : List ℕ} {budget_old budget : ℕ} {a b : Supply} {k l l' : Store} {rest after : List ℕ} {raw : Raw} {done : Unit {0}}
    → Forwarded m before budget_old budget a b k l rest 0 → IsBytes rest → IsPassed m rest after raw
    → WritesFrame raw l l' [] [] (Ok done) → Forwarded m before budget_old budget a b k l' after 0
Forwarded-frame {m = m} {k = k} {l = l} {l' = l'} {rest = rest} {raw = raw} f fits passed writes =
    let n = passed.used in
    let frame = writes.0 in
    let g = writes.2 in
    let first = take n rest in
    let bytes : g.written ≡ canon frame = sym (append-nil g.written) ∙ g.parts in
    record {
      taken = f.taken;
      are_bytes = f.are_bytes;
      takes = f.takes;
      budget_falls = f.budget_falls;
      few = f.few;
      frames = f.frames ++ frame ∷ [];
      front = f.front ++ first;
      front_fits = IsBytes-append f.front first f.front_fits (IsBytes-take n rest fits);
      all =
          f.all ∙ ap (λ (xs : List ℕ). f.front ++ xs) (sym (take-append-drop n rest))
          ∙ sym (append_assoc f.front first (drop n rest)) ∙ ap (λ (xs : List ℕ). (f.front ++ first) ++ xs) (sym passed.held);
      precedes =
          ComesBefore-more plain (Some m) f.front rest f.frames frame n f.precedes (verdict-whole plain (Some m) rest raw n frame passed.found refl writes.1);
      gains =
          subst (Gains k l') (ap (λ (xs : List ℕ). canon_frames f.frames ++ xs) bytes ∙ sym (canon_frames-more f.frames frame))
          (Gains-then k l l' (canon_frames f.frames) g.written f.gains g.gains);
    }

-- a borrowed frame is passed
passed : (m : ℕ) (b after : List ℕ) (raw : AMQPRawFrame) → IsBorrowed m b after raw → IsPassed m b after (raw_of raw)
passed m b after raw borrowed = record { used = borrowed.0; found = borrowed.1; held = borrowed.2 }

-- a borrowed frame fits a buffer for the largest frame
pub frame_room : {m : ℕ} {b c : Supply} {budget budget' : ℕ} {held : List ℕ} {new : Holding} {raw : AMQPRawFrame}
    → Next m b c budget budget' held new (Ok (Some raw)) → frame_length (raw_of raw) ≤ m + 8
frame_room {m = m} {raw = raw} p =
    omega (arith, frame_fits m p.bytes (raw_of raw) p.ends.0 p.ends.1, (scan-in_bounds (Some m) p.bytes (raw_of raw) p.ends.0 p.ends.1).within, p.room)

-- one more frame was read and written
pub Forwarded-more : {m : ℕ} {before : List ℕ} {budget_old budget budget' : ℕ} {a b c : Supply}
    {k l l' : Store} {held : List ℕ} {new : Holding} {raw : AMQPRawFrame} {done : Unit {0}}
    → Forwarded m before budget_old budget a b k l held 0 → Next m b c budget budget' held new (Ok (Some raw))
    → WritesFrame (raw_of raw) l l' [] [] (Ok done) → Forwarded m before budget_old budget' a c k l' new.held 0
Forwarded-more {m = m} {new = new} {raw = raw} f p writes =
    Forwarded-frame (Forwarded-pulled 0 f p p.idle) p.are_bytes (passed m p.bytes new.held raw p.ends) writes

-- ---- how it ends

-- the front is a sequence of frames
sequence_of : (m : ℕ) (front_is : List ℕ) (frames : List Frame) → IsBytes front_is
    → ComesBefore plain (Some m) front_is frames → SpellsFrames plain (Some m) front_is frames
sequence_of m front_is frames fits p =
    let fronts : front plain (Some m) front_is ≡ frames =
    ap (front plain (Some m)) (sym (append-nil front_is)) ∙ p.sequence []
    ∙ ap (λ (fs : List Frame). frames ++ fs) (front-none plain (Some m)) ∙ append-nil frames in
    let none : place plain (Some m) front_is ≡ [] = ap (place plain (Some m)) (sym (append-nil front_is)) ∙ p.after [] ∙ place-none plain (Some m) in
    subst (λ (fs : List Frame). SpellsFrames plain (Some m) front_is fs) fronts (sequence_of_all plain (Some m) front_is fits none)

forwards : {m : ℕ} {before : List ℕ} {budget_old budget : ℕ} {a b : Supply} {k l l' : Store} {rest after written : List ℕ}
    {r : Result (Unit {0}) StreamError} (f : Forwarded m before budget_old budget a b k l rest 1)
    → Gains k l' written → HasForwarded m f.frames written rest after r
    → HasEnded m budget a b k l' rest after r → Forwards m before budget_old budget a b k l' after r
forwards {m = m} {before = before} {rest = rest} {written = written} f gains wrote ended = record {
  taken = f.taken;
  are_bytes = f.are_bytes;
  takes = f.takes;
  budget_falls = f.budget_falls;
  few = f.few;
  frames = f.frames;
  front = f.front;
  rest = rest;
  all = f.all;
  sequence = sequence_of m f.front f.frames f.front_fits f.precedes;
  precedes = f.precedes;
  written = written;
  gains = gains;
  wrote = wrote;
  ended = ended;
}

-- the end of input
pub forwards_all : {m : ℕ} {before : List ℕ} {budget_old budget budget' : ℕ} {a b c : Supply} {k l : Store} {held : List ℕ} {new : Holding}
    → Forwarded m before budget_old budget a b k l held 0 → Next m b c budget budget' held new (Ok None)
    → Forwards m before budget_old budget' a c k l new.held (Ok tt)
unfolding Forwarded-pulled
forwards_all f p = forwards (Forwarded-pulled 1 f p p.idle) f.gains refl p.ends

-- an error of reading
unread_wrote : (m : ℕ) (frames : List Frame) (rest after : List ℕ) (error : ReadError)
    → HasForwarded m frames (canon_frames frames) rest after (Err (stream_error error))
unread_wrote m frames rest after reads.UnknownFrameType = refl
unread_wrote m frames rest after reads.BadProtocolHeader = refl
unread_wrote m frames rest after reads.TooLarge = refl
unread_wrote m frames rest after reads.BadFrameEnd = refl
unread_wrote m frames rest after reads.CutShort = refl
unread_wrote m frames rest after reads.TurnsSpent = refl
unread_wrote m frames rest after reads.ReadFault = refl

unread_ended : (m budget : ℕ) (a b c : Supply) (k l : Store) (rest after : List ℕ) (error : ReadError) → a.faults ≤ b.faults → b.faults ≤ c.faults
    → Ends IsBorrowed m rest (b ⇒ c) budget after (Err error) → after ≡ rest → HasEnded m budget a c k l rest after (Err (stream_error error))
unread_ended m budget a b c k l rest after reads.UnknownFrameType early late fails held = inl (fails, held)
unread_ended m budget a b c k l rest after reads.BadProtocolHeader early late fails held = inl (fails, held)
unread_ended m budget a b c k l rest after reads.TooLarge early late fails held = inl (fails, held)
unread_ended m budget a b c k l rest after reads.BadFrameEnd early late fails held = inl (fails, held)
unread_ended m budget a b c k l rest after reads.CutShort early late fails held = ((fails.0, held), fails.1, fails.2)
unread_ended m budget a b c k l rest after reads.TurnsSpent early late fails held = ((fails.0, held), fails.1)
unread_ended m budget a b c k l rest after reads.ReadFault early late fails held = ((fails.0, held), Rises-later a.faults b.faults c.faults early late fails.1)

idle_few : (budget budget' taken : ℕ) (error : ReadError)
    → budget ≤ budget' + taken + idle_reads {X = AMQPRawFrame} (Err error) → budget ≤ budget' + taken + 1
idle_few budget budget' taken error few = grind arith

-- Where reading the next frame ends with an error, `forward` ends with it, after it wrote the frames before.
pub forwards_unread : {m : ℕ} {before : List ℕ} {budget_old budget budget' : ℕ} {a b c : Supply}
    {k l : Store} {held : List ℕ} {new : Holding} {error : ReadError} (r : Result (Unit {0}) StreamError)
    → Forwarded m before budget_old budget a b k l held 0 → Next m b c budget budget' held new (Err error)
    → IsErrAnd r (λ told. told ≡ stream_error error) → Forwards m before budget_old budget' a c k l new.held r
unfolding Forwarded-pulled
forwards_unread (Ok done) f p same = absurd same
forwards_unread {m = m} {budget = budget} {budget' = budget'} {a = a} {b = b} {c = c} {k = k} {l = l} {new = new} {error = error} (Err told) f p same =
    let pulled = Forwarded-pulled 1 f p (idle_few budget budget' (length p.taken) error p.idle) in
    rw same (forwards pulled f.gains (unread_wrote m f.frames p.bytes new.held error)
    (unread_ended m budget' a b c k l p.bytes new.held error f.takes.faults p.takes.faults p.ends p.kept))

-- What was written, and why it ended, where the frame at the front of the rest was not written in full.
record Stops (m budget : ℕ) (a b : Supply) (k l : Store) (frames : List Frame) (rest after : List ℕ) (cause : Cause) : Type 0 where
  written : List ℕ
  gains : Gains k l written
  wrote : IsForwardedUpTo m frames written rest after cause
  ended : IsEndedBy m budget a b k l rest after cause

stops : (m budget : ℕ) (a b : Supply) (k l l' : Store) (frames : List Frame) (rest after : List ℕ) (raw : Raw) (cause : Cause)
    → Gains k l (canon_frames frames) → IsPassed m rest after raw → IsUnwritten raw l l' [] [] cause → Stops m budget a b k l' frames rest after cause
stops m budget a b k l l' frames rest after raw (faulty bad) gains passed unwritten =
    let kept = unwritten.2 in
    let none : kept.written ≡ [] = sym (append-nil kept.written) ∙ kept.parts in
    record {
      written = canon_frames frames;
      gains =
          subst (Gains k l') (ap (λ (xs : List ℕ). canon_frames frames ++ xs) none ∙ append-nil (canon_frames frames))
          (Gains-then k l l' (canon_frames frames) kept.written gains kept.gains);
      wrote = refl;
      ended = inr (raw, passed, unwritten.0);
    }
stops m budget a b k l l' frames rest after raw write_failed gains passed unwritten =
    let fails = unwritten.2 in
    record {
      written = canon_frames frames ++ fails.piece;
      gains = Gains-then k l l' (canon_frames frames) fails.piece gains fails.gains;
      wrote = record {
        raw = raw;
        passed = passed;
        next = unwritten.0;
        is_whole = unwritten.1;
        part = fails.piece;
        begins = fails.prefix;
        parts = refl;
      };
      ended = Rises-later k.faults l.faults l'.faults gains.faults fails.gains.faults fails.rises;
    }
stops m budget a b k l l' frames rest after raw cause gains passed unwritten = absurd unwritten

-- Where writing a frame ends with an error, `forward` ends with it, after it wrote the frames before.
pub forwards_unwritten : {m : ℕ} {before : List ℕ} {budget_old budget budget' : ℕ} {a b c : Supply} {k l l' : Store}
    {held : List ℕ} {new : Holding} {raw : AMQPRawFrame} (error : StreamError) (r : Result (Unit {0}) StreamError)
    → Forwarded m before budget_old budget a b k l held 0 → Next m b c budget budget' held new (Ok (Some raw))
    → WritesFrame (raw_of raw) l l' [] [] (Err error) → IsErrAnd r (λ told. told ≡ error) → Forwards m before budget_old budget' a c k l' new.held r
unfolding Forwarded-pulled
forwards_unwritten error (Ok done) f p writes same = absurd same
forwards_unwritten {m = m} {budget' = budget'} {a = a} {c = c} {k = k} {l = l} {l' = l'} {new = new} {raw = raw} error (Err told) f p writes same =
    let pulled = Forwarded-pulled 1 f p (omega (arith, p.idle)) in
    let at = stops m budget' a c k l l' f.frames p.bytes new.held (raw_of raw) (cause_of error) f.gains (passed m p.bytes new.held raw p.ends) writes in
    rw same (forwards pulled at.gains at.wrote at.ended)
