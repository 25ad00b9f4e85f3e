-- Writes one after another.
use Rattle.amqp_stream.proofs
use Rattle.amqp_wire.specs as wire
use proofs.Names.{◌≡◌, ◌≢◌, ℕ, ◌+◌, ◌-◌, List, [], ◌++◌, length, take, drop, Bool, true, Result, Ok, Err, refl, sym, subst, ◌∙◌, append_assoc, append-nil}
use proofs.Names.{take_rest, take-append-drop, take-add, Raw, Frame, Body, decode_raw, is_at, judge_decoded, canon, Level, Fault, not_tidy, fault, ParserError}
use proofs.Names.{SinkFault, StreamError, Cause, faulty, write_failed, cause_of, Store, Gains, Rises, WritesAll, IsFaulty, Gathered, GatherFails, Manner}
use proofs.Names.{finished, stopped_by, WritesBy, arith}
use Rattle.std.proofs.lemmas.Result.{on_ok_weaker, on_err_weaker}
use wire.declared.version.ProtocolVersion.{ProtocolVersion}
use wire.Frames.{Proto, beat_on}
use wire.Verdicts.{IsPayloadError, decode_payload}
use wire.Spelling.{framed, proto}
use Rattle.amqp_types.specs.Answers.{RefusesWhole}
use Rattle.amqp_stream.specs.Writing.{payload_fault, WritesFrame, IsUnwritten, Gathers, Keeps, stream_result}
use proofs.Adding.{Rises-later, Gains-none, Gains-then}
use Rattle.amqp_wire.proofs.Rewritten.{canon_beat}
use proofs.Names.kinds
use Rattle.amqp_types.specs.declared.errors.ParserError.TheVariants as parses

-- one more write
pub Gains-more : (a b c : Store) (bytes : List ℕ) (done n : ℕ) → Gains a b (take done bytes)
    → Gains b c (take n (take (length bytes - done) (drop done bytes))) → Gains a c (take (done + n) bytes)
Gains-more a b c bytes done n f g =
    rw (take-add done n bytes, ← take_rest bytes done) (Gains-then _ _ _ _ _ f g)

-- a write that failed
pub WritesAll-fault : (a b c : Store) (bytes : List ℕ) (done : ℕ) (bad : SinkFault)
    → Gains a b (take done bytes) → Gains b c [] → Rises b.faults c.faults → WritesAll a c bytes (Err bad)
WritesAll-fault a b c bytes done bad f g r = record {
  piece = take done bytes;
  gains = rw append-nil at (Gains-then _ _ _ _ _ f g);
  prefix = (drop done bytes, take-append-drop done bytes);
  ok = tt;
  err = Rises-later _ _ _ f.faults g.faults r;
}

-- bytes and then more bytes
pub WritesAll-then : {a b c : Store} {p q : List ℕ} {u : Unit {0}} {r : Result (Unit {0}) SinkFault}
    → WritesAll a b p (Ok u) → WritesAll b c q r → WritesAll a c (p ++ q) r
WritesAll-then {p = p} {r = r} f g =
    let first : f.piece ≡ p = f.ok in
    record {
      piece = f.piece ++ g.piece;
      gains = Gains-then _ _ _ _ _ f.gains g.gains;
      prefix = (g.prefix.0, cc (first, append_assoc f.piece g.piece g.prefix.0));
      ok = on_ok_weaker r (λ same. cc first) g.ok;
      err = on_err_weaker r (Rises-later _ _ _ f.gains.faults g.gains.faults) g.err;
    }

-- bytes that are pending after the others
pub pushed : (a : Store) (before after bytes : List ℕ) (u : Unit {0}) → after ≡ before ++ bytes → Gathers a a before after bytes (Ok u)
pushed a before after bytes u e = search (Gains-none a)

-- a failed write of the front of them all
pub gather_fails : {a b : Store} {bytes before after all : List ℕ} {e : SinkFault} (rest : List ℕ)
    → WritesAll a b bytes (Err e) → bytes ++ rest ≡ before ++ all → after ≡ [] → GatherFails a b before after all
gather_fails rest f same none = record {
  piece = f.piece;
  gains = f.gains;
  prefix = (f.prefix.0 ++ rest, cc (append_assoc f.piece f.prefix.0 rest));
  rises = f.err;
  none = none;
}

-- the pending bytes were written, and then these
pub written_after : (a b c : Store) (before after bytes : List ℕ) (u : Unit {0}) (r : Result (Unit {0}) SinkFault)
    → after ≡ [] → WritesAll a b before (Ok u) → WritesAll b c bytes r → Gathers a c before after bytes r
written_after a b c before after bytes u (Ok v) e f g =
    let all = WritesAll-then f g in
    record { written = all.piece; gains = all.gains; parts = rw e (append-nil all.piece ∙ all.ok) }
written_after a b c before after bytes u (Err d) e f g = gather_fails [] (WritesAll-then f g) (append-nil (before ++ bytes)) e

-- What was pending could not be written, so that these bytes were not gathered.
pub flush_failed : (a b : Store) (before after bytes : List ℕ) (e : SinkFault)
    → after ≡ [] → WritesAll a b before (Err e) → Gathers a b before after bytes (Err e)
flush_failed a b before after bytes e none f = gather_fails bytes f refl none

-- all of a text was written, and the rest is pending
pub all_but : {a b : Store} {bytes before after all : List ℕ} {u : Unit {0}}
    → WritesAll a b bytes (Ok u) → bytes ++ after ≡ before ++ all → Gathered a b before after all
all_but f same = record { written = f.piece; gains = f.gains; parts = rw f.ok same }

-- bytes were gathered, and then all that was pending was written
pub gathered_flushed : {a b c : Store} {before mid bytes : List ℕ} {r : Result (Unit {0}) SinkFault}
    → Gathered a b before mid bytes → WritesAll b c mid r → WritesAll a c (before ++ bytes) r
gathered_flushed {a = a} {b = b} g f =
    let front : WritesAll a b g.written (Ok tt) = record { piece = g.written; gains = g.gains; prefix = ([], append-nil g.written); ok = refl; err = tt } in
    rw g.parts at (WritesAll-then front f)

-- bytes that were gathered were pending before, too
pub settled : {a b : Store} {before mid bytes : List ℕ} → Gathered a b before mid bytes → Keeps a b (before ++ bytes) mid
settled {before = before} {bytes = bytes} g = search (g.parts ∙ sym (append-nil (before ++ bytes)))

-- ---- the canonical bytes of a frame

-- The canonical bytes of a frame were gathered, or a write failed.
pub wrote : (raw : Raw) (a b : Store) (before after bytes : List ℕ) (f : Frame) (r : Result (Unit {0}) SinkFault)
    → decode_raw raw ≡ Ok f → bytes ≡ canon f → Gathers a b before after bytes r → WritesFrame raw a b before after (stream_result r)
wrote raw a b before after bytes f (Ok u) w e h = (f, w, rw e at h)
wrote raw a b before after bytes f (Err d) w e h = (f, w, rw e at h)

-- A body that was gathered as it came is the canonical bytes of its frame.
pub wrote-body : (raw : Raw) (a b : Store) (before after : List ℕ) (r : Result (Unit {0}) SinkFault) → raw.kind ≡ kinds.Body
    → Gathers a b before after (framed 3 raw.channel raw.payload) r → WritesFrame raw a b before after (stream_result r)
unfolding decode_payload canon
wrote-body raw a b before after r k h = wrote raw a b before after (framed 3 raw.channel raw.payload) (Body raw.channel raw.payload) r (rw k refl) refl h

-- nothing was gathered
pub kept : (a : Store) (before after : List ℕ) → after ≡ before → Keeps a a before after
kept a before after e = search (Gains-none a, e ∙ sym (append-nil before))

-- ---- a payload that is none

-- a payload that has a fault, at any level
pub record IsNone (raw : Raw) (cause : Cause) : Type 0 where
  pub bad : Fault
  pub is_whole : decode_raw raw ≡ Err bad
  pub other : bad ≢ not_tidy
  pub tells : faulty bad ≡ cause

-- a call that returned this error
abbrev pub refusing : ParserError → Result (Unit {0}) ParserError
refusing error = Err error

-- Calls that returned an error returned the same one.
pub refused_by : {error other : ParserError} → refusing error ≡ refusing other → error ≡ other
refused_by h = cc

-- A payload that was refused, and not out of memory, has that fault at any level.
pub is_none : (raw : Raw) (error : ParserError) → IsPayloadError error → refusing error ≢ Err parses.NoMemory
    → RefusesWhole error (decode_raw raw) → IsNone raw (cause_of (payload_fault error))
is_none raw parses.NoMemory inside some h = absurd (some refl)
is_none raw parses.Incomplete inside some h = absurd inside
is_none raw parses.UnknownFrameType inside some h = absurd inside
is_none raw parses.BadProtocolHeader inside some h = absurd inside
is_none raw parses.BadFrameEnd inside some h = absurd inside
is_none raw error inside some h = record { bad = _; is_whole = h; other = λ e. absurd cc; tells = refl }

module _ (raw : Raw) (a : Store) (before after : List ℕ) where
  -- canonical bytes that are pending after the others
  pub added : (f : Frame) → decode_raw raw ≡ Ok f → after ≡ before ++ canon f → WritesFrame raw a a before after (Ok tt)
  added f w e = (f, w, pushed a before after (canon f) tt e)

  -- A heartbeat without a payload that was gathered is the canonical bytes of its frame.
  pub wrote-beat : (bytes : List ℕ) → raw.kind ≡ kinds.Heartbeat
      → bytes ≡ framed 8 raw.channel [] → after ≡ before ++ bytes → WritesFrame raw a a before after (Ok tt)
  unfolding decode_payload
  wrote-beat bytes k e h = added (beat_on raw.channel) (rw k refl) (cc (canon_beat raw.channel))

  -- A protocol header that was gathered is the canonical bytes of its frame.
  pub wrote-proto : (bytes : List ℕ) (v : ProtocolVersion) → raw.kind ≡ kinds.ProtocolHeader
      → decode_payload kinds.ProtocolHeader raw.channel raw.payload ≡ Ok (Proto v.major v.minor v.revision)
      → bytes ≡ proto v.major v.minor v.revision → after ≡ before ++ bytes → WritesFrame raw a a before after (Ok tt)
  unfolding canon
  wrote-proto bytes v k is_whole is h = added (Proto v.major v.minor v.revision) (rw k is_whole) cc

  -- a method or content header that was not read
  pub added_refused : (error : ParserError) → IsPayloadError error → refusing error ≢ Err parses.NoMemory
      → RefusesWhole error (decode_raw raw) → after ≡ before → WritesFrame raw a a before after (Err (payload_fault error))
  added_refused error inside some h same =
      let none = is_none raw error inside some h in
      subst (IsUnwritten raw a a before after) none.tells (none.is_whole, none.other, kept _ _ _ same)

-- ---- a frame at a level

-- what whole payload has a fault, at each level
faulty_at : (t : Bool) (read : Result Frame Fault) (bad : Fault) (n : ℕ) → read ≡ Err bad → judge_decoded t read n ≡ fault bad
faulty_at t read bad n e = grind arith

-- a frame that is none at any level
pub is_faulty : (level : Level) (raw : Raw) (bad : Fault) → decode_raw raw ≡ Err bad → bad ≢ not_tidy → IsFaulty level raw bad
is_faulty level raw bad e other = record { judged_bad = λ n. faulty_at (is_at level raw) (decode_raw raw) bad n e; tidy_only = λ h. absurd (other h) }

-- ---- a step of a writer that writes the canonical bytes of a frame

-- A frame of which the canonical bytes were gathered, as a step of a writer that writes them.
pub written_by : {S E : Type 0} {w : Manner S E} {s t : S} {raw : Raw} {a b : Store} {before after : List ℕ} (done : Unit {0})
    → ((f : Frame) → w.step s f ≡ Ok (canon f, t)) → is_at w.level raw ≡ true
    → WritesFrame raw a b before after (Ok done) → WritesBy w s t raw a b before after finished
written_by done steps at h = search

-- A frame of which they were not, as the ending of such a writer.
pub unwritten_by : {S E : Type 0} (w : Manner S E) {s : S} (t : S) (raw : Raw) (a b : Store) (before after : List ℕ) (error : StreamError)
    → ((f : Frame) → w.step s f ≡ Ok (canon f, t)) → is_at w.level raw ≡ true
    → WritesFrame raw a b before after (Err error) → WritesBy w s s raw a b before after (stopped_by (cause_of error))
unwritten_by w {s = s} t raw a b before after error steps at h = by_cause (cause_of error) h
  where
    by_cause : (cause : Cause) → IsUnwritten raw a b before after cause → WritesBy w s s raw a b before after (stopped_by cause)
    by_cause (faulty bad) h = (is_faulty w.level raw bad h.0 h.1, h.2, refl)
    by_cause write_failed h =
        record { bytes = canon h.0; next = t; step = record { frame = h.0; is_whole = h.1; at_level = at; steps = steps h.0 }; failed = h.2 }
    by_cause cause h = absurd h
