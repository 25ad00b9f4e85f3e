-- One frame that is put, and the loop over the frames in front.
use Rattle.std.proofs.Common.{[], ◌≡◌, ◌≢◌, ℕ, ◌+◌, ◌<◌, ◌≤◌, ◌^◌, true, false, List, ◌∷◌, ◌++◌, length, drop, Some, Ok, Err, refl, sym, ap, ◌∙◌, arith}
use Rattle.std.proofs.Common.{append_assoc, append-nil}
use Rattle.std.proofs.lemmas.List.{length-append, length-drop, drop-drop, drop_all}
use Rattle.amqp_types.specs.Levels.{Level, tidy}
use Rattle.amqp_types.specs.Judging.{Fault, Judged, took, not_tidy}
use Rattle.amqp_types.specs.Answers.{RefusesWhole}
use Rattle.amqp_types.specs.Writing.{Puts}
use Rattle.amqp_types.specs.declared.errors.ParserError.{ParserError}
use Rattle.amqp_types.specs.declared.errors.ParserError.TheVariants as parses
use Rattle.amqp_types.proofs.Puts.{puts_none, puts_then}
use Rattle.amqp_wire.specs.declared.judging.FrameJudgement.{FrameJudgement}
use Rattle.amqp_wire.specs.declared.looking.FrameLayout.{FrameLayout}
use Rattle.amqp_wire.specs.Canonical.{canon, canon_frames}
use Rattle.amqp_wire.specs.Frames.{Frame, Raw, frame_length}
use Rattle.amqp_wire.specs.Fronts.{front, place}
use Rattle.amqp_wire.specs.Judgements.{IsJudged}
use Rattle.amqp_wire.specs.Looks.{laid_out}
use Rattle.amqp_wire.specs.HeaderScan.{scan}
use Rattle.amqp_wire.specs.Verdicts.{IsPayloadError, is_at, judge_scanned, judge_frame, decode_raw}
use Rattle.amqp_wire.proofs.Cuts.{IsStop, front-got, front-stop, stop-none, verdict-got_within, verdict-whole}
use Rattle.amqp_wire.proofs.HeaderScan.{scan-in_bounds}
use Rattle.amqp_wire.proofs.Strictness.{canon_frames-more}
use Rattle.amqp_stream.specs.declared.errors.StreamError.{StreamError}
use Rattle.amqp_stream.specs.declared.errors.StreamError.TheVariants as errors
use Rattle.amqp_stream.specs.Errors.{error_for, stream_error_status, status_of}
use Rattle.amqp_stream.specs.Reading.{Lies}
use Rattle.amqp_stream.specs.Causes.{answer_at}
use Rattle.amqp_stream.specs.Writing.{IsFaulty, payload_fault}
use Rattle.amqp_stream.proofs.Going.{frame_fits}
use Rattle.amqp_stream.proofs.Tidying.{is_untidy}
use Rattle.amqp_stream.proofs.Writes.{is_faulty}
use Rattle.amqp_c.specs.Rewriting.{came, CanonicalizesPart, JudgesAt, PutsFrom}
use Rattle.amqp_c.specs.Scans.{error_at}

-- ---- at a level

-- Decoding a frame at any level, where its payload is refused, returns the error of that fault.
pub judged_refused : (level : Level) (raw : Raw) (error : ParserError) (stream : StreamError) → stream ≡ payload_fault error
    → IsPayloadError error → error ≢ parses.NoMemory → RefusesWhole error (decode_raw raw) → JudgesAt level raw (Err stream)
judged_refused level raw parses.NoMemory stream is inside some h = absurd (some refl)
judged_refused level raw parses.Incomplete stream is inside some h = absurd inside
judged_refused level raw parses.UnknownFrameType stream is inside some h = absurd inside
judged_refused level raw parses.BadProtocolHeader stream is inside some h = absurd inside
judged_refused level raw parses.BadFrameEnd stream is inside some h = absurd inside
judged_refused level raw error stream is inside some h = (_, is_faulty level raw _ h (λ e. absurd cc), is)

-- A frame that is not tidy is refused at level tidy.
pub judged_untidy : {raw : Raw} {found : FrameJudgement} → IsJudged raw found → found.tidy ≡ false → JudgesAt tidy raw (Err errors.NotTidy)
judged_untidy {raw = raw} j not = (not_tidy, is_untidy raw j.frame j.is (sym j.tidy ∙ not), refl)

-- ---- the frame in front

stop_judged : (level : Level) (j : Judged Raw) (error : StreamError) → error_at j ≡ Some error → error_at (judge_scanned level j) ≡ Some error
stop_judged level j error e = grind arith

-- A fault of the header scan is the fault of the verdict, at each level.
pub unscanned : (level : Level) (m : ℕ) (bytes : List ℕ) (error : StreamError)
    → error_at (scan (Some m) bytes) ≡ Some error → error_at (judge_frame level (Some m) bytes) ≡ Some error
unfolding judge_frame
unscanned level m bytes error e = stop_judged level (scan (Some m) bytes) error e

-- the frame that lies in front of the bytes
module _ {m : ℕ} {bytes : List ℕ} {raw : Raw} {layout : FrameLayout} (lies : Lies m bytes layout) (is : raw ≡ laid_out layout bytes) where
  -- It is what the header scan finds.
  pub found_as : scan (Some m) bytes ≡ took raw layout.frame_len
  found_as = lies.found ∙ ap (λ (r : Raw). took r layout.frame_len) (sym is)

  -- Where its payload is decoded, and it is at the level, the verdict takes it.
  pub taken_as : (level : Level) (frame : Frame) → is_at level raw ≡ true
      → decode_raw raw ≡ Ok frame → judge_frame level (Some m) bytes ≡ took frame layout.frame_len
  taken_as level frame at_level whole = grind (arith, verdict-whole, found_as)

  -- The error for a fault of its payload is the verdict's.
  pub error_as : {level : Level} {bad : Fault} {error : StreamError} → IsFaulty level raw bad → error ≡ error_for bad
      → error_at (judge_frame level (Some m) bytes) ≡ Some error
  unfolding judge_frame
  error_as faulty e = rw (found_as, faulty.judged_bad layout.frame_len, e)

  -- It has no more bytes than were found.
  pub fits_as : frame_length raw ≤ layout.frame_len
  fits_as = frame_fits m bytes raw layout.frame_len found_as

  -- Within a limit below 2^32, its payload has fewer than 2^32 bytes.
  pub front_few : m < 2 ^ 32 → length raw.payload < 2 ^ 32
  front_few few = omega (arith, (scan-in_bounds (Some m) bytes raw layout.frame_len found_as).payload m refl)

-- ---- the loop

-- So many bytes are whole frames, whatever follows.
pub record Running (level : Level) (m : ℕ) (bytes : List ℕ) (used : ℕ) : Type 0 where
  pub after : place level (Some m) bytes ≡ place level (Some m) (drop used bytes)
  pub within : used ≤ length bytes

-- At the start no byte was passed.
pub running_start : (level : Level) (m : ℕ) (bytes : List ℕ) → Running level m bytes 0
running_start level m bytes = record { after = refl; within = omega arith }

module _ {level : Level} {m : ℕ} {bytes : List ℕ} {used : ℕ} (r : Running level m bytes used) {frame : Frame} {more : ℕ}
    (found : judge_frame level (Some m) (drop used bytes) ≡ took frame more) where
  -- A frame in front of the rest has at least eight bytes, and lies within the bytes.
  pub running_falls : (8 ≤ more) × (used + more ≤ length bytes)
  running_falls =
      let at = verdict-got_within level (Some m) (drop used bytes) frame more found in (at.0, omega (arith, at.1, length-drop used bytes, r.within))

  -- With it one whole frame more was passed.
  pub running_on : Running level m bytes (used + more)
  running_on = record {
    after = r.after ∙ rw (← drop-drop more used bytes) (front-got level (Some m) (drop used bytes) frame more found).after;
    within = running_falls.1;
  }

-- So many bytes are a sequence of frames, whatever follows, whose canonical bytes stand at the front of the buffer.
pub record Going (level : Level) (m : ℕ) (bytes old now : List ℕ) (used done : ℕ) : Type 0 where
  pub run : Running level m bytes used
  pub frames : List Frame
  pub sequence : front level (Some m) bytes ≡ frames ++ front level (Some m) (drop used bytes)
  pub put : Puts old now 0 (canon_frames frames) done
  pub shorter : done ≤ used

-- At the start no frame was decoded and nothing was put.
pub going_start : (level : Level) (m : ℕ) (bytes old : List ℕ) → Going level m bytes old old 0 0
going_start level m bytes old =
    record { run = running_start level m bytes; frames = []; sequence = refl; put = puts_none old 0 [] refl; shorter = omega arith }

-- what has an error is no frame
pub stops : (j : Judged Frame) (error : StreamError) → error_at j ≡ Some error → IsStop j
stops j error e = grind arith

status_stop : (bytes : List ℕ) (j : Judged Frame) (error : StreamError) → 0 < length bytes
    → error_at j ≡ Some error → status_of (answer_at bytes j) ≡ stream_error_status error
status_stop bytes j error some e = grind arith

module _ {level : Level} {m : ℕ} {bytes old now : List ℕ} {used done : ℕ} (g : Going level m bytes old now used done) where
  -- With one frame more, the canonical bytes of all frames so far stand at the front of the buffer.
  pub going_on : {new : List ℕ} {more end : ℕ} → length bytes ≤ length old
      → PutsFrom level m (drop used bytes) now new done more end → Going level m bytes old new (used + more) end
  going_on {new = new} {more = more} {end = end} room p =
      let goes = front-got level (Some m) (drop used bytes) p.frame more p.found in
      let long : 0 + length (canon_frames g.frames ++ canon p.frame) ≤ length old =
      omega (arith, length-append (canon_frames g.frames) (canon p.frame), g.put.behind, p.put.behind, p.no_longer, g.shorter, running_falls g.run p.found) in
      record {
        run = running_on g.run p.found;
        frames = g.frames ++ p.frame ∷ [];
        sequence = g.sequence ∙ rw (append_assoc, ← drop-drop more used bytes, goes.sequence);
        put = rw (canon_frames-more g.frames p.frame) (puts_then old now new 0 done end (canon_frames g.frames) (canon p.frame) long g.put p.put);
        shorter = omega (arith, p.no_longer, g.shorter);
      }

  -- where no frame is in front of the rest
  going_ends : (status : ℕ) → IsStop (judge_frame level (Some m) (drop used bytes))
      → status_of (answer_at (drop used bytes) (judge_frame level (Some m) (drop used bytes))) ≡ status
      → CanonicalizesPart level m bytes old now (came used done status)
  going_ends status stop is =
      let ends = front-stop level (Some m) (drop used bytes) stop in
      let left : place level (Some m) bytes ≡ drop used bytes = g.run.after ∙ ends.1 in
      record {
        used = omega (arith, ap length left, length-drop used bytes, g.run.within);
        left = sym left;
        put = rw (g.sequence, ends.0, append-nil) g.put;
        no_longer = g.shorter;
        status = rw left (sym is);
        unused = refl;
      }

  -- Where the frames in front end at a fault, the progress says it, and their canonical bytes stand in the buffer.
  pub going_stops : (error : StreamError) → used < length bytes → error_at (judge_frame level (Some m) (drop used bytes)) ≡ Some error
      → CanonicalizesPart level m bytes old now (came used done (stream_error_status error))
  going_stops error some e =
      let judged = judge_frame level (Some m) (drop used bytes) in
      going_ends (stream_error_status error) (stops judged error e)
      (status_stop (drop used bytes) judged error (omega (arith, length-drop used bytes)) e)

  -- Where the frames in front reach the end of the bytes, the progress says no fault.
  pub going_finishes : length bytes ≤ used → CanonicalizesPart level m bytes old now (came used done 0)
  going_finishes all = grind (arith, drop_all, going_ends, stop-none)
