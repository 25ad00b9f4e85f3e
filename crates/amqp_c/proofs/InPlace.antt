-- Runs of canonical frames, and frames that are canonicalized within one buffer.
use Rattle.std.proofs.Common.{[], zero-add, ◌≡◌, ◌≢◌, ℕ, ◌+◌, ◌-◌, ◌<◌, ◌≤◌, true, false, List, ◌∷◌, length, take, drop, Some, Ok, refl, sym, ap, ◌∙◌, arith}
use Rattle.std.proofs.Common.{append_assoc, append-nil}
use Rattle.std.proofs.lemmas.List.{length-take, take_rest, length-append, length-drop, length-take-le, drop-drop, drop_all, take_at, take-append-drop}
use Rattle.amqp_wire.proofs.Cuts.{stop-none, IsStop, front-stop}
use Rattle.amqp_wire.proofs.Encoded.{judged-is, verdict-spells}
use Rattle.amqp_c.proofs.Fronts.{Running, running_falls, Going, error_as, fits_as, found_as, going_on, judged_refused, stops, taken_as}
use Rattle.std.specs.List.{copy_within}
use Rattle.std.proofs.lemmas.Slice.{drop-append-drop}
use Rattle.amqp_types.specs.Levels.{Level, strict}
use Rattle.amqp_types.specs.Judging.{IsBytes, took}
use Rattle.amqp_types.specs.Answers.{RefusesWhole}
use Rattle.amqp_types.specs.Writing.{Puts, written}
use Rattle.amqp_types.specs.declared.errors.ParserError.{ParserError}
use Rattle.amqp_types.specs.declared.errors.ParserError.TheVariants as parses
use Rattle.amqp_types.proofs.Puts.{puts-length}
use Rattle.amqp_wire.specs.declared.judging.FrameJudgement.{FrameJudgement}
use Rattle.amqp_wire.specs.declared.looking.FrameLayout.{FrameLayout}
use Rattle.amqp_wire.specs.Canonical.{canon, canon_frames}
use Rattle.amqp_wire.specs.Frames.{Frame, Raw, frame_length}
use Rattle.amqp_wire.specs.Fronts.{front, place}
use Rattle.amqp_wire.specs.Judgements.{IsJudged}
use Rattle.amqp_wire.specs.Looks.{laid_out}
use Rattle.amqp_wire.specs.HeaderScan.{scan}
use Rattle.amqp_wire.specs.Rewrites as puts
use Rattle.amqp_wire.specs.Spelling.{SpellsFrames}
use Rattle.amqp_wire.specs.Verdicts.{IsPayloadError, judge_frame, decode_raw}
use Rattle.amqp_wire.proofs.HeaderScan.{scan-in_bounds}
use Rattle.amqp_wire.proofs.Sequences.{SpellsFrames-precedes, longest_sequence}
use Rattle.amqp_wire.proofs.Strictness.{one_strict}
use Rattle.amqp_stream.specs.Reading.{Lies}
use Rattle.amqp_stream.specs.Writing.{payload_fault}
use Rattle.amqp_c.specs.declared.in_place.Rewrite.TheVariants as rewrites
use Rattle.amqp_c.specs.InPlace.{IsCanonicalRun, LacksRoom, Rewrites, StopsBefore}
use Rattle.amqp_c.specs.Rewriting.{JudgesAt, came}

-- ---- the bytes of a frame

-- no canonical frame is in front
abbrev pub HasNone : ℕ → List ℕ → Type 0
HasNone m bytes = IsStop (judge_frame strict (Some m) bytes)

module _ (level : Level) (m : ℕ) (bytes : List ℕ) (f : Frame) (n : ℕ) (fits : IsBytes bytes) (e : judge_frame level (Some m) bytes ≡ took f n) where
  one_frame : SpellsFrames level (Some m) (take n bytes) (f ∷ [])
  one_frame =
      let spelled = verdict-spells level (Some m) bytes f n fits e in (take n bytes, [], sym (append-nil (take n bytes)), spelled.0, spelled.1, refl)

  -- the canonical bytes of a frame
  strict_bytes : level ≡ strict → take n bytes ≡ canon f
  strict_bytes is = rw append-nil at ((one_strict level (Some m) (take n bytes) (f ∷ []) one_frame).only (take n bytes) (rw is at one_frame))

  -- no other frame has its canonical bytes
  other_bytes : HasNone m bytes → take n bytes ≢ canon f
  other_bytes stop same =
      let one = (one_strict level (Some m) (take n bytes) (f ∷ []) one_frame).canonical in
      let before = SpellsFrames-precedes strict (Some m) (canon_frames (f ∷ [])) (f ∷ []) one in
      let some = rw (append-nil (canon f), ← same, take-append-drop n bytes) at (before.sequence (drop n bytes)) in
      let none = (front-stop strict (Some m) bytes stop).0 in
      cc (none, some)

-- ---- a run of canonical frames

module _ {m : ℕ} {bytes : List ℕ} {raw : Raw} {layout : FrameLayout} (lies : Lies m bytes layout) (is : raw ≡ laid_out layout bytes) where
  -- Where the payload of the frame in front is refused, no canonical frame is in front.
  pub run_refused : (error : ParserError) → IsPayloadError error → error ≢ parses.NoMemory → RefusesWhole error (decode_raw raw) → HasNone m bytes
  run_refused error inside some h =
      let u = judged_refused strict raw error (payload_fault error) refl inside some h in
      stops (judge_frame strict (Some m) bytes) (payload_fault error) (error_as lies is u.1 u.2)

  -- Where the frame in front is canonical, a canonical frame of its length is in front.
  pub run_found : {found : FrameJudgement} (j : IsJudged raw found) → found.canonical ≡ true → judge_frame strict (Some m) bytes ≡ took j.frame layout.frame_len
  run_found j canonical = taken_as lies is strict j.frame (sym j.canonical ∙ canonical) j.is

  -- Where the frame in front is not canonical, no canonical frame is in front.
  pub run_missed : {found : FrameJudgement} → IsJudged raw found → found.canonical ≡ false → HasNone m bytes
  unfolding judge_frame
  run_missed j not = rw (found_as lies is, sym j.canonical ∙ not, j.is) tt

module _ {m : ℕ} {bytes : List ℕ} {used : ℕ} (r : Running strict m bytes used) (fits : IsBytes bytes) where
  -- Where no canonical frame is in front of the rest, what was passed is the longest run of canonical frames.
  pub run_stops : HasNone m (drop used bytes) → IsCanonicalRun m bytes used
  run_stops none =
      let left : place strict (Some m) bytes ≡ drop used bytes = r.after ∙ (front-stop strict (Some m) (drop used bytes) none).1 in
      let s = longest_sequence strict (Some m) bytes fits in
      let size : length s.spelled ≡ used =
      omega (arith, ap length s.parts, length-append s.spelled (place strict (Some m) bytes), ap length left, length-drop used bytes, r.within) in
      let same : take used bytes ≡ s.spelled = ap (take used) s.parts ∙ take_at s.spelled (place strict (Some m) bytes) used size in
      record {
        within = r.within;
        frames = front strict (Some m) bytes;
        sequence = rw same s.sequence;
        canonical = same ∙ (one_strict strict (Some m) s.spelled (front strict (Some m) bytes) s.sequence).only s.spelled s.sequence;
        longest = λ other rest fs e h. omega (arith, s.longest other rest fs e h, size);
      }

  -- Where all bytes were passed, they are.
  pub run_finishes : length bytes ≤ used → IsCanonicalRun m bytes used
  run_finishes all = run_stops (rw (drop_all used bytes all) (stop-none strict (Some m)))

-- ---- one frame

module _ {m : ℕ} {bytes : List ℕ} {raw : Raw} {layout : FrameLayout} (lies : Lies m bytes layout) (is : raw ≡ laid_out layout bytes)
    (level : Level) {judged : FrameJudgement} (j : JudgesAt level raw (Ok judged)) where
  -- Where the frame in front is canonical, it is kept as it is.
  pub rewrite_kept : IsBytes bytes → judged.canonical ≡ true
      → (frame : Frame) × (judge_frame level (Some m) bytes ≡ took frame layout.frame_len) × (take layout.frame_len bytes ≡ canon frame)
  rewrite_kept fits so = (
    j.0.frame,
    taken_as lies is level j.0.frame j.1 j.0.is,
    strict_bytes strict m bytes j.0.frame layout.frame_len fits (run_found lies is j.0 so) refl,
  )

  -- Where the frame in front is not canonical, and has more bytes than some room, it has no room there.
  pub rewrite_no_room : {room : ℕ} → IsBytes bytes → judged.canonical ≡ false → room < layout.frame_len → LacksRoom level m bytes room
  rewrite_no_room fits not short =
      let taken = taken_as lies is level j.0.frame j.1 j.0.is in
      record {
        frame = j.0.frame;
        used = layout.frame_len;
        found = taken;
        changed = other_bytes level m bytes j.0.frame layout.frame_len fits taken (run_missed lies is j.0 not);
        longer = short;
      }

  -- Where the canonical bytes of the frame in front are put in the spare buffer, they are no longer than it.
  pub rewrite_spare : {old new : List ℕ} {count : ℕ} → layout.frame_len ≤ length old → puts.Rewrites old new 0 (decode_raw raw) (Ok count)
      → count ≤ 0 + frame_length raw → Rewrites level m bytes old new (Ok (rewrites.Spare layout.frame_len count))
  unfolding written
  rewrite_spare {old = old} {new} {count} room puts within =
      let put = puts.2 in
      let fits = fits_as lies is in
      let size = puts-length old new 0 count (canon puts.0) (omega (arith, put.behind, within, fits, room)) put in (
        puts.0,
        taken_as lies is level puts.0 j.1 puts.1,
        omega (arith, within, fits, room, size),
        ap (take count) put.put ∙ take_at (canon puts.0) (drop (0 + length (canon puts.0)) old) count (omega (arith, put.behind)),
        omega (arith, within, fits),
      )

-- ---- the buffer

module _ (buf : List ℕ) (from count to : ℕ) (inside : from + count ≤ length buf) where
  moved_size : length (take count (drop from buf)) ≡ count
  moved_size = length-take-le count (drop from buf) (omega (arith, length-drop from buf))

  -- Moving bytes within a buffer puts them at the place where they are moved to.
  pub moved_front : (new : List ℕ) → new ≡ copy_within buf from (from + count) to → Puts buf new to (take count (drop from buf)) (to + count)
  unfolding written
  moved_front new is =
      let many : from + count - from ≡ count = omega arith in record { put = rw (is, many, moved_size, append_assoc); behind = omega (arith, moved_size) }

  -- Bytes that stay where they are, are put there.
  pub moved_nowhere : from ≡ to → Puts buf buf to (take count (drop from buf)) (to + count)
  unfolding written
  moved_nowhere same = record {
    put =
        rw (moved_size, ← same, ← drop-drop count from buf, take-append-drop count (drop from buf), take-append-drop from buf);
    behind = omega (arith, moved_size);
  }

-- a frame is in front of the rest, and these are its canonical bytes, no more than its own
pub record Next (level : Level) (m : ℕ) (rest : List ℕ) (more : ℕ) (text : List ℕ) : Type 0 where
  frame : Frame
  found : judge_frame level (Some m) rest ≡ took frame more
  is : text ≡ canon frame
  short : length text ≤ more

module _ {level : Level} {m : ℕ} {bytes now : List ℕ} {used done : ℕ} (g : Going level m bytes bytes now used done) where
  -- What was not used is as it was.
  pub going_rest : drop used now ≡ drop used bytes
  unfolding written
  going_rest =
      let text = canon_frames g.frames in
      rw (g.put.put, zero-add (length text)) (drop-append-drop (length text) bytes text used (omega (arith, g.put.behind, g.shorter)) refl)

  -- Frames that were put in a buffer leave its length.
  pub going_length : length now ≡ length bytes
  going_length = puts-length bytes now 0 done (canon_frames g.frames) (omega (arith, g.put.behind, g.shorter, g.run.within)) g.put

  -- A canonical frame that is kept is put next,
  pub next_kept : {more : ℕ} → Rewrites level m (take (length now - used) (drop used now)) [] [] (Ok (rewrites.Kept more))
      → Next level m (drop used bytes) more (take more (drop used now))
  next_kept {more = more} r =
      let kept = rw take_rest at r in
      record { frame = kept.0; found = rw going_rest at kept.1; is = kept.2; short = omega (arith, length-take more (drop used now)) }

  -- and so is one out of the spare buffer.
  pub next_spare : (spare : List ℕ) {more count : ℕ} → Rewrites level m (take (length now - used) (drop used now)) [] spare (Ok (rewrites.Spare more count))
      → Next level m (drop used bytes) more (take count spare)
  next_spare spare {count = count} r =
      let kept = rw take_rest at r in
      record { frame = kept.0; found = rw going_rest at kept.1; is = kept.3; short = omega (arith, kept.4, length-take count spare) }

  module _ {more : ℕ} {text : List ℕ} (n : Next level m (drop used bytes) more text) where
    -- It has at least eight bytes, and lies within the buffer, and so within the bytes, where its canonical bytes fit.
    pub frame_falls : (8 ≤ more) × (used + more ≤ length now) × (used + more ≤ length bytes) × (done + length text ≤ length now)
    frame_falls =
        let falls = running_falls g.run n.found in
        (falls.0, omega (arith, falls.1, going_length), falls.1, omega (arith, falls.1, going_length, g.shorter, n.short))

    -- It is put to those before it.
    pub going_next : {new : List ℕ} {end : ℕ} → Puts now new done text end → Going level m bytes bytes new (used + more) end
    going_next put =
        going_on g (omega arith) (record { frame = n.frame; found = n.found; put = rw n.is at put; no_longer = omega (arith, put.behind, n.short) })

  -- Where the spare buffer has no room for the frame in front, the progress stops before it, with the buffer kept after the frames.
  pub going_lacks : (room : ℕ) → LacksRoom level m (drop used now) room → StopsBefore level m room bytes now (came used done 40)
  going_lacks room lacks = record {
    frames = g.frames;
    sequence = g.sequence;
    after = g.run.after;
    put = g.put;
    no_longer = g.shorter;
    next = rw going_rest at lacks;
    unused = refl;
  }

-- a spare buffer with room for a frame of the largest size lacks none
pub enough_room : {level : Level} {m room : ℕ} {bytes : List ℕ} → m + 8 ≤ room → LacksRoom level m bytes room → ⊥
unfolding judge_frame
enough_room {level = level} {m} {bytes = bytes} h lacks =
    let found = judged-is level (scan (Some m) bytes) lacks.frame lacks.used lacks.found in
    omega (arith, h, lacks.longer, (scan-in_bounds (Some m) bytes found.raw lacks.used found.found).limit m refl)
