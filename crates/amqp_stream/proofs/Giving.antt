-- The generated stream is given, frame after frame.
use Rattle.amqp_stream.proofs
use Rattle.amqp_stream.specs
use proofs.Names.{◌≡◌, ◌≢◌, ℕ, ◌+◌, ◌-◌, ◌≤◌, List, [], ◌++◌, suc, length, take, drop, sym, ap, ◌∙◌, arith, append_assoc, take-take, take-append-drop, Puts}
use proofs.Names.{held_in, made_frame, made_from}
use Rattle.std.proofs.Common.{ap₂}
use Rattle.amqp_types.proofs.Puts.{puts-length}
use specs.declared.buffer.Span.{Span}
use specs.Making.{IsMaking, left_in}
use proofs.MadeSizes.{made_frame-short}
use proofs.Spans.{put_front, part-drop, part-length}

-- ---- the next frame

abbrev span : ℕ → ℕ → Span
span start end = record { start = start; end = end }

-- After the next frame was put into the buffer of one frame, its bytes are to be given.
pub refilled_making : {frame new : List ℕ} {s : Span} {next frames end : ℕ} → IsMaking frame s next frames
    → next ≢ frames → Puts frame new 0 (made_frame next) end → IsMaking new (span 0 end) (next + 1) frames
refilled_making {frame = frame} {new = new} {next = next} {end = end} making more p =
    let len = puts-length frame new 0 end (made_frame next) (omega (arith, made_frame-short next)) p in
    search (arith, made_frame-short next)

made_from-next : (next frames : ℕ) → next ≤ frames → next ≢ frames
    → made_from next (frames - next) ≡ made_frame next ++ made_from (next + 1) (frames - (next + 1))
made_from-next next frames ordered more = ap (made_from next) {x = frames - next} {y = suc (frames - (next + 1))} (omega arith)

-- The bytes that are left to give stay the same when the next frame is put into the buffer of one frame.
pub refilled_same : (frame new : List ℕ) (s : Span) (next frames end : ℕ) → IsMaking frame s next frames → s.end ≤ s.start
    → next ≢ frames → Puts frame new 0 (made_frame next) end → left_in new (span 0 end) (next + 1) frames ≡ left_in frame s next frames
refilled_same frame new s next frames end making none more p =
    let rest = made_from (next + 1) (frames - (next + 1)) in
    let empty : held_in frame s ≡ [] = ap (λ n. take n (drop s.start frame)) {x = s.end - s.start} {y = 0} (omega arith) in
    let filled : held_in new (span 0 end) ≡ made_frame next =
    ap (λ n. take n new) {x = end - 0} (omega arith) ∙ put_front frame 0 (made_frame next) (omega arith) p in
    cc (filled, made_from-next next frames making.ordered more, empty)

-- ---- a piece of it

-- of all the bytes, so many stand at the front of the buffer, and the others are left
pub record Giving (all buf frame : List ℕ) (s : Span) (next frames given : ℕ) : Type 0 where
  pub making : IsMaking frame s next frames
  pub within : given ≤ length buf
  pub parts : all ≡ take given buf ++ left_in frame s next frames

-- What was given stays so when the next frame is put into the buffer of one frame.
pub given_refilled : {all buf frame new : List ℕ} {s t : Span} {next then frames given : ℕ} → Giving all buf frame s next frames given
    → IsMaking new t then frames → left_in new t then frames ≡ left_in frame s next frames → Giving all buf new t then frames given
given_refilled g making same = let parts = rw (← same) at g.parts in search

-- the first bytes of a part, and what is left of it
cut_part : (frame : List ℕ) (start end n : ℕ) → n ≤ end - start
    → held_in frame (span start end) ≡ take (start + n - start) (drop start frame) ++ held_in frame (span (start + n) end)
cut_part frame start end n h =
    let part = held_in frame (span start end) in
    let first : take n part ≡ take (start + n - start) (drop start frame) =
    take-take n (end - start) (drop start frame) h ∙ ap (λ k. take k (drop start frame)) {x = n} (omega arith) in
    sym (take-append-drop n part) ∙ ap₂ (λ (xs ys : List ℕ). xs ++ ys) first (sym (part-drop frame start end n))

-- A piece of the frame in the buffer that is put behind what was given was given too.
pub given_more : (all buf new frame : List ℕ) (start end next frames given most behind : ℕ)
    → Giving all buf frame (span start end) next frames given → most ≤ end - start → most ≤ length buf - given
    → Puts buf new given (take (start + most - start) (drop start frame)) behind → Giving all new frame (span (start + most) end) next frames behind
given_more all buf new frame start end next frames given most behind g few room p =
    let piece = take (start + most - start) (drop start frame) in
    let rest = made_from next (frames - next) in
    let len = part-length frame start (start + most) (omega arith) (omega arith) in
    let same = puts-length buf new given behind piece (omega arith) p in
    record {
      making = search arith;
      within = omega arith;
      parts =
          cc (
            g.parts,
            cut_part frame start end most few,
            append_assoc piece (held_in frame (span (start + most) end)) rest,
            append_assoc (take given buf) piece (left_in frame (span (start + most) end) next frames),
            put_front buf given piece g.within p,
          );
    }
