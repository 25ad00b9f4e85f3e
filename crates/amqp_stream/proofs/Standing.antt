-- Frames that stand: their own bytes are what is written for them; frames that are kept and do not; and one frame of a run, taken.
use Rattle.amqp_stream.proofs
use Rattle.amqp_stream.specs
use proofs.Names.{◌≡◌, ℕ, ◌+◌, ◌≤◌, List, ◌++◌, length, take, drop, true, Option, Some, Result, Ok, Err, IsTrue, refl, sym, ap, subst, ◌∙◌, arith, append_assoc}
use proofs.Names.{append-nil, ◌-◌, drop-drop, length-append, length-drop, length-take-le, drop_at, take_at, take-add, IsBytes, FrameJudgement, FrameLayout, Raw}
use proofs.Names.{frame_length, laid_out, canon, IsJudged, decode_raw, verdict-whole, Decision, RunError, IsKept, Store, Lies, Manner, Writes, EndsWith}
use proofs.Names.{gathered, IsTaken, IsStopped, Gathered, Adds, written, written-length}
use Rattle.amqp_types.specs.Levels.{strict}
use Rattle.amqp_wire.proofs.Encoded.{verdict-spells}
use Rattle.amqp_wire.proofs.Strictness.{strict_canon}
use specs.Decisions.{stands, PassesBy, RefusesTo}
use specs.Taking.{GathersFrame}
use proofs.Going.{frame_fits}
use proofs.Transcribing.{gathered_then}
use proofs.Writes.{pushed, kept, settled}
use proofs.Spans.{written_front, written_behind}
use proofs.Names.decisions

-- the bytes of a frame that was judged to be canonical
pub stands_canon : {m : ℕ} {bytes : List ℕ} {layout : FrameLayout} {judged : FrameJudgement} → IsBytes bytes → Lies m bytes layout
    → (h : IsJudged (laid_out layout bytes) judged) → judged.canonical ≡ true → take layout.frame_len bytes ≡ canon h.frame
stands_canon fits lies h canonical =
    strict_canon _ _ (verdict-spells strict _ _ _ _ fits (verdict-whole _ _ _ _ _ _ lies.found (sym h.canonical ∙ canonical) h.is)).0

-- a decision by which a frame stands keeps it
record Stands {S E : Type 0} (w : Manner S E) (s t : S) (raw : Raw) : Type 0 where
  judged : FrameJudgement
  kept : IsKept w s t raw judged
  canonical : judged.canonical ≡ true

stands_kept : {S E : Type 0} {w : Manner S E} {s t : S} {raw : Raw} (passed : Result (Option Decision) (RunError E))
    → PassesBy w s t raw passed → stands passed ≡ true → Stands w s t raw
stands_kept (Ok (Some (decisions.Kept judged))) h is = search
stands_kept passed h is = absurd cc

-- A frame that lies after the bytes that passed ends within those that are held.
pub frame_room : {m : ℕ} {layout : FrameLayout} (passed : ℕ) (held : List ℕ) → passed ≤ length held
    → Lies m (drop passed held) layout → passed + layout.frame_len ≤ length held
frame_room passed held within lies = omega (arith, length-drop passed held)

-- the same of a frame that is this one
pub passed_as : {S E : Type 0} {raw other : Raw} (w : Manner S E) (s t : S) (decision : Option Decision)
    → raw ≡ other → PassesBy w s t raw (Ok decision) → PassesBy w s t other (Ok decision)
passed_as w s t decision same h = subst (λ (r : Raw). PassesBy w s t r (Ok decision)) same h

-- ---- a frame that does not stand: first the stretch was gathered

-- what had room behind the stretch has it after
pub room_left : {old new : Store} {before mid stretch : List ℕ} {passed room room_after : ℕ} {other : Raw} (held : List ℕ) (raw : Raw)
    → raw ≡ other → Gathered old new before mid stretch → stretch ≡ take passed held → passed ≤ length held
    → length before + passed + frame_length other ≤ room → room_after ≡ room → length mid + frame_length raw ≤ room_after
room_left {before = before} {mid = mid} {stretch = stretch} {passed = passed} held raw frame g same within enough room =
    omega (
      arith,
      enough,
      ap frame_length frame,
      room,
      ap length same,
      length-take-le passed held within,
      ap length g.parts,
      length-append {A = ℕ},
    )

-- a frame that is kept, and whose canonical bytes come next
pub kept_taken : {S E : Type 0} {w : Manner S E} {s t : S} {held rest before after : List ℕ}
    {layout : FrameLayout} {judged : FrameJudgement} {store : Store} {passed longer : ℕ}
    → IsKept w s t (laid_out layout (drop passed held)) judged → GathersFrame layout held rest before after passed longer
    → IsTaken w s t layout store store held rest before after passed longer
kept_taken {held = held} {rest = rest} {before = before} {store = store} {passed = passed} kept g =
    let earlier = gathered before passed held in
    record {
      within = g.within;
      rest = g.rest;
      compact = λ compact. omega (arith, ap length g.gathered_is, length-append earlier (canon g.frame));
      writes = record {
        bytes = canon kept.is_judged.frame;
        step = kept.step;
        gathered = pushed store earlier _ _ tt (let same : g.frame ≡ kept.is_judged.frame = cc in cc);
      };
    }

-- a frame that stands lengthens the stretch
pub stands_taken : {S E : Type 0} {w : Manner S E} {s t : S} {m : ℕ} {held pending : List ℕ} {layout : FrameLayout}
    {store : Store} {passed longer : ℕ} {raw : Raw} (decided : Result (Option Decision) (RunError E))
    → IsBytes (drop passed held) → passed ≤ length held → Lies m (drop passed held) layout
    → raw ≡ laid_out layout (drop passed held) → PassesBy w s t raw decided → stands decided ≡ true
    → longer ≡ passed + layout.frame_len → IsTaken w s t layout store store held held pending pending passed longer
stands_taken {held = held} {pending = pending} {layout = layout} {passed = passed} decided fits within lies frame passes is same =
    let n = layout.frame_len in
    let at = stands_kept decided (rw frame at passes) is in
    let own = stands_canon fits lies at.kept.is_judged at.canonical in
    kept_taken at.kept (record {
      frame = at.kept.is_judged.frame;
      is_whole = at.kept.is_judged.is;
      within = omega (arith, frame_room passed held within lies);
      rest = cc (drop-drop n passed held);
      no_longer = omega (arith, ap length own, length-take-le n (drop passed held) lies.inside);
      gathered_is = cc (take-add passed n held, own, append_assoc pending (take passed held) (canon at.kept.is_judged.frame));
    })

-- what is written for it was gathered, and its bytes are held no more
pub written_taken : {S E : Type 0} {w : Manner S E} {s t : S} {m : ℕ} {held rest before mid after : List ℕ}
    {layout : FrameLayout} {old middle new : Store} {passed none : ℕ} (raw : Raw)
    → Lies m (drop passed held) layout → raw ≡ laid_out layout (drop passed held) → Gathered old middle before mid (take passed held)
    → Writes w s t raw middle new mid after → (IsTrue w.compact → length after ≤ length mid + frame_length raw)
    → rest ≡ drop (passed + layout.frame_len) held → none ≡ 0 → IsTaken w s t layout old new held rest before after passed none
written_taken {m = m} {held = held} {rest = rest} {before = before} {mid = mid} {after = after}
    {layout = layout} {old = old} {new = new} {passed = passed} {none = none} raw lies frame g written few same zero =
    let h = rw frame at written in
    let all = gathered_then (settled g) h.gathered in
    let long = frame_fits m (drop passed held) (laid_out layout (drop passed held)) layout.frame_len lies.found in
    let empty : after ≡ gathered after none rest = rw (zero, append-nil) in
    record {
      within = omega arith;
      rest = rw zero (same ∙ sym (drop-drop _ _ held));
      compact = λ is. omega (arith, few is, ap frame_length frame, ap length empty, ap length g.parts, length-append g.written mid);
      writes = record {
        bytes = h.bytes;
        step = h.step;
        gathered = subst (λ (xs : List ℕ). Gathered old new (gathered before passed held) xs h.bytes) empty all;
      };
    }

-- the writer was left as it was, and wrote for it
pub left_writes : {S E : Type 0} {w : Manner S E} {s u t : S} {raw : Raw} {old new : Store} {mid after : List ℕ}
    → u ≡ s → Writes w u t raw old new mid after → Writes w s t raw old new mid after
left_writes same h = rw same at h

-- ---- the run ends at it

-- before anything was written for it
pub refused_stops : {S E : Type 0} {w : Manner S E} {s t : S} {raw other : Raw} {old new : Store} {pending : List ℕ} {why : RunError E} {error : RunError E}
    → raw ≡ other → RefusesTo w s t raw why → EndsWith old new pending why (Err error) → IsStopped w s t other old new pending error
refused_stops {old = old} {pending = pending} {why = why} frame decides ends = record {
  mid = old;
  later = old;
  pending = pending;
  after = pending;
  why = why;
  keeps = kept _ _ _ refl;
  writes = (rw frame at decides) old pending;
  ends = ends;
}

-- ---- the canonical bytes of a frame that is kept were put after the pending ones, and then into its place, or the stretch before them

module _ {m : ℕ} {layout : FrameLayout} {held rest before middle after : List ℕ} {passed pending : ℕ} (raw : Raw)
    (lies : Lies m (drop passed held) layout) (frame : raw ≡ laid_out layout (drop passed held)) (put : Adds before middle (decode_raw raw) (Ok tt))
    (same : pending ≡ length before) where
  -- they were put into the place of the frame
  pub kept_in_place : {piece : List ℕ} {longer : ℕ} → passed ≤ length held → length middle - pending ≡ layout.frame_len
      → piece ≡ drop pending middle → rest ≡ written held passed piece → after ≡ take pending middle
      → longer ≡ passed + layout.frame_len → GathersFrame layout held rest before after passed longer
  kept_in_place {longer = longer} within as_long piece_is put_in kept_is end =
      let bytes = canon put.0 in
      let count : length bytes ≡ layout.frame_len = omega (arith, ap length put.2, length-append before bytes) in
      let placed : rest ≡ written held passed bytes = cc (put.2, drop_at before bytes (length before) refl) in
      let room : passed + length bytes ≤ length held = omega (arith, frame_room passed held within lies) in
      let place : longer ≡ passed + length bytes = omega arith in
      let long : length rest ≡ length held = ap length placed ∙ written-length held passed bytes room in
      let ends : passed + length bytes ≡ passed + layout.frame_len = omega arith in
      record {
        frame = put.0;
        is_whole = ap decode_raw (sym frame) ∙ put.1;
        within = omega arith;
        rest = cc (place, placed, ends, written_behind held passed bytes within, drop-drop layout.frame_len passed held);
        no_longer = omega arith;
        gathered_is =
            cc (
              put.2,
              place,
              placed,
              take_at before bytes (length before) refl,
              written_front held passed bytes within,
              append_assoc before (take passed held) bytes,
            );
      }

  -- or the stretch was put before them, and both are pending
  pub kept_pending : {none : ℕ} → length middle ≤ length before + frame_length raw → after ≡ take pending middle ++ (take passed held ++ drop pending middle)
      → rest ≡ drop (passed + layout.frame_len) held → none ≡ 0 → GathersFrame layout held rest before after passed none
  kept_pending few put_in left zero =
      let bytes = canon put.0 in
      let all : after ≡ before ++ (take passed held ++ bytes) =
      cc (put.2, take_at before bytes (length before) refl, drop_at before bytes (length before) refl) in
      let fits : frame_length raw ≤ layout.frame_len =
      omega (arith, ap frame_length frame, frame_fits m (drop passed held) (laid_out layout (drop passed held)) layout.frame_len lies.found) in
      record {
        frame = put.0;
        is_whole = ap decode_raw (sym frame) ∙ put.1;
        within = omega arith;
        rest = rw zero (left ∙ sym (drop-drop _ _ held));
        no_longer = omega (arith, ap length put.2, length-append before bytes);
        gathered_is = rw (zero, append-nil, append_assoc) all;
      }
