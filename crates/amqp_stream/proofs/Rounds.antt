-- One iteration of the engine's loop, by what stands at the front of the held bytes: a fault, a frame, or neither.
use Rattle.amqp_stream.proofs
use Rattle.amqp_stream.specs
use proofs.Names.{◌≡◌, ◌≢◌, ℕ, ◌+◌, ◌-◌, ◌*◌, ◌<◌, ◌≤◌, List, [], length, take, drop, Option, Some, None, Ok, Err, Result, IsTrue, refl, sym, ap, subst, ◌∙◌}
use proofs.Names.{◌⊎◌, inl, inr, arith, length-append, length-take-le, past, IsBytes, frame_length, FrameLayout, scan, laid_out, scan-none, ReadError}
use proofs.Names.{StreamError, RunError, SinkFault, SourceFault, stream_error, budget_spent, read_failed, write_failed, ◌⇒◌, Supply, Store, counted, Holding}
use proofs.Names.{ReadsMore, Lies, Finds, WritesAll, Ending, stopped_by, error_ending, end_with, EndsWith, gathered, IsTaken, IsStopped}
use Rattle.std.proofs.Math.Seq.{drop-nil}
use specs.Buffers.{Buffered}
use specs.Taking.{IsUnflushed}
use proofs.Adding.{counted_none, Rises-later}
use proofs.Pulling.{still_more}
use proofs.Going.{Start, Clear, Going, Clear-held, Going-clear, Going-frame, Going-kept, Clear-flushed, Clear-read, fits_room, frame_falls}
use proofs.Finishing.{Ended, finish_header, finish_spent, finish_unread, finish_end, finish_unflushed, finish_stopped}
use proofs.Names.ends

-- What the loop works on: the writer, the reads that are left, how many bytes came, the two ends, the reader, the output buffer, and how
-- many held bytes passed.
pub record Loop (S : Type 0) : Type 0 where
  pub writer : S
  pub left : ℕ
  pub came : ℕ
  pub source : Supply
  pub sink : Store
  pub reader : Holding
  pub out : Buffered
  pub passed : ℕ

-- what is held after what passed
abbrev pub held_by : {S : Type 0} → Loop S → List ℕ
held_by x = drop x.passed x.reader.held

-- what is pending, and what passed
abbrev pub pending_by : {S : Type 0} → Loop S → List ℕ
pending_by x = gathered x.out.bytes x.passed x.reader.held

-- What holds at each iteration. The limit and the room stay. What passed is pending, and is written from where it is held.
pub record Round {S E : Type 0} (r : Start S E) (room : ℕ) (x : Loop S) : Type 0 where
  pub limit : x.reader.limit ≡ r.m
  pub room_is : x.out.room ≡ room
  pub within : x.passed ≤ length x.reader.held
  pub going : Going r x.writer x.left x.came x.source x.sink (held_by x) (pending_by x)

abbrev nothing_in : ℕ → Buffered
nothing_in room = record { room = room; bytes = [] }

empty_gathered : {room passed : ℕ} {out : Buffered} (held : List ℕ) → out ≡ nothing_in room → passed ≡ 0 → gathered out.bytes passed held ≡ []
empty_gathered held empty none = rw (empty, none)

all_held : {passed : ℕ} (held : List ℕ) → passed ≡ 0 → drop passed held ≡ held
all_held held none = rw none

-- the loop before its first iteration
abbrev begun : {S E : Type 0} → Start S E → Holding → Buffered → ℕ → Loop S
begun r reader out passed =
    record { writer = r.s; left = r.budget; came = r.came; source = r.source; sink = r.sink; reader = reader; out = out; passed = passed }

-- What the loop keeps holds before its first iteration.
pub first_round : {S E : Type 0} {room passed : ℕ} {reader : Holding} {out : Buffered} (r : Start S E) → reader.limit ≡ r.m → reader.held ≡ r.held
    → IsBytes reader.held → length reader.held ≤ r.m + 8 → out ≡ nothing_in room → passed ≡ 0 → Round r room (begun r reader out passed)
first_round {passed = passed} {reader = reader} r limit same fits few empty zero =
    let all = all_held reader.held zero in
    record {
      limit = limit;
      room_is = rw empty;
      within = omega arith;
      going =
          Going-clear (Clear-held r (drop passed reader.held) (all ∙ same) (subst IsBytes (sym all) fits) (omega (arith, ap length all)))
          (empty_gathered reader.held empty zero);
    }

-- ---- a fault, or a frame

module _ {S E : Type 0} {r : Start S E} {room : ℕ} {x : Loop S} (round : Round r room x) where
  -- At a fault of the bytes the run ends, with all written that was gathered.
  pub ends_at_fault : (error : ReadError) {told : StreamError} {result : RunError E} {l : Store} {held : List ℕ}
      → Finds x.reader.limit (held_by x) (Err error) → told ≡ stream_error error
      → EndsWith x.sink l (pending_by x) (ends.Stream told) (Err result) → held ≡ held_by x → Ended r x.writer x.came x.source l held (error_ending result)
  ends_at_fault error finds same stop rest =
      let found = rw round.limit at finds in
      rw rest (finish_header round.going found.0 error found.1 found.2 (rw same at stop))

  -- Where what was gathered could not be written the run ends.
  pub ends_unflushed : {l : Store} {held : List ℕ} {bad : SinkFault}
      → WritesAll x.sink l (pending_by x) (Err bad) → held ≡ held_by x → Ended r x.writer x.came x.source l held (stopped_by write_failed)
  ends_unflushed failed rest = rw rest (finish_unflushed round.going _ failed)

  -- where there is no read budget, none of it was used
  pub all_left : r.budget ≡ 0 → x.left ≡ r.budget
  all_left zero = omega arith

module _ {S E : Type 0} {r : Start S E} {room : ℕ} {x : Loop S} {found : Option FrameLayout} {layout : FrameLayout}
    (round : Round r room x) (finds : Finds x.reader.limit (held_by x) (Ok found)) (is : found ≡ Some layout) where
  frame_at : Lies r.m (held_by x) layout
  frame_at = rw (is, round.limit) at finds

  -- For a compact writer what is gathered and the next frame fit the output buffer.
  pub frame_has_room : r.m + 8 ≤ room → IsTrue r.w.compact → length x.out.bytes + x.passed + frame_length (laid_out layout (held_by x)) ≤ x.out.room
  frame_has_room enough compact =
      omega (
        arith,
        fits_room round.going frame_at compact,
        length-append x.out.bytes (take x.passed x.reader.held),
        length-take-le x.passed x.reader.held round.within,
      )

  -- At a frame that the writer does not take the run ends there.
  pub ends_at_frame : {t : S} {l : Store} {held : List ℕ} {error : RunError E} → (IsUnflushed x.sink l (pending_by x) error
      ⊎ IsStopped r.w x.writer t (laid_out layout (held_by x)) x.sink l (pending_by x) error) × (held ≡ held_by x)
      → Ended r t x.came x.source l held (error_ending error)
  ends_at_frame {t = t} stops =
      rw stops.1 (elim stops.0 [
        | inl h ↦ rw h.is (finish_unflushed round.going t h.written)
        | inr h ↦ finish_stopped t (Going-kept round.going h.keeps) frame_at.found h.writes h.ends
      ])

  -- What the loop keeps holds after a frame was taken.
  pub round_after_frame : {t : S} {l : Store} {reader : Holding} {out : Buffered} {longer : ℕ}
      → IsTaken r.w x.writer t layout x.sink l x.reader.held reader.held x.out.bytes out.bytes x.passed longer
      → out.room ≡ x.out.room → reader.limit ≡ x.reader.limit
      → Round r room (record { writer = t; left = x.left; came = x.came; source = x.source; sink = l; reader = reader; out = out; passed = longer })
  round_after_frame taken room_is limit = record {
    limit = limit ∙ round.limit;
    room_is = room_is ∙ round.room_is;
    within = taken.within;
    going = rw taken.rest (Going-frame round.going frame_at taken.writes taken.compact);
  }

  -- What falls with each iteration falls with a frame.
  pub frame_shortens : {held : List ℕ} → held ≡ drop layout.frame_len (held_by x)
      → x.left * (r.m + 9) + length held < x.left * (r.m + 9) + length (held_by x)
  frame_shortens same = rw same (frame_falls r.m x.left (held_by x) layout frame_at)

-- ---- neither: all that was gathered was written, what passed is held no more, and more bytes are needed

module _ {S E : Type 0} {r : Start S E} {room : ℕ} {x : Loop S} {found : Option FrameLayout} {l : Store} {held : List ℕ} {done : Unit {0}}
    (round : Round r room x) (written : WritesAll x.sink l (pending_by x) (Ok done)) (rest : held ≡ held_by x)
    (finds : Finds x.reader.limit (held_by x) (Ok found)) (none : found ≡ None) where
  clear : Clear r x.writer x.left x.came x.source l held 0
  clear = rw rest (Clear-flushed round.going written)

  more : scan (Some r.m) held ≡ past
  more = rw rest (rw (none, round.limit) at finds)

  -- Where no read is left the run ends.
  pub ends_spent : x.left ≡ 0 → Ended r x.writer x.came x.source l held (stopped_by budget_spent)
  ends_spent zero = finish_spent clear more (omega arith)

  -- a read that gave nothing
  idle_read : {b : Supply} {after : List ℕ} {q : Result ℕ SourceFault} → x.left ≢ 0 → (read : ReadsMore (x.source ⇒ b) (held ⇒ after) q)
      → length read.piece ≡ 0 → length after ≤ r.m + 8 → Clear r x.writer (x.left - 1) x.came b l after 1
  idle_read some read zero room = Clear-read 1 clear (omega arith) read (omega arith) (counted_none x.came read.piece zero) room

  -- Where a read failed the run ends.
  pub ends_unread : {b : Supply} {after : List ℕ} {limit : ℕ} {bad : SourceFault} → x.left ≢ 0 → ReadsMore (x.source ⇒ b) (held ⇒ after) (Err bad)
      → limit ≡ x.reader.limit → length after ≤ limit + 8 → Ended r x.writer x.came b l after (stopped_by read_failed)
  ends_unread some read same few =
      let zero = ap length read.err.0 in
      finish_unread (idle_read some read zero (omega arith)) (still_more r.m read zero more)
      (Rises-later _ _ _ round.going.taken.takes.faults read.takes.faults read.err.1)

  -- Where a read gave nothing the run ends.
  pub ends_at_end : {b : Supply} {after : List ℕ} {n limit : ℕ} {ending : Ending E} → x.left ≢ 0
      → ReadsMore (x.source ⇒ b) (held ⇒ after) (Ok n) → n ≡ 0 → limit ≡ x.reader.limit
      → length after ≤ limit + 8 → ending ≡ end_with after (r.w.end x.writer) → Ended r x.writer x.came b l after ending
  ends_at_end {after = after} some read zero at_limit few same =
      let gave = read.ok ∙ zero in
      rw same (finish_end after (r.w.end x.writer) (idle_read some read gave (omega arith)) (still_more r.m read gave more) (read.end zero) refl)

  -- What the loop keeps holds after a read.
  pub round_after_read : {b : Supply} {reader : Holding} {out : Buffered} {n passed limit came : ℕ} → x.left ≢ 0
      → ReadsMore (x.source ⇒ b) (held ⇒ reader.held) (Ok n) → n ≢ 0 → Some came ≡ counted n (Some x.came)
      → limit ≡ x.reader.limit → length reader.held ≤ limit + 8 → reader.limit ≡ limit → out ≡ nothing_in x.out.room → passed ≡ 0
      → Round r room (record { writer = x.writer; left = x.left - 1; came = came; source = b; sink = l; reader = reader; out = out; passed = passed })
  round_after_read {reader = reader} some read gave counts at_limit few limit empty zero = record {
    limit = limit ∙ at_limit ∙ round.limit;
    room_is = rw empty round.room_is;
    within = omega arith;
    going =
        Going-clear (rw (all_held reader.held zero) (Clear-read 0 clear (omega arith) read (omega arith)
        (rw read.ok counts) (omega arith)))
        (empty_gathered reader.held empty zero);
  }

-- ---- no read budget, so that nothing is held

-- no frame stands at the front of no bytes
pub no_frame : (m passed : ℕ) {held : List ℕ} {found : Option FrameLayout} {layout : FrameLayout}
    → held ≡ [] → Finds m (drop passed held) (Ok found) → found ≡ Some layout → ⊥
no_frame m passed none finds is =
    let lies = rw (is, none, drop-nil passed) at finds in
    cc (scan-none (Some m), lies.found)

-- nor a fault
pub no_fault : (m passed : ℕ) {held : List ℕ} (error : ReadError) → held ≡ [] → Finds m (drop passed held) (Err error) → ⊥
no_fault m passed error none finds =
    let at = rw (none, drop-nil passed) at finds in
    cc (scan-none (Some m), at.2)
