-- Lines that are longer than any of a frame: the first bytes of one are held, and all ends as if all of them were.
use Rattle.amqp_lines.proofs
use proofs.Names.{◌≢◌, ◌≡◌, ℕ, zero, suc, ◌+◌, ◌-◌, ◌<◌, ◌≤◌, List, [], ◌∷◌, ◌++◌, length, take, drop, Result, Ok, Err, refl, sym, ap, ◌∙◌, inl, inr}
use proofs.Names.{append_assoc, arith, cases_lt, length-take, take-append-le, take_all, Frame, canon, SinkFault, ◌⇒◌, call_of, Supply, Store, WritesAll, line}
use proofs.Names.{lines, longest_line, IsStrictWithin, HasNoNewline, GathersAll, GathersLines, ReadsOnce, StopsWith, Decides, end_of_text, HoldsNewline}
use proofs.Names.{first_line, LinePlace, UndumpError, Answer}
use proofs.Names.errors
use Rattle.std.proofs.lemmas.List.{length-take-le}
use proofs.LineLengths.{lines_bounded}
use proofs.TextFronts.{AllStrict, all_strict, are_strict, none_take, holds_none, first_line as first_parts, line_longer, IsAtNone, is_longest}
use proofs.Deciding.{first_or}
use proofs.Gathering.{kept_rest}
use proofs.Undumps.{Going, ends_at_end, ends_at_lines, goes_on, begins, unflushed}
use proofs.Newlines.{each_back, clean_both}

-- ---- how long a line is

-- The line of a frame within a limit on payloads is no longer than `longest_line` says.
pub line_fits : (m : ℕ) (f : Frame) → IsStrictWithin m f → length (line f) ≤ longest_line m
line_fits m f h = omega (arith, lines_bounded (canon f) f h.is_strict.encodes, h.within)

-- no line begins a text that is longer than any and has no newline yet
long_none : (m : ℕ) (held more : List ℕ) → HasNoNewline held → longest_line m < length held → IsAtNone m (held ++ more)
unfolding IsAtNone
long_none m held more clean long f x good e = omega (arith, long, line_longer f held more x clean (sym e), line_fits m f good)

-- no line of a frame stands in front of it
frames_none : (m : ℕ) (text : List ℕ) (fs : List Frame) (rest : List ℕ) → IsAtNone m text → AllStrict m fs → text ≡ lines fs ++ rest → fs ≡ []
unfolding IsAtNone lines
frames_none m text [] rest none good e = refl
frames_none m text (f ∷ fs) rest none good e =
    absurd (none f _ good.0 (sym (e ∙ append_assoc (line f) _ rest)))

-- ---- what is held of it

-- the first bytes of a line, one more than the longest line has
abbrev pub clipped : ℕ → List ℕ → List ℕ
clipped m held = take (longest_line m + 1) held

-- a newline of what came after bytes without one
holds_later : (held more other : List ℕ) → HasNoNewline other → HoldsNewline (other ++ more) → HoldsNewline (held ++ more)
holds_later held more other clean holds = elim (first_or more) [
  | inr none ↦ absurd (holds_none (other ++ more) (clean_both other more clean none) holds)
  | inl h ↦ record {
    front = held ++ h.is_first.front;
    back = drop h.end more;
    parts =
        cc (first_parts more h.end h.is_first, append_assoc held h.is_first.front (10 ∷ drop h.end more));
  }
]

-- of a line that is too long, nothing was gathered
record NoneGathered (m : ℕ) (held piece : List ℕ) (fs : List Frame) (rest : List ℕ) : Type 0 where
  none : fs ≡ []
  rest_is : rest ≡ clipped m held ++ piece
  never : IsAtNone m (held ++ piece)

none_gathered : (m : ℕ) (held piece : List ℕ) (fs : List Frame) (rest : List ℕ) → longest_line m + 1 < length held → HasNoNewline held
    → AllStrict m fs → clipped m held ++ piece ≡ lines fs ++ rest → NoneGathered m held piece fs rest
unfolding lines
none_gathered m held piece fs rest low clean good parts =
    let x = clipped m held in
    let size = length-take-le (longest_line m + 1) held (omega (arith, low)) in
    let none = frames_none m _ fs rest (long_none m x piece (none_take (longest_line m + 1) held clean) (omega (arith, size))) good parts in
    record {
      none = none;
      rest_is = sym (parts ∙ ap (λ gs. lines gs ++ rest) none);
      never = long_none m held piece clean (omega (arith, low));
    }

-- what is returned where so many bytes are left
abbrev with_left : ℕ → Result ℕ UndumpError → Result ℕ UndumpError
with_left left (Ok place) = Ok left
with_left left (Err error) = Err error

-- what was gathered of the first bytes of such a line and of a read is what is gathered of the whole line and the read
gathers_low : {m : ℕ} {held piece : List ℕ} (pending : List ℕ) (l l' : Store) (r : Result ℕ UndumpError) {fs : List Frame} {rest : List ℕ} → HasNoNewline held
    → NoneGathered m held piece fs rest → GathersAll m (clipped m held ++ piece) fs rest l l' [] pending r
    → GathersAll m (held ++ piece) [] (held ++ piece) l l' [] pending (with_left (length (held ++ piece)) r)
unfolding lines
gathers_low {m = m} {held = held} {piece = piece} pending l l' (Ok place) clean h g =
    (refl, clean_both held piece clean (each_back (λ byte. byte ≢ 10) _ piece (rw h.rest_is at g.1)), rw h.none at g.2)
gathers_low {m = m} {held = held} {piece = piece} pending l l' (Err errors.BadText) clean h g = (
  is_longest tt refl h.never,
  holds_later held piece _ (none_take (longest_line m + 1) held clean) (rw h.rest_is at g.1),
  rw h.none at g.2,
)
gathers_low pending l l' (Err errors.WriteFault) clean h g = rw h.none at g
gathers_low pending l l' (Err errors.NoMemory) clean h g = rw h.none at g
gathers_low pending l l' (Err error) clean h g = absurd g

gathers_same : (m : ℕ) (text pending : List ℕ) (l l' : Store) (r : Result ℕ UndumpError) (fs : List Frame) (rest : List ℕ)
    → GathersAll m text fs rest l l' [] pending r → GathersAll m text fs rest l l' [] pending (with_left (length rest) r)
gathers_same m text pending l l' (Ok place) fs rest g = (refl, g.1, g.2)
gathers_same m text pending l l' (Err error) fs rest g = g

-- lines that were gathered, as if all of the line had been held, and what is left of them
record Unclipped (m : ℕ) (held piece pending left : List ℕ) (at now : LinePlace) (l l' : Store) (r : Result ℕ UndumpError) : Type 0 where
  rest : List ℕ
  whole : GathersLines m (held ++ piece) at now l l' [] pending (with_left (length rest) r)
  rest_is : whole.rest ≡ rest
  kept : clipped m left ≡ clipped m rest

unclip : {m : ℕ} {held piece pending : List ℕ} {at now : LinePlace} {l l' : Store} (r : Result ℕ UndumpError) → HasNoNewline held
    → (h : GathersLines m (clipped m held ++ piece) at now l l' [] pending r) → Unclipped m held piece pending h.rest at now l l' r
unfolding lines
unclip {m = m} {held = held} {piece = piece} {pending = pending} {at = at} {now = now} {l = l} {l' = l'} r clean h =
    elim (cases_lt (longest_line m + 1) _) [
      | inr fits ↦
          let same = take_all (longest_line m + 1) held fits in
          record {
            rest = h.rest;
            whole = record {
              frames = h.frames;
              are_strict = h.are_strict;
              rest = h.rest;
              parts = cc (same, h.parts);
              passes = h.passes;
              gathers =
                  gathers_same m _ pending l l' r h.frames h.rest (rw same at h.gathers);
            };
            rest_is = refl;
            kept = refl;
          }
      | inl low ↦
          let none = none_gathered m held piece h.frames h.rest low clean (all_strict m h.frames h.are_strict) h.parts in
          let n = longest_line m + 1 in
          let size = length-take-le n held (omega (arith, low)) in
          record {
            rest = held ++ piece;
            whole = record {
              frames = [];
              are_strict = are_strict m [] tt;
              rest = held ++ piece;
              parts = refl;
              passes = rw none.none at h.passes;
              gathers = gathers_low pending l l' r clean none h.gathers;
            };
            rest_is = refl;
            kept =
                ap (clipped m) none.rest_is ∙ take-append-le n _ piece (omega (arith, size))
                ∙ take_all n _ (omega (arith, size)) ∙ sym (take-append-le n held piece (omega (arith, low)));
          }
    ]

-- ---- between two reads

-- Of the line that was reached the first bytes are held, and what was taken is as if all of it were.
pub record Holding (m budget left : ℕ) (a b : Supply) (k l : Store) (kept : List ℕ) (at : LinePlace) : Type 0 where
  pub held : List ℕ
  pub going : Going m budget left a b k l held at
  pub kept_is : kept ≡ clipped m held

-- What is held has at most one byte more than the longest line.
pub few_kept : {m budget left : ℕ} {a b : Supply} {k l : Store} {kept : List ℕ} {at : LinePlace}
    → Holding m budget left a b k l kept at → length kept ≤ longest_line m + 1
few_kept {m = m} h = omega (arith, ap length h.kept_is, length-take (longest_line m + 1) h.held)

-- At the start nothing is held.
pub holds_first : (m budget : ℕ) (a : Supply) (k : Store) (kept : List ℕ) (at : LinePlace)
    → kept ≡ [] → at ≡ first_line → Holding m budget budget a a k k kept at
holds_first m budget a k kept at none first =
    record { held = []; going = rw first (begins a k); kept_is = none ∙ sym (take_all (longest_line m + 1) [] (omega arith)) }

-- whether nothing is held is the same for the first bytes
same_end : (n : ℕ) (held piece : List ℕ) → 0 < n → end_of_text (take n held ++ piece) ≡ end_of_text (held ++ piece)
same_end zero held piece h = absurd (omega arith)
same_end (suc n) [] piece h = refl
same_end (suc n) (x ∷ xs) piece h = refl

-- a read after what is held, with which all of the line is read
module _ {m budget left n : ℕ} {a b c : Supply} {k l : Store} {kept after : List ℕ} {at : LinePlace}
    (h : Holding m budget left a b k l kept at) (some : 0 < left) (read : ReadsOnce b c kept after (Ok n)) where
  whole : ReadsOnce b c h.held (h.held ++ read.piece) (Ok n)
  whole = record { piece = read.piece; few = read.few; are_bytes = read.are_bytes; takes = read.takes; reads = (refl, read.reads.1, read.reads.2) }

  text_read : after ≡ clipped m h.held ++ read.piece
  text_read = cc (read.reads.0, h.kept_is)

  -- At the end of input the call ends well where nothing is held, and else with a line cut short.
  pub held_at_end : {r : Answer} → n ≡ 0 → r ≡ end_of_text after → Decides (call_of m budget (a ⇒ c) (k ⇒ l)) at r
  held_at_end none is =
      ends_at_end h.going some whole none (is ∙ ap end_of_text text_read ∙ same_end (longest_line m + 1) h.held read.piece (omega arith))

  module _ {l' l'' : Store} {pending : List ℕ} {now : LinePlace} where
    -- Where a line is that of no frame, or memory runs out, the call ends with that error, after it wrote the lines before.
    pub held_at_lines : {r : Answer} (error : UndumpError) → GathersLines m after at now l l' [] pending (Err error)
        → StopsWith l' l'' pending error r → Decides (call_of m budget (a ⇒ c) (k ⇒ l'')) now r
    held_at_lines error g stop = ends_at_lines h.going some whole error (unclip (Err error) h.going.clean (rw text_read at g)).whole stop

    -- Where the canonical bytes of lines cannot be written, the call ends with that error.
    pub held_unflushed : {place : ℕ} {bad : SinkFault} → GathersLines m after at now l l' [] pending (Ok place)
        → WritesAll l' l'' pending (Err bad) → Decides (call_of m budget (a ⇒ c) (k ⇒ l'')) now (Err errors.WriteFault)
    held_unflushed {place = place} g f =
        let all = unclip (Ok place) h.going.clean (rw text_read at g) in unflushed h.going some whole all.whole all.whole.gathers.2 f

    -- With one read more, the canonical bytes of its lines are written, and the first bytes of the line after them are held.
    pub holds_on : {place : ℕ} {later : List ℕ} {done : Unit {0}} → 0 < n
        → GathersLines m after at now l l' [] pending (Ok place) → WritesAll l' l'' pending (Ok done)
        → later ≡ clipped m (drop (length after - place) after) → Holding m budget (left - 1) a c k l'' later now
    holds_on {place = place} new g f is =
        let all = unclip (Ok place) h.going.clean (rw text_read at g) in
        record {
          held = all.rest;
          going = goes_on h.going some whole all.whole new all.whole.gathers.1 all.whole.gathers.2 f (sym all.rest_is);
          kept_is =
              is ∙ ap (λ xs. clipped m (drop (length xs - place) xs)) text_read
              ∙ ap (clipped m) (kept_rest (rw text_read at g)) ∙ all.kept;
        }
