-- Entries that are marked one after another.
use Rattle.std.proofs.Common.{◌≡◌, ◌<◌, ◌≤◌, ℕ, ◌+◌, List, [], ◌∷◌, ◌++◌, length, map, drop, refl, sym, ap, ◌∙◌, append_assoc, append-nil, arith}
use Rattle.std.proofs.lemmas.List.{length-drop, drop-drop, map-append}
use Rattle.std.proofs.lemmas.List.Elements.{All-push}
use Rattle.std.specs.List.{AllByRecursion}
use Rattle.amqp_types.specs.Judging.{IsBytes}
use Rattle.amqp_types.specs.Values.{Entry}
use Rattle.amqp_types.specs.ValueJudging.{filled, judge_entry, judge_value}
use Rattle.amqp_types.proofs.Bytes.{IsBytes-drop}
use Rattle.amqp_canonical.specs.Writes.{IsRead, IsFilled, items_of}
use Rattle.amqp_canonical.specs.Marks.{entry_at, judged_entry, marked_entry, entries_in, AreEntries, AreRead, AreMarks}
use Rattle.amqp_canonical.specs.Places.{Precedes, ArePlaced}
use Rattle.amqp_canonical.specs.declared.marks.EntryMark.{EntryMark}
use Rattle.amqp_canonical.proofs.LastOfEachKey.{all_push, placed_last}
use Rattle.amqp_canonical.proofs.InOrder.{each_weaker}
use Rattle.amqp_canonical.proofs.ReadParts.{is_read, first_entry, none_filled}
use Rattle.amqp_types.specs.Tidiness.{used_by}

-- ---- entries that are read up to a place

-- what stands from a place on is entries, and with those before it all
pub record EntriesTo (room : ℕ) (content : List ℕ) (at : ℕ) (front : List Entry) : Type 0 where
  pub left : IsFilled (filled (judge_entry (judge_value room)) 0 (drop at content))
  pub all : front ++ items_of (filled (judge_entry (judge_value room)) 0 (drop at content)) ≡ entries_in room content

-- Where the content is entries, at its start all of them are left.
pub entries_none : (room : ℕ) (content : List ℕ) → AreEntries room content → EntriesTo room content 0 []
entries_none room content h = record { left = h; all = refl }

-- the entry at the place
pub record EntryHere (room : ℕ) (content : List ℕ) (at size : ℕ) (front : List Entry) : Type 0 where
  pub read : IsRead (entry_at room content at)
  pub used : size ≡ used_by (entry_at room content at)
  pub some : 0 < size
  pub within : at + size ≤ length content
  pub next : EntriesTo room content (at + size) (front ++ judged_entry (entry_at room content at) ∷ [])

-- Where the content does not end at a place, an entry stands there, and the entries go on after its size.
pub entries_next : (room : ℕ) (content : List ℕ) (at size : ℕ) (front : List Entry) → IsBytes content → at < length content
    → (IsRead (entry_at room content at) → size ≡ used_by (entry_at room content at)) → EntriesTo room content at front → EntryHere room content at size front
entries_next room content at size front fits more sized h =
    let one = first_entry room (drop at content) (IsBytes-drop at content fits) (omega (arith, length-drop at content)) h.left in
    let read = is_read (entry_at room content at) one.thing one.size one.is in
    let count : one.size ≡ size = sym (sized read ∙ ap (λ j. used_by j) one.is) in
    let entry : judged_entry (entry_at room content at) ≡ one.thing = ap (λ j. judged_entry j) one.is in
    let place : drop one.size (drop at content) ≡ drop (at + size) content = drop-drop one.size at content ∙ ap (λ m. drop (at + m) content) count in
    let rest : List ℕ → List Entry = λ bs. items_of (filled (judge_entry (judge_value room)) 0 bs) in
    record {
      read = read;
      used = sized read;
      some = omega (arith, one.some, count);
      within = omega (arith, one.within, count, length-drop at content);
      next = record {
        left = rw (← place) one.left;
        all = rw (entry, append_assoc front (one.thing ∷ []) (rest (drop (at + size) content)), ← place, ← one.all) h.all;
      };
    }

-- Where a place is the end of the content, the entries up to it are all entries.
pub entries_end : (room : ℕ) (content : List ℕ) (at : ℕ) (front : List Entry)
    → length content ≤ at → EntriesTo room content at front → front ≡ entries_in room content
entries_end room content at front long h =
    sym (append-nil front) ∙ ap (λ es. front ++ es) (sym (none_filled (judge_entry (judge_value room)) content at long)) ∙ h.all

-- ---- and are marked

-- marks of all entries up to a place, in the order in which they stand
pub record MarkedTo (room : ℕ) (content : List ℕ) (at : ℕ) (marks : List EntryMark) : Type 0 where
  pub read : AreRead room content marks
  pub entries : EntriesTo room content at (map (marked_entry room content) marks)
  pub placed : ArePlaced (λ mark. (marked_entry room content mark).0) (λ mark. mark.place) marks
  pub below : AllByRecursion (λ mark. mark.place < at) marks

-- Marks of the entries up to a place, and one at the place, are marks of the entries up to the end of that entry.
pub marked_next : (room : ℕ) (content : List ℕ) (at size : ℕ) (marks : List EntryMark) (mark : EntryMark) → IsBytes content → at < length content
    → (IsRead (entry_at room content at) → size ≡ used_by (entry_at room content at)) → mark.place ≡ at → MarkedTo room content at marks
    → MarkedTo room content (at + size) (marks ++ mark ∷ [])
marked_next room content at size marks mark fits more sized is h =
    let f = marked_entry room content in
    let here = entries_next room content at size (map f marks) fits more sized h.entries in
    let read : IsRead (entry_at room content mark.place) = rw is here.read in
    record {
      read = All-push (λ m. IsRead (entry_at room content m.place)) marks mark h.read read;
      entries = rw (map-append f marks (mark ∷ []), is) here.next;
      placed =
          placed_last (λ m. (f m).0) (λ m. m.place) marks mark h.placed
          (each_weaker (λ m. m.place < at) (λ m. Precedes (λ x. (f x).0) (λ x. x.place) m mark) (λ m less same. omega (arith, less, is)) marks h.below);
      below =
          all_push (λ m. m.place < at + size) marks mark
          (each_weaker (λ m. m.place < at) (λ m. m.place < at + size) (λ m less. omega (arith, less)) marks h.below) (omega (arith, is, here.some));
    }

-- Marks of the entries up to the end of the content are marks of all of its entries.
pub marked_end : (room : ℕ) (content : List ℕ) (at : ℕ) (marks : List EntryMark)
    → length content ≤ at → MarkedTo room content at marks → AreMarks room content marks
marked_end room content at marks long h = record { read = h.read; entries = entries_end room content at _ long h.entries; placed = h.placed }
