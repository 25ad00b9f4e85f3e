-- What loops put.
use Rattle.amqp_canonical.specs.CanonicalValues.{canonical_entries, canonical_value}
use Rattle.std.proofs.Common.{◌≡◌, ◌<◌, ◌≤◌, ℕ, suc, ◌+◌, List, [], ◌∷◌, ◌++◌, length, get_or, map, drop, Bool, true, false, cond, Option, Some, None, Bor}
use Rattle.std.proofs.Common.{refl, sym, ap, subst, ◌∙◌, arith}
use Rattle.std.proofs.Math.Seq.{drop-cons}
use Rattle.std.proofs.lemmas.List.{length-drop, drop-drop}
use Rattle.amqp_types.specs.Judging.{IsBytes}
use Rattle.amqp_types.specs.Settling.{settled}
use Rattle.amqp_types.specs.Values.{FieldValue, Entry}
use Rattle.amqp_types.specs.ValueBytes.{tagged_bytes}
use Rattle.amqp_types.specs.ValueJudging.{filled, judge_value}
use Rattle.amqp_types.proofs.Bytes.{IsBytes-drop}
use Rattle.amqp_canonical.specs.Writes.{IsRead, IsFilled, PutsIfRoom, items_of, canonical_of, array_content, table_content, entry_bytes}
use Rattle.amqp_canonical.specs.Marks.{entry_at, judged_entry, entries_in, AreRead, marked_entry, last_of_ties, ties, blank, FindsNext}
use Rattle.amqp_canonical.specs.declared.marks.EntryMark.{EntryMark}
use Rattle.amqp_canonical.proofs.NextKey.{IsLeft, left_none, next_left, none_left, view}
use Rattle.amqp_canonical.proofs.Putting.{PutTo, IsEach, none_put, same_put, put_left, put_none, put_within, put_next, put_end}
use Rattle.amqp_canonical.proofs.ReadParts.{Uses, is_read, took_of, first_value, none_filled}
use Rattle.amqp_types.specs.Tidiness.{used_by}

-- ---- values

-- The content of an array is the canonical bytes of each value with its tag, one after another.
pub each_value : IsEach array_content tagged_bytes
each_value = record { none = refl; more = λ v vs. refl }

-- The content of a table is the canonical bytes of each entry, one after another.
pub each_entry : IsEach table_content entry_bytes
each_entry = record { none = refl; more = λ e es. refl }

-- the values in an array from a place on
abbrev pub values_from : ℕ → List ℕ → ℕ → List FieldValue
values_from room content start = items_of (filled (judge_value room) 0 (drop start content))

-- the values up to a place of the content were put, and those from there on are left
pub record ValuesPut (room : ℕ) (content : List ℕ) (start : ℕ) (old new : List ℕ) (at end : ℕ) : Type 0 where
  pub done : List FieldValue
  pub left : IsFilled (filled (judge_value room) 0 (drop start content))
  pub put : PutTo array_content (values_from room content 0) done (values_from room content start) old new at end

-- At the start no value was put.
pub values_none : {room : ℕ} {content buf : List ℕ} {at : ℕ} → IsFilled (filled (judge_value room) 0 content) → ValuesPut room content 0 buf buf at at
values_none h = record { done = []; left = h; put = put_none each_value }

-- the value at a place, which does not pass the end
pub record ValueHere (room : ℕ) (content : List ℕ) (start size : ℕ) (old mid : List ℕ) (at end : ℕ) : Type 0 where
  pub read : IsRead (judge_value room (drop start content))
  pub fits : end + length (canonical_value room (drop start content)) ≤ at + length (array_content (values_from room content 0))
  pub some : 0 < size
  pub within : start + size ≤ length content
  pub next : (new : List ℕ) (place : ℕ) → PutsIfRoom mid new end (canonical_value room (drop start content)) place
      → ValuesPut room content (start + size) old new at place

-- Where the content does not end, a value stands, its canonical bytes fit, and it is put next.
pub value_here : {room : ℕ} {content : List ℕ} {start size : ℕ} {old mid : List ℕ} {at end : ℕ} → IsBytes content
    → start < length content → Uses (judge_value room (drop start content)) size
    → ValuesPut room content start old mid at end → ValueHere room content start size old mid at end
value_here {room} {content} {start} {size} bytes more sized h =
    let here = drop start content in
    let one = first_value room here (IsBytes-drop start content bytes) (omega (arith, length-drop start content)) h.left in
    let read = is_read (judge_value room here) one.thing one.size one.is in
    let count : one.size ≡ size = sym (sized read ∙ ap used_by one.is) in
    let value = ap (canonical_of tagged_bytes) one.is in
    let place : drop one.size here ≡ drop (start + size) content = drop-drop one.size start content ∙ ap (λ m. drop (start + m) content) count in
    let first = put_left (one.all ∙ ap (λ bs. one.thing ∷ items_of (filled (judge_value room) 0 bs)) place) h.put in
    record {
      read = read;
      fits = omega (arith, ap length value, put_within each_value first);
      some = omega (arith, one.some, count);
      within = omega (arith, one.within, count, length-drop start content);
      next = λ new place_after put.
          record {
            done = h.done ++ one.thing ∷ [];
            left = subst (λ bs. IsFilled (filled (judge_value room) 0 bs)) place one.left;
            put = put_next each_value first (same_put value put);
          };
    }

-- Where the content ends, all of its values were put.
pub values_end : {room : ℕ} {content : List ℕ} {start : ℕ} {old new : List ℕ} {at end : ℕ} → length content ≤ start
    → ValuesPut room content start old new at end → PutsIfRoom old new at (array_content (values_from room content 0)) end
values_end {room} {content} {start} long h = put_end each_value (put_left (none_filled (judge_value room) content start long) h.put)

-- ---- marked entries

-- the entries from a mark on, of neighbours with one key the last
abbrev kept_from : ℕ → List ℕ → List EntryMark → ℕ → List Entry
kept_from room content marks k = last_of_ties (map (marked_entry room content) (drop k marks))

-- the entry of a mark has the key of the next one
abbrev pub tied_at : ℕ → List ℕ → List EntryMark → ℕ → Bool
tied_at room content marks k = ties (marked_entry room content (get_or marks k blank)) (map (marked_entry room content) (drop (k + 1) marks))

-- the entries of the first k marks were put, of those with one key the last, and the others are left
pub record EntriesPut (room : ℕ) (content : List ℕ) (marks : List EntryMark) (k : ℕ) (old new : List ℕ) (at end : ℕ) : Type 0 where
  pub done : List Entry
  pub put : PutTo table_content (kept_from room content marks 0) done (kept_from room content marks k) old new at end

-- At the start no entry was put.
pub entries_none : {room : ℕ} {content : List ℕ} {marks : List EntryMark} {buf : List ℕ} {at : ℕ} → EntriesPut room content marks 0 buf buf at at
entries_none = record { done = []; put = put_none each_entry }

-- the entries from a mark on are those after it, and its own where it is not tied
kept_here : (room : ℕ) (content : List ℕ) (marks : List EntryMark) (k : ℕ) (tied : Bool) → k < length marks
    → tied ≡ tied_at room content marks k
    → kept_from room content marks k
    ≡ cond tied (kept_from room content marks (k + 1)) (marked_entry room content (get_or marks k blank) ∷ kept_from room content marks (k + 1))
kept_here room content marks k tied more is =
    let f = marked_entry room content in
    let e = f (get_or marks k blank) in
    let next : suc k ≡ k + 1 = omega arith in
    ap (λ ms. last_of_ties (map f ms)) (drop-cons marks k blank more ∙ ap (λ j. get_or marks k blank ∷ drop j marks) next)
    ∙ ap (λ b. cond b (kept_from room content marks (k + 1)) (e ∷ kept_from room content marks (k + 1))) (sym is)

-- An entry whose key is that of the next mark too is passed over, with nothing put.
pub entries_tied : {room : ℕ} {content : List ℕ} {marks : List EntryMark} {k : ℕ} {old new : List ℕ} {at end : ℕ} → k < length marks
    → true ≡ tied_at room content marks k
    → EntriesPut room content marks k old new at end → EntriesPut room content marks (k + 1) old new at end
entries_tied {room} {content} {marks} {k} more is h = record { done = h.done; put = put_left (kept_here room content marks k true more is) h.put }

-- an entry, which does not pass the end
pub record EntryFits (judged_bytes : List ℕ) (mid : List ℕ) (end last : ℕ) (Next : List ℕ → ℕ → Type 0) : Type 0 where
  pub fits : end + length judged_bytes ≤ last
  pub next : (new : List ℕ) (place : ℕ) → PutsIfRoom mid new end judged_bytes place → Next new place

-- the bytes of an entry that was read
bytes_here : (room : ℕ) (content : List ℕ) (place : ℕ) → IsRead (entry_at room content place)
    → canonical_of entry_bytes (entry_at room content place) ≡ entry_bytes (judged_entry (entry_at room content place))
bytes_here room content place read =
    let one = took_of (entry_at room content place) read in
    ap (canonical_of entry_bytes) one.2 ∙ sym (ap (λ j. entry_bytes (judged_entry j)) one.2)

-- The canonical bytes of an entry whose key the next mark does not have fit, and it is put next.
pub entry_kept : {room : ℕ} {content : List ℕ} {marks : List EntryMark} {k : ℕ} {old mid : List ℕ} {at end : ℕ} → AreRead room content marks
    → k < length marks → false ≡ tied_at room content marks k
    → EntriesPut room content marks k old mid at end
    → EntryFits (canonical_of entry_bytes (entry_at room content (get_or marks k blank).place)) mid end
    (at + length (table_content (kept_from room content marks 0))) (λ new place. EntriesPut room content marks (k + 1) old new at place)
entry_kept {room} {content} {marks} {k} read more is h =
    let first = put_left (kept_here room content marks k false more is) h.put in
    let same = bytes_here room content (get_or marks k blank).place (read k blank more) in
    record {
      fits = omega (arith, ap length same, put_within each_entry first);
      next = λ new place put.
          record { done = h.done ++ marked_entry room content (get_or marks k blank) ∷ []; put = put_next each_entry first (same_put same put) };
    }

-- ---- selected entries

-- the entries up to a key were put in ascending key order, the others are left, and the next one is known
pub record SelectedPut (room : ℕ) (content : List ℕ) (next : Option (ℕ × Bor (List ℕ))) (old new : List ℕ) (at end : ℕ) : Type 0 where
  pub last : Option (List ℕ)
  pub done : List Entry
  pub left : List Entry
  pub stands : IsLeft (entries_in room content) last done left
  pub finds : FindsNext view room content last (entries_in room content) next
  pub put : PutsIfRoom old new at (table_content done) end

-- At the start no entry was put.
pub selected_none : {room : ℕ} {content : List ℕ} {next : Option (ℕ × Bor (List ℕ))} {buf : List ℕ} {at : ℕ}
    → FindsNext view room content None (entries_in room content) next → SelectedPut room content next buf buf at at
selected_none {room} {content} {buf = buf} {at} h =
    let es = entries_in room content in
    record { last = None; done = []; left = settled es; stands = left_none es; finds = h; put = none_put buf at [] refl }

-- the selected entry, which does not pass the end
pub record SelectedHere (room : ℕ) (content : List ℕ) (found : ℕ × Bor (List ℕ)) (old mid : List ℕ) (at end : ℕ) : Type 0 where
  pub read : IsRead (entry_at room content found.0)
  pub fits : EntryFits (canonical_of entry_bytes (entry_at room content found.0)) mid end (at + length (canonical_entries room content))
      (λ new place. (next : Option (ℕ × Bor (List ℕ))) → FindsNext view room content (Some found.1.now) (entries_in room content) next
      → SelectedPut room content next old new at place)

-- The next entry is decoded, its canonical bytes fit, and it is put next.
pub selected_here : {room : ℕ} {content : List ℕ} {found : ℕ × Bor (List ℕ)} {old mid : List ℕ} {at end : ℕ}
    → SelectedPut room content (Some found) old mid at end → SelectedHere room content found old mid at end
selected_here {room} {content} {found} {old} {mid} {at} {end} h =
    let es = entries_in room content in
    let e = judged_entry (entry_at room content found.0) in
    let x : Entry = (found.1.now, e.1) in
    let step = next_left es h.last h.done h.left found.1.now e.1 h.stands h.finds.next in
    let before : PutTo table_content (settled es) h.done (x ∷ step.rest) old mid at end =
    record { parts = ap (λ t. h.done ++ t) (sym step.is) ∙ h.stands.parts; put = h.put } in
    let same = bytes_here room content found.0 h.finds.read ∙ ap (λ k. entry_bytes (k, e.1)) h.finds.key_is in
    record {
      read = h.finds.read;
      fits = record {
        fits = omega (arith, ap length same, put_within each_entry before);
        next = λ new place put next finds.
            let after = put_next each_entry before (same_put same put) in
            record { last = Some found.1.now; done = h.done ++ x ∷ []; left = step.rest; stands = step.left_is; finds = finds; put = after.put };
      };
    }

-- Where no next entry is, the settled table was put.
pub selected_end : {room : ℕ} {content old new : List ℕ} {at end : ℕ} → SelectedPut room content None old new at end
    → PutsIfRoom old new at (canonical_entries room content) end
selected_end {room} {content} {old} {new} {at} {end} h =
    let es = entries_in room content in
    let none = none_left es h.last h.done h.left h.stands h.finds in
    let all : PutTo table_content (settled es) h.done [] old new at end = record { parts = ap (λ t. h.done ++ t) (sym none) ∙ h.stands.parts; put = h.put } in
    put_end each_entry all
