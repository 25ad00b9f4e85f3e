-- What is found in the entries of a table by a key.
use Rattle.std.proofs.lemmas.Grind.{common_steps}
use Rattle.std.proofs.Common.{arith}
use Rattle.std.proofs.Common.{◌≡◌, ℕ, ◌+◌, ◌<◌, ◌≤◌, List, [], ◌∷◌, ◌++◌, length, drop, Option, Some, None, sym, ap, ◌∙◌}
use Rattle.amqp_types.specs.Judging.{Judged, IsBytes}
use Rattle.amqp_types.specs.Settling.{last_at, settled}
use Rattle.amqp_types.specs.Values.{Entry}
use Rattle.amqp_laws.proofs.Settling.{settles}
use Rattle.amqp_canonical.specs.Marks.{AreEntries, IsNext, IsNextAt, HasNoNext, entries_in, entry_at, judged_entry}
use Rattle.amqp_canonical.specs.Writes.{IsRead, key_in}
use Rattle.amqp_canonical.proofs.Marking.{EntriesTo, entries_none, entries_next, entries_end}
use Rattle.amqp_canonical.proofs.NextKey.{key_here, last_own, last_other}
use Rattle.amqp_lent.specs.Finding.{FindsAfter, FindsLast, HasNoneAfter, IsLeastAfter}
use Rattle.amqp_lent.specs.Views.{taken}
use Rattle.amqp_types.specs.Tidiness.{used_by}

-- what stands at the place of an entry that was read
pub taken_entry : (j : Judged Entry) → IsRead j → taken j ≡ Some (judged_entry j)
taken_entry j h = grind (arith, common_steps)

-- ---- the last entry with a key

-- the entries up to a place were looked at
pub record LastTo (room : ℕ) (content key : List ℕ) (at : ℕ) (found : Option ℕ) : Type 0 where
  pub front : List Entry
  pub entries : EntriesTo room content at front
  pub finds : FindsLast room content key front found

pub last_none : (room : ℕ) (content key : List ℕ) → AreEntries room content → LastTo room content key 0 None
last_none room content key h = grind (arith, common_steps, entries_none)

other_kept : (room : ℕ) (content key : List ℕ) (front : List Entry) (e : Entry) (found : Option ℕ)
    → (key ≡ e.0 → ⊥) → FindsLast room content key front found → FindsLast room content key (front ++ e ∷ []) found
other_kept room content key front e found differ h = grind (arith, common_steps, last_other)

module _ (room : ℕ) (content key : List ℕ) (at size : ℕ) (here : List ℕ) (found : Option ℕ) (fits : IsBytes content)
    (more : at < length content) (sized : IsRead (entry_at room content at) → size ≡ used_by (entry_at room content at))
    (is : here ≡ key_in (drop at content)) (h : LastTo room content key at found) where
  -- An entry with the key that is sought is the last one with it, up to its end.
  pub last_taken : here ≡ key → LastTo room content key (at + size) (Some at)
  last_taken same =
      let step = entries_next room content at size h.front fits more sized h.entries in
      let e = judged_entry (entry_at room content at) in
      let own : key ≡ e.0 = sym same ∙ key_here room content at here step.read is in
      record {
        front = h.front ++ e ∷ [];
        entries = step.next;
        finds = record { read = step.read; value = ap (λ k. last_at k (h.front ++ e ∷ [])) own ∙ last_own h.front e };
      }

  -- An entry with another key leaves what is found.
  pub last_past : (here ≡ key → ⊥) → LastTo room content key (at + size) found
  last_past differ =
      let step = entries_next room content at size h.front fits more sized h.entries in
      let e = judged_entry (entry_at room content at) in
      let own : here ≡ e.0 = key_here room content at here step.read is in
      record { front = h.front ++ e ∷ []; entries = step.next; finds = other_kept room content key h.front e found (λ same. differ (own ∙ sym same)) h.finds }

-- What is found up to the end of the content is found among all of its entries.
pub last_end : (room : ℕ) (content key : List ℕ) (at : ℕ) (found : Option ℕ) → length content ≤ at
    → LastTo room content key at found → FindsLast room content key (entries_in room content) found
last_end room content key at found long h = grind (arith, common_steps, entries_end)

-- ---- the next entry

-- the table has what the last entries of each key say
pub least_after : (last : Option (List ℕ)) (es : List Entry) (e : Entry) → IsNext last es e.0 e.1 → IsLeastAfter last (settled es) e
least_after last es e h =
    let all = settles es in
    record { after = h.after; value = all.last e.0 ∙ h.value; least = λ other w after value less. h.least other w after (sym (all.last other) ∙ value) less }

-- Where no key of the entries comes after another one, no key of the settled table does.
pub none_after : (last : Option (List ℕ)) (es : List Entry) → HasNoNext last es → HasNoneAfter last (settled es)
none_after last es h other w after value = let all = settles es in h other w after (sym (all.last other) ∙ value)

-- What is decoded at the place of the next entry is the entry of the settled table with the least key after the last one.
pub after_found : (room : ℕ) (content : List ℕ) (last : Option (List ℕ)) (place : ℕ) (key : List ℕ) (r : Option Entry)
    → IsNextAt room content last (entries_in room content) place key
    → r ≡ taken (entry_at room content place) → FindsAfter last (settled (entries_in room content)) r
after_found room content last place key r h is = grind (arith, common_steps, least_after, taken_entry)
