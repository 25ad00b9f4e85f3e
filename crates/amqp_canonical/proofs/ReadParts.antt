-- What was read, by its parts.
use Rattle.std.proofs.Common.{◌≡◌, ℕ, suc, ◌+◌, ◌<◌, ◌≤◌, nat_lt, List, [], ◌∷◌, length, get_or, take, drop, Some, None, Result, Ok, Err, refl, sym, ap, ap₂}
use Rattle.std.proofs.Common.{subst, ◌∙◌, arith}
use Rattle.std.proofs.lemmas.Bool.Decides.{nat_tests}
use Rattle.std.proofs.lemmas.List.{length-take-le}
use Rattle.std.specs.Str.{is_utf8}
use Rattle.amqp_types.specs.Judging.{Fault, Judged, Judge, took, not_utf8, ◌>>=◌, IsBytes, IsExact}
use Rattle.amqp_types.specs.Strings.{short_string_bytes, judge_short_string}
use Rattle.amqp_types.specs.Tags.{tag_at, tag_byte}
use Rattle.amqp_types.specs.Values.{FieldValue}
use Rattle.amqp_types.specs.ValueBytes.{value_bytes, tagged_bytes}
use Rattle.amqp_types.specs.ValueJudging.{filled, next_item, read_map, judge_entry, judge_behind, judge_value, nested}
use Rattle.amqp_types.specs.ValueSpelling.{SpellsEntry, SpellsValue}
use Rattle.amqp_types.specs.Levels.{plain}
use Rattle.amqp_types.specs.declared.tag.FieldTag.{FieldTag}
use Rattle.amqp_types.specs.declared.errors.ParserError.{ParserError}
use Rattle.amqp_types.specs.declared.errors.ParserError.TheVariants as errors
use Rattle.amqp_types.proofs.Took.{guard_took, test_took, value_took, count_took}
use Rattle.amqp_laws.proofs.Filling.{filled_next, none_left}
use Rattle.amqp_laws.proofs.Filled.{HasBytes, entry_exact, entry_some}
use Rattle.amqp_laws.proofs.Exactly.{value_exact, value_some, tag_behind}
use Rattle.amqp_canonical.specs.Writes.{IsRead, canonical_of, IsFilled, items_of, key_in, after_key}
use Rattle.amqp_canonical.specs.Marks.{judged_entry}
use Rattle.amqp_canonical.proofs.Refusing.{Fails}
use Rattle.amqp_canonical.proofs.AfterTag.{judged_tag, value_empty, value_unknown}
use Rattle.amqp_types.specs.Tidiness.{used_by}

-- What was decoded is a value, with a number of bytes taken.
pub took_of : {A : Type 0} (j : Judged A) → IsRead j → (x : A) × (n : ℕ) × (j ≡ took x n)
took_of (took x n) h = (x, n, refl)
took_of _ h = absurd h

-- what is decoded takes n bytes
abbrev pub Uses : {A : Type 0} → Judged A → ℕ → Type 0
Uses j n = IsRead j → n ≡ used_by j

-- A value that was taken was decoded.
pub is_read : {A : Type 0} (j : Judged A) (x : A) (n : ℕ) → j ≡ took x n → IsRead j
is_read j x n h = rw h tt

-- Where two steps are decoded, so is the first one, and the second one on what the first one took.
pub bind_read : {A B : Type 0} (j : Judged A) (f : A × ℕ → Judged B)
    → IsRead (j >>= f) → (x : A) × (n : ℕ) × (j ≡ took x n) × IsRead (f (x, n)) × ((j >>= f) ≡ f (x, n))
bind_read (took x n) f h = (x, n, refl, h, refl)
bind_read _ f h = absurd h

-- Where a step after another one takes as many bytes as that took, both do.
pub same_count : {A B : Type 0} (j : Judged A) (f : A × ℕ → Judged B) → ((x : A) (n : ℕ) → IsRead (f (x, n)) → n ≡ used_by (f (x, n)))
    → IsRead (j >>= f) → IsRead j × (used_by j ≡ used_by (j >>= f))
same_count (took x n) f same h = (tt, same x n h)
same_count _ f same h = absurd h

-- What is refused was not decoded.
pub unread : {A : Type 0} (e : ParserError) (j : Judged A) → Fails e j → IsRead j → ⊥
unread errors.NoMemory (took x n) h r = h.0 refl
unread _ (took x n) h r = let e = h.1 in cc
unread _ _ h r = r

-- ---- a tag and its value

-- what is taken after a tag, and with it
pub record TagParts (room : ℕ) (bytes : List ℕ) (t : FieldTag) : Type 0 where
  pub read : IsRead (judge_behind (nested room) t (drop 1 bytes))
  pub used : used_by (judge_value room bytes) ≡ 1 + used_by (judge_behind (nested room) t (drop 1 bytes))
  pub bytes_are : canonical_of tagged_bytes (judge_value room bytes) ≡ tag_byte t ∷ canonical_of value_bytes (judge_behind (nested room) t (drop 1 bytes))

abbrev with_tag : Judged FieldValue → Judged FieldValue
with_tag j = j >>= λ v. took v.0 (1 + v.1)

-- A decoded value with a tag is decoded after the tag, and its canonical bytes are the tag byte that is written and those after it.
pub tag_parts : (room : ℕ) (bytes : List ℕ) (t : FieldTag) → 0 < length bytes
    → tag_at (get_or bytes 0 0) ≡ Some t → IsRead (judge_value room bytes) → TagParts room bytes t
tag_parts room bytes t some is h =
    let j = judge_behind (nested room) t (drop 1 bytes) in
    let same : judge_value room bytes ≡ with_tag j = judged_tag room bytes (Some t) some is in
    let one = bind_read j (λ v. took v.0 (1 + v.1)) (rw same at h) in
    let kind = tag_behind (nested room) t (drop 1 bytes) one.0 one.1 one.2 in
    record {
      read = is_read j one.0 one.1 one.2;
      used = ap used_by (same ∙ one.4) ∙ sym (ap (λ k. 1 + used_by k) one.2);
      bytes_are =
          ap (canonical_of tagged_bytes) (same ∙ one.4) ∙ ap (λ u. tag_byte u ∷ value_bytes one.0) kind
          ∙ sym (ap (λ k. tag_byte t ∷ canonical_of value_bytes k) one.2);
    }

-- no value was read where there is none
pub none_read : (room : ℕ) (bytes : List ℕ) → length bytes < 1 → IsRead (judge_value room bytes) → ⊥
none_read room bytes few h = rw (value_empty room bytes few) at h

-- No value is decoded where the first byte is no tag.
pub unknown_read : (room : ℕ) (bytes : List ℕ) → 0 < length bytes → tag_at (get_or bytes 0 0) ≡ None → IsRead (judge_value room bytes) → ⊥
unknown_read room bytes some is h = rw (value_unknown room bytes some is) at h

-- ---- a key and its value

pub record EntryParts (room : ℕ) (bytes : List ℕ) : Type 0 where
  pub value : FieldValue
  pub count : ℕ
  pub value_is : judge_value room (after_key bytes) ≡ took value count
  pub is : judge_entry (judge_value room) bytes ≡ took (key_in bytes, value) (1 + length (key_in bytes) + count)
  pub within : 1 + length (key_in bytes) ≤ length bytes
  pub front : take (1 + length (key_in bytes)) bytes ≡ short_string_bytes (key_in bytes)

-- what a short string was read of
pub text_parts : (bytes text : List ℕ) (n : ℕ) → judge_short_string bytes ≡ took text n
    → (text ≡ key_in bytes) × (n ≡ 1 + length (key_in bytes)) × (drop n bytes ≡ after_key bytes)
    × (1 + length (key_in bytes) ≤ length bytes) × (take (1 + length (key_in bytes)) bytes ≡ short_string_bytes (key_in bytes))
unfolding judge_short_string
text_parts [] text n h = absurd cc
text_parts (k ∷ bytes) text n h =
    let long = guard_took (nat_lt (length bytes) k) _ text n h in
    let right = test_took (is_utf8 (take k bytes)) _ not_utf8 text n long.1 in
    let less : k ≤ length bytes = let f = long.0 in grind (arith, nat_tests) in
    let count : length (take k bytes) ≡ k = length-take-le k bytes less in
    let size : n ≡ suc k = sym (count_took (take k bytes) text (1 + k) n right.1) ∙ omega arith in
    let one : 1 + length (take k bytes) ≡ suc k = omega (arith, count) in (
      sym (value_took (take k bytes) text (1 + k) n right.1),
      size ∙ sym one,
      ap (λ m. drop m (k ∷ bytes)) size,
      omega (arith, one, less),
      ap (λ m. take m (k ∷ bytes)) one ∙ ap (λ m. m ∷ take k bytes) (sym count),
    )

-- A decoded entry is its key, which is canonical, and its value, decoded after the key.
pub entry_parts : (room : ℕ) (bytes : List ℕ) → IsRead (judge_entry (judge_value room) bytes) → EntryParts room bytes
unfolding judge_entry
entry_parts room bytes h =
    let text = bind_read (judge_short_string bytes) _ h in
    let t = text_parts bytes text.0 text.1 text.2 in
    let value = bind_read (judge_value room (drop text.1 bytes)) _ text.3 in
    record {
      value = value.0;
      count = value.1;
      value_is = sym (ap (judge_value room) t.2) ∙ value.2;
      is = text.4 ∙ value.4 ∙ ap₂ (λ k m. took (k, value.0) (m + value.1)) t.0 t.1;
      within = t.3;
      front = t.4;
    }

-- ---- what fills a table or an array

-- the first of what fills some bytes, how many it takes, and what fills those after it
pub record First {A : Type 0} (item : Judge A) (bytes : List ℕ) : Type 0 where
  pub thing : A
  pub size : ℕ
  pub is : item bytes ≡ took thing size
  pub some : 0 < size
  pub within : size ≤ length bytes
  pub left : IsFilled (filled item 0 (drop size bytes))
  pub all : items_of (filled item 0 bytes) ≡ thing ∷ items_of (filled item 0 (drop size bytes))

filled_rest : {A : Type 0} (x : A) (r : Result (List A) Fault) → IsFilled (read_map (λ xs. x ∷ xs) r)
    → IsFilled r × (items_of (read_map (λ xs. x ∷ xs) r) ≡ x ∷ items_of r)
filled_rest x (Ok xs) h = (tt, refl)
filled_rest x (Err bad) h = absurd h

first_read : {A : Type 0} (j : Judged A) (others : ℕ → Result (List A) Fault) → IsFilled (next_item j others) → (x : A) × (n : ℕ) × (j ≡ took x n)
first_read (took x n) others h = (x, n, refl)
first_read _ others h = absurd h

first_taken : {A : Type 0} (item : Judge A) (bytes : List ℕ) → 0 < length bytes → IsFilled (filled item 0 bytes) → (x : A) × (n : ℕ) × (item bytes ≡ took x n)
unfolding filled
first_taken item [] some h = absurd (omega arith)
first_taken item (b ∷ bytes) some h = first_read (item (b ∷ bytes)) _ h

first_of_filled : {A : Type 0} (item : Judge A) (Spells : List ℕ → A → Type 0) → IsExact item Spells → HasBytes Spells
    → (bytes : List ℕ) → IsBytes bytes → 0 < length bytes → IsFilled (filled item 0 bytes) → First item bytes
first_of_filled item Spells exact some bytes fits more h =
    let one = first_taken item bytes more h in
    let x = one.0 in
    let n = one.1 in
    let spelled = exact.spelled bytes x n fits one.2 in
    let up : 0 < n = omega (arith, some (take n bytes) x spelled.0, length-take-le n bytes spelled.1) in
    let next = filled_next item bytes x n more one.2 up spelled.1 in
    let P : Result _ Fault → Type 0 = λ r. IsFilled r in
    let rest = filled_rest x (filled item 0 (drop n bytes)) (subst P next h) in
    record { thing = x; size = n; is = one.2; some = up; within = spelled.1; left = rest.0; all = ap (λ r. items_of r) next ∙ rest.1 }

-- Where some bytes are values, and not empty, a value stands first, and those after it are values.
pub first_value : (room : ℕ) (bytes : List ℕ) → IsBytes bytes → 0 < length bytes → IsFilled (filled (judge_value room) 0 bytes) → First (judge_value room) bytes
first_value room = first_of_filled (judge_value room) (SpellsValue plain room) (value_exact room) (value_some plain room)

-- Where some bytes are entries, and not empty, an entry stands first, and those after it are entries.
pub first_entry : (room : ℕ) (bytes : List ℕ) → IsBytes bytes → 0 < length bytes
    → IsFilled (filled (judge_entry (judge_value room)) 0 bytes) → First (judge_entry (judge_value room)) bytes
first_entry room =
    first_of_filled (judge_entry (judge_value room)) (SpellsEntry (SpellsValue plain room))
    (entry_exact (judge_value room) (SpellsValue plain room) (value_exact room)) (entry_some (SpellsValue plain room))

-- nothing fills what stands after the end
pub none_filled : {A : Type 0} (item : Judge A) (bytes : List ℕ) (at : ℕ) → length bytes ≤ at → items_of (filled item 0 (drop at bytes)) ≡ []
unfolding filled
none_filled item bytes at long = ap (λ bs. items_of (filled item 0 bs)) (none_left at bytes long)

-- ---- sizes and keys of entries

-- the size of an entry is that of its key and its value
pub entry_used : (room : ℕ) (bytes : List ℕ) (k n : ℕ) → k ≡ length (key_in bytes)
    → (IsRead (judge_value room (after_key bytes)) → n ≡ used_by (judge_value room (after_key bytes))) → IsRead (judge_entry (judge_value room) bytes)
    → 1 + k + n ≡ used_by (judge_entry (judge_value room) bytes)
entry_used room bytes k n key value h =
    let p = entry_parts room bytes h in
    let all = ap used_by p.is in
    let count = ap used_by p.value_is in
    let n_is = value (is_read (judge_value room (after_key bytes)) p.value p.count p.value_is) in
    omega (arith, all, count, n_is, key)

-- the key of an entry stands in front
pub entry_key : (room : ℕ) (bytes : List ℕ) → IsRead (judge_entry (judge_value room) bytes)
    → key_in bytes ≡ (judged_entry (judge_entry (judge_value room) bytes)).0
entry_key room bytes h = let p = entry_parts room bytes h in sym (ap (λ j. (judged_entry j).0) p.is)
