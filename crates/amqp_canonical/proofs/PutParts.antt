-- The canonical bytes of what was read, by the parts in which they are put.
use Rattle.amqp_canonical.specs.CanonicalValues.{canonical_entries, canonical_entry, canonical_value, canonical_values}
use Rattle.std.proofs.Common.{◌≡◌, ◌⊎◌, inl, inr, ◌<◌, ◌≤◌, ◌^◌, ℕ, zero, suc, ◌+◌, ◌-◌, nat_eq, not, List, [], ◌∷◌, ◌++◌, length, get_or, take, drop, Option}
use Rattle.std.proofs.Common.{Result, Ok, Err, refl, sym, ap, ap₂, subst, ◌∙◌, append_assoc, arith}
use Rattle.std.proofs.lemmas.Bool.{cases_lt}
use Rattle.std.proofs.lemmas.List.{length-append, length-take-le, length-drop, take_all, drop_all, drop_at, take-append-le, take-take}
use Rattle.std.proofs.Math.Seq.{take-add}
use Rattle.amqp_types.specs.Judging.{Fault, Judged, Judge, IsExact, took, ◌>>=◌, IsBytes}
use Rattle.amqp_types.specs.Levels.{plain}
use Rattle.amqp_types.specs.Booleans.{boolean_bytes}
use Rattle.amqp_types.specs.Numbers.{bytes4, number_bytes}
use Rattle.amqp_types.specs.Strings.{with_length, judge_long_string}
use Rattle.amqp_types.specs.Settling.{settled}
use Rattle.amqp_types.specs.Values.{FieldValue, Entry, array_value, table_value, values_of, entries_of}
use Rattle.amqp_types.specs.ValueBytes.{value_bytes, tagged_bytes, array_bytes, table_bytes, any_value_long, any_entry_long}
use Rattle.amqp_types.specs.ValueJudging.{took_all, read_map, filled, judge_entry, judge_array, judge_table, judge_behind, judge_value, nested}
use Rattle.amqp_types.specs.ValueSpelling.{SpellsValue}
use Rattle.amqp_types.specs.Tags.{tag_byte}
use Rattle.amqp_types.specs.Writing.{written}
use Rattle.amqp_types.specs.declared.tag.FieldTag.{FieldTag}
use Rattle.amqp_types.specs.declared.tag.FieldTag.TheVariants as tag
use Rattle.amqp_types.proofs.Numbers.{number_bytes-length}
use Rattle.amqp_types.proofs.Texts.{long_string_exact}
use Rattle.amqp_laws.proofs.Filling.{nested_more}
use Rattle.amqp_laws.proofs.Filled.{array_exact, table_exact}
use Rattle.amqp_laws.proofs.Exactly.{value_exact, value_some}
use Rattle.amqp_laws.proofs.Bounded.{value_bounded, array_bounded, table_bounded}
use Rattle.amqp_laws.proofs.Strictly.{fits_four}
use Rattle.amqp_canonical.specs.declared.values.Layout.{Layout}
use Rattle.amqp_canonical.specs.declared.values.Layout.TheVariants as layout
use Rattle.amqp_canonical.specs.Judgements.{layout_at}
use Rattle.amqp_canonical.specs.Writes.{IsRead, IsCopied, PutsIfRoom, canonical_of, IsFilled, items_of, entry_bytes, array_content, table_content, key_in}
use Rattle.amqp_canonical.specs.Writes.{after_key}
use Rattle.amqp_canonical.specs.Marks.{AreEntries}
use Rattle.amqp_canonical.proofs.AfterTag.{IsTaken, counted_took, array_deep, table_deep}
use Rattle.amqp_canonical.proofs.Putting.{same_put}
use Rattle.amqp_canonical.proofs.ReadParts.{TagParts, took_of, is_read, bind_read, entry_parts}
use Rattle.amqp_canonical.proofs.Sizes.{fixed_taken, has_length, is_array, is_table}
use Rattle.amqp_types.specs.Tidiness.{used_by}

-- ---- what is copied

-- What holds of a copy of m bytes holds of one of n bytes where m is n.
pub copied_as : {A : Type 0} (canonical : A → List ℕ) (bytes : List ℕ) (m n : ℕ) (j : Judged A)
    → m ≡ n → IsCopied canonical bytes m j → IsCopied canonical bytes n j
copied_as canonical bytes m n j is h = rw (← is) h

copied_of : (bytes : List ℕ) (m n : ℕ) (j : Judged FieldValue) → m ≤ length bytes → IsTaken bytes m j → n ≡ used_by j → IsCopied value_bytes bytes n j
copied_of bytes m n j within h used =
    let same : n ≡ m = used ∙ ap used_by h.1 in
    record { within = omega (arith, same, within); bytes_are = ap (λ k. take k bytes) same ∙ h.2 ∙ sym (ap (canonical_of value_bytes) h.1) }

-- ---- truth values

-- After the tag of a boolean, the canonical byte is 1 where the byte there is not zero, and 0 where it is.
pub boolean_put : (nest : Option (Judge FieldValue)) (t : FieldTag) (bytes : List ℕ) → layout_at t ≡ layout.OneBoolean → IsRead (judge_behind nest t bytes)
    → (0 < length bytes) × (canonical_of value_bytes (judge_behind nest t bytes) ≡ boolean_bytes (not (nat_eq (get_or bytes 0 0) 0)))
unfolding judge_behind
boolean_put nest tag.Boolean [] is h = absurd h
boolean_put nest tag.Boolean (b ∷ bytes) is h = (omega arith, refl)
boolean_put nest _ bytes is h = absurd cc

low_truth : (bytes : List ℕ) → 0 < length bytes → get_or bytes 0 0 ≤ 1 → take 1 bytes ≡ boolean_bytes (not (nat_eq (get_or bytes 0 0) 0))
low_truth [] some low = absurd (omega (arith, some))
low_truth (zero ∷ bytes) some low = refl
low_truth (suc zero ∷ bytes) some low = refl
low_truth (suc (suc n) ∷ bytes) some low = absurd (omega (arith, low))

-- ---- what is copied after a tag

module _ (nest : Option (Judge FieldValue)) (t : FieldTag) (bytes : List ℕ) where
  abbrev behind : Judged FieldValue
  behind = judge_behind nest t bytes

  -- After a tag of fixed size, the bytes that a value took are its canonical bytes.
  pub fixed_copied : (m n : ℕ) → IsBytes bytes → layout_at t ≡ layout.Fixed m → IsRead behind → n ≡ used_by behind → IsCopied value_bytes bytes n behind
  fixed_copied m n fits is read used = let one = fixed_taken nest t bytes m fits is read in copied_of bytes m n behind one.0 one.1 used

  -- So are they after the tag of a string or a byte array.
  pub counted_copied : (n : ℕ) → IsBytes bytes → layout_at t ≡ layout.Counted → IsRead behind → n ≡ used_by behind → IsCopied value_bytes bytes n behind
  counted_copied n fits is read used =
      let one = took_of (judge_long_string bytes) (has_length nest t bytes (inl is) read).read in
      let spelled = long_string_exact.spelled bytes one.0 one.1 fits one.2 in
      copied_of bytes one.1 n behind spelled.1 (counted_took nest t bytes one.0 one.1 fits is one.2) used

  -- After the tag of a boolean, a byte of 0 or 1 is the canonical byte of the truth value.
  pub boolean_copied : layout_at t ≡ layout.OneBoolean → get_or bytes 0 0 ≤ 1 → IsRead behind → IsCopied value_bytes bytes 1 behind
  boolean_copied is low read =
      let h = boolean_put nest t bytes is read in
      record { within = omega (arith, h.0); bytes_are = low_truth bytes h.0 low ∙ sym h.1 }

-- ---- arrays and tables in a value

-- an array or a table that is a value, where there is room for it
pub record Inside {A : Type 0} (room : ℕ) (canonical : A → List ℕ) (inner : Judged A) (j : Judged FieldValue) : Type 0 where
  pub up : 0 < room
  pub read : IsRead inner
  pub bytes_are : canonical_of value_bytes j ≡ canonical_of canonical inner

made_inside : {A : Type 0} {room : ℕ} (make : A → FieldValue) (inner : Judged A) → 0 < room → IsRead (inner >>= λ x. took (make x.0) x.1)
    → Inside room (λ x. value_bytes (make x)) inner (inner >>= λ x. took (make x.0) x.1)
made_inside make inner up h =
    let one = bind_read inner _ h in
    record {
      up = up;
      read = is_read inner one.0 one.1 one.2;
      bytes_are = ap (canonical_of value_bytes) one.4 ∙ sym (ap (canonical_of (λ x. value_bytes (make x))) one.2);
    }

-- After the tag of an array, where a value is decoded, there is room for nesting, and the array has its canonical bytes.
pub array_inside : (room : ℕ) (t : FieldTag) (bytes : List ℕ) → layout_at t ≡ layout.Values → IsRead (judge_behind (nested room) t bytes)
    → Inside room array_bytes (judge_array (judge_value (room - 1)) bytes) (judge_behind (nested room) t bytes)
unfolding judge_behind
array_inside room t bytes is =
    elim (cases_lt 0 room) [
      | inl up ↦ rw (is_array t is, nested_more room up) (made_inside (λ vs. array_value (values_of vs)) (judge_array (judge_value (room - 1)) bytes) up)
      | inr none ↦ λ h. absurd (rw (array_deep room t bytes is (omega (arith, none))) at h)
    ]

-- After the tag of a table, where a value is decoded, there is room for nesting, and the table has its canonical bytes.
pub table_inside : (room : ℕ) (t : FieldTag) (bytes : List ℕ) → layout_at t ≡ layout.Entries → IsRead (judge_behind (nested room) t bytes)
    → Inside room table_bytes (judge_table (judge_value (room - 1)) bytes) (judge_behind (nested room) t bytes)
unfolding judge_behind table_bytes
table_inside room t bytes is =
    elim (cases_lt 0 room) [
      | inl up ↦ rw (is_table t is, nested_more room up) (made_inside (λ es. table_value (entries_of es)) (judge_table (judge_value (room - 1)) bytes) up)
      | inr none ↦ λ h. absurd (rw (table_deep room t bytes is (omega (arith, none))) at h)
    ]

-- ---- what an array and a table hold

-- the content is read, and the canonical bytes are other content with its length in four bytes
pub record Holds {A : Type 0} (canonical : A → List ℕ) (j : Judged A) (read : Type 0) (content : List ℕ) : Type 0 where
  pub filled_is : read
  pub bytes_are : canonical_of canonical j ≡ with_length content
  pub fits : length content < 2 ^ 32

array_whole : (r : Result (List FieldValue) Fault) (n : ℕ) → IsRead (took_all n r)
    → IsFilled r × (canonical_of array_bytes (took_all n r) ≡ with_length (array_content (items_of r)))
array_whole (Ok vs) n h = (tt, refl)
array_whole (Err bad) n h = absurd h

table_whole : (r : Result (List Entry) Fault) (n : ℕ) → IsRead (took_all n (read_map settled r))
    → IsFilled r × (canonical_of table_bytes (took_all n (read_map settled r)) ≡ with_length (table_content (settled (items_of r))))
unfolding table_bytes
table_whole (Ok es) n h = (tt, refl)
table_whole (Err bad) n h = absurd h

-- what is put of the content of a long string, which is decoded to items
held : {A : Type 0} (item : Judge A) (after : ℕ → Result (List A) Fault → Judged (List A)) (canonical put : List A → List ℕ) (bytes content : List ℕ)
    → ((r : Result (List A) Fault) (n : ℕ) → IsRead (after n r) → IsFilled r × (canonical_of canonical (after n r) ≡ with_length (put (items_of r))))
    → (IsRead (judge_long_string bytes) → content ≡ canonical_of (λ c. c) (judge_long_string bytes))
    → (let j = judge_long_string bytes >>= λ c. after c.1 (filled item 0 c.0) in
    IsRead j → IsFilled (filled item 0 content) × (canonical_of canonical j ≡ with_length (put (items_of (filled item 0 content)))))
held item after canonical put bytes content whole is h =
    let c = bind_read (judge_long_string bytes) _ h in
    let w = whole (filled item 0 c.0) c.1 c.3 in
    let same : content ≡ c.0 = is (is_read (judge_long_string bytes) c.0 c.1 c.2) ∙ ap (canonical_of (λ c. c)) c.2 in (
      subst (λ k. IsFilled (filled item 0 k)) (sym same) w.0,
      ap (canonical_of canonical) c.4 ∙ w.1 ∙ ap (λ k. with_length (put (items_of (filled item 0 k)))) (sym same),
    )

-- content that was read and put fits the length in front of it
content_fits : {A : Type 0} (judge : Judge A) (Spells : List ℕ → A → Type 0) (put : A → List ℕ) → IsExact judge Spells
    → ((bytes : List ℕ) (x : A) → Spells bytes x → length (put x) < 2 ^ 32) → (bytes content : List ℕ) → IsBytes bytes → IsRead (judge bytes)
    → canonical_of (λ x. with_length (put x)) (judge bytes) ≡ with_length content → length content < 2 ^ 32
content_fits judge Spells put exact short bytes content fits h is =
    let one = took_of (judge bytes) h in
    let spelled = exact.spelled bytes one.0 one.1 fits one.2 in
    let same : with_length (put one.0) ≡ with_length content = sym (ap (canonical_of (λ x. with_length (put x))) one.2) ∙ is in
    let inner : put one.0 ≡ content = ap (drop 4) same in
    omega (arith, ap length inner, short (take one.1 bytes) one.0 spelled.0)

-- The content of a decoded array is values, and its canonical bytes are theirs with the length in front.
pub array_holds : (room : ℕ) (bytes content : List ℕ) → IsBytes bytes
    → (IsRead (judge_long_string bytes) → content ≡ canonical_of (λ c. c) (judge_long_string bytes)) → IsRead (judge_array (judge_value room) bytes)
    → Holds array_bytes (judge_array (judge_value room) bytes) (IsFilled (filled (judge_value room) 0 content))
    (canonical_values room content)
unfolding judge_array
array_holds room bytes content fits is h =
    let value = judge_value room in
    let Plain = SpellsValue plain room in
    let p = held value (λ n r. took_all n r) array_bytes array_content bytes content array_whole is h in
    record {
      filled_is = p.0;
      bytes_are = p.1;
      fits =
          content_fits (judge_array value) _ array_content (array_exact value Plain (value_exact room) (value_some plain room))
          (λ bs vs s. fits_four (any_value_long (values_of vs)) _ (array_bounded room Plain (value_bounded room) bs vs s).not_long) bytes _ fits h p.1;
    }

-- The content of a decoded table is entries, and its canonical bytes are those of the settled entries with the length in front.
pub table_holds : (room : ℕ) (bytes content : List ℕ) → IsBytes bytes
    → (IsRead (judge_long_string bytes) → content ≡ canonical_of (λ c. c) (judge_long_string bytes)) → IsRead (judge_table (judge_value room) bytes)
    → Holds table_bytes (judge_table (judge_value room) bytes) (AreEntries room content) (canonical_entries room content)
unfolding judge_table table_bytes
table_holds room bytes content fits is h =
    let value = judge_value room in
    let Plain = SpellsValue plain room in
    let p =
    held (judge_entry value) (λ n r. took_all n (read_map settled r)) table_bytes (λ es. table_content (settled es)) bytes content table_whole is h in
    record {
      filled_is = p.0;
      bytes_are = p.1;
      fits =
          content_fits (judge_table value) _ table_content (table_exact value Plain (value_exact room) (value_some plain room))
          (λ bs es s. fits_four (any_entry_long (entries_of es)) _ (table_bounded room Plain (value_bounded room) bs es s).not_long) bytes _ fits h p.1;
    }

-- ---- the length is put last

-- Bytes that are written behind a place, and then others in front of them, are both written one after the other.
pub written_before : (old first second : List ℕ) (at place : ℕ) → place ≡ at + length first
    → place + length second ≤ length old → written (written old place second) at first ≡ written old at (first ++ second)
unfolding written
written_before old first second at place is room =
    let behind = drop (place + length second) old in
    let front = take place old in
    let long : length front ≡ place = length-take-le place old (omega arith) in
    let kept : take at (front ++ (second ++ behind)) ≡ take at old =
    take-append-le at front (second ++ behind) (omega (arith, is, long)) ∙ take-take at place old (omega (arith, is)) in
    let next : drop (at + length first) (front ++ (second ++ behind)) ≡ second ++ behind = drop_at front (second ++ behind) (at + length first) (long ∙ is) in
    let sum : place + length second ≡ at + length (first ++ second) = omega (arith, is, length-append first second) in
    ap₂ (λ a b. a ++ (first ++ b)) kept next ∙ ap (λ bs. take at old ++ bs) (sym (append_assoc first second behind))
    ∙ ap (λ k. take at old ++ ((first ++ second) ++ drop k old)) sum

-- what an array or a table holds was put after its length, and then the length
pub length_put : {A : Type 0} (canonical : A → List ℕ) (j : Judged A) (read : Type 0) (content : List ℕ) {old mid new : List ℕ} {at end place : ℕ}
    → Holds canonical j read content → PutsIfRoom old mid (at + 4) content end
    → PutsIfRoom mid new at (number_bytes bytes4 (end - at - 4)) place → PutsIfRoom old new at (canonical_of canonical j) end
length_put canonical j read content {old} {mid} {new} {at} {end} {place} h inner outer =
    let first = number_bytes bytes4 (length content) in
    let count : end - at - 4 ≡ length content = omega (arith, inner.behind) in
    let four : length first ≡ 4 = number_bytes-length bytes4 (length content) in
    let sum = length-append first content in
    same_put (sym h.bytes_are) (record {
      put = λ room.
          let before = inner.put (omega (arith, sum, four, room)) in
          outer.put (omega (arith, inner.same, ap (λ n. length (number_bytes bytes4 n)) count, sum, room))
          ∙ ap (λ n. written mid at (number_bytes bytes4 n)) count ∙ ap (λ buf. written buf at first) before
          ∙ written_before old first content at (at + 4) (omega (arith, four)) (omega (arith, sum, four, room));
      behind = omega (arith, inner.behind, four, sum);
      same = outer.same ∙ inner.same;
    })

-- ---- a key and its value

pub record EntryPut (room : ℕ) (bytes : List ℕ) : Type 0 where
  pub within : 1 + length (key_in bytes) ≤ length bytes
  pub read : IsRead (judge_value room (after_key bytes))
  pub bytes_are : canonical_entry room bytes
      ≡ take (1 + length (key_in bytes)) bytes ++ canonical_value room (after_key bytes)
  pub size : length (canonical_entry room bytes)
      ≡ length (take (1 + length (key_in bytes)) bytes) + length (canonical_value room (after_key bytes))

-- Where an entry is decoded, its key fits and its value is decoded, and its canonical bytes are the key and those of the value.
pub entry_put : (room : ℕ) (bytes : List ℕ) → IsRead (judge_entry (judge_value room) bytes) → EntryPut room bytes
entry_put room bytes h =
    let p = entry_parts room bytes h in
    let first = take (1 + length (key_in bytes)) bytes in
    let second = canonical_value room (after_key bytes) in
    let whole : canonical_entry room bytes ≡ first ++ second =
    ap (canonical_of entry_bytes) p.is ∙ sym (ap₂ (λ a b. a ++ b) p.front (ap (canonical_of tagged_bytes) p.value_is)) in
    record {
      within = p.within;
      read = is_read (judge_value room (after_key bytes)) p.value p.count p.value_is;
      bytes_are = whole;
      size = ap length whole ∙ length-append first second;
    }

-- what is copied, by either layout
pub copied_at : (room : ℕ) (t : FieldTag) (bytes : List ℕ) {n : ℕ} {l : Layout} → IsBytes bytes → l ≡ layout_at t
    → ((m : ℕ) × (l ≡ layout.Fixed m)) ⊎ (l ≡ layout.Counted) → (let j = λ (room : ℕ) (t : FieldTag). judge_behind (nested room) t bytes in
    IsRead (j room t) → ((room : ℕ) (t : FieldTag) → layout_at t ≡ l → IsRead (j room t) → n ≡ used_by (j room t)) → IsCopied value_bytes bytes n (j room t))
copied_at room t bytes {n} fits is (inl one) read used = fixed_copied (nested room) t bytes one.0 n fits (sym is ∙ one.1) read (used room t (sym is) read)
copied_at room t bytes {n} fits is (inr one) read used = counted_copied (nested room) t bytes n fits (sym is ∙ one) read (used room t (sym is) read)

-- an entry has bytes
pub entry_some : (room : ℕ) (bytes : List ℕ) → IsRead (judge_entry (judge_value room) bytes)
    → 0 < length (canonical_entry room bytes)
entry_some room bytes read =
    let h = entry_put room bytes read in
    omega (arith, h.size, length-take-le (1 + length (key_in bytes)) bytes h.within)

-- ---- what is copied with its tag

-- the bytes after the tag are copied, and the tag byte is the one that is written
pub value_copied : (room : ℕ) (bytes : List ℕ) (t : FieldTag) (n : ℕ) → 0 < length bytes → tag_byte t ≡ get_or bytes 0 0 → TagParts room bytes t
    → IsCopied value_bytes (drop 1 bytes) n (judge_behind (nested room) t (drop 1 bytes)) → IsCopied tagged_bytes bytes (1 + n) (judge_value room bytes)
value_copied room [] t n some same parts h = absurd (omega (arith, some))
value_copied room (b ∷ bytes) t n some same parts h = record {
  within = omega (arith, h.within);
  bytes_are =
      let more : take (1 + n) (b ∷ bytes) ≡ b ∷ take n bytes = ap (λ k. take k (b ∷ bytes)) (let e : 1 + n ≡ suc n = omega arith in e) in
      more ∙ ap₂ (λ x xs. x ∷ xs) (sym same) h.bytes_are ∙ sym parts.bytes_are;
}

pub key_dropped : (bytes : List ℕ) → 1 + length (key_in bytes) ≤ length bytes → drop (1 + length (key_in bytes)) bytes ≡ after_key bytes
key_dropped [] within = absurd (omega (arith, within))
key_dropped (n ∷ bytes) within =
    let more : 1 + length (take n bytes) ≡ suc (length (take n bytes)) = omega arith in
    ap (λ k. drop k (n ∷ bytes)) more ∙ elim (cases_lt n (length bytes)) [
      | inl few ↦ ap (λ k. drop k bytes) (length-take-le n bytes (omega (arith, few)))
      | inr many ↦ drop_all (length (take n bytes)) bytes (omega (arith, ap length (take_all n bytes many))) ∙ sym (drop_all n bytes many)
    ]

-- a key, and a value that is copied
pub entry_whole : (room : ℕ) (bytes key rest : List ℕ) (n : ℕ) → key ≡ key_in bytes → rest ≡ after_key bytes
    → IsRead (judge_entry (judge_value room) bytes) → (IsRead (judge_value room rest) → IsCopied tagged_bytes rest n (judge_value room rest))
    → IsCopied entry_bytes bytes (1 + length key + n) (judge_entry (judge_value room) bytes)
entry_whole room bytes key rest n key_is rest_is read copied =
    let put = entry_put room bytes read in
    let h = (rw rest_is at copied) put.read in
    let k = 1 + length (key_in bytes) in
    let behind : drop k bytes ≡ after_key bytes = key_dropped bytes put.within in
    rw key_is (record {
      within = omega (arith, ap length behind, length-drop k bytes, h.within, put.within);
      bytes_are = take-add k n bytes ∙ ap (λ bs. take k bytes ++ take n bs) behind ∙ ap (λ bs. take k bytes ++ bs) h.bytes_are ∙ sym put.bytes_are;
    })
