-- What is appended to a content is decoded after it.
use Rattle.std.proofs.Common.{◌≡◌, ℕ, zero, suc, ◌-◌, ◌<◌, ◌≤◌, nat_lt, Bool, true, false, List, [], ◌∷◌, ◌++◌, length, take, drop, if◌then◌else◌, Some}
use Rattle.std.proofs.Common.{None, Result, Ok, Err, refl, sym, ap, subst, ◌∙◌, append_assoc, append-nil, arith}
use Rattle.std.proofs.lemmas.Bool.Decides.{nat_tests}
use Rattle.std.proofs.lemmas.List.{length-take-le, take-append-drop, drop_all}
use Rattle.std.proofs.lemmas.Str.{IsUtf8-from_is_utf8}
use Rattle.std.specs.Str.{is_utf8}
use Rattle.amqp_types.specs.Levels.{plain, strict}
use Rattle.amqp_types.specs.Judging.{Fault, Judged, Judge, took, past, fault, IsBytes, IsExact}
use Rattle.amqp_types.specs.Strings.{SpellsShortString, short_string_bytes}
use Rattle.amqp_types.specs.Settling.{settled}
use Rattle.amqp_types.specs.Values.{Entry}
use Rattle.amqp_types.specs.ValueBytes.{tagged_bytes}
use Rattle.amqp_types.specs.ValueJudging.{filled, next_item, read_map, judge_entry, judge_value}
use Rattle.amqp_types.specs.ValueSpelling.{SpellsEntry, SpellsValue}
use Rattle.amqp_laws.proofs.Exactly.{value_exact, value_some}
use Rattle.amqp_laws.proofs.Filled.{HasBytes, entry_exact, entry_some, map_ok}
use Rattle.amqp_laws.proofs.Filling.{after_none, filled_next}
use Rattle.amqp_laws.proofs.Settling.{none_risen}
use Rattle.amqp_laws.proofs.Strictly.{in_order}
use Rattle.amqp_laws.proofs.ValueLaws.{value_is_plain}
use Rattle.amqp_canonical.specs.Judgements.{AreCanonicalEntries}
use Rattle.amqp_canonical.specs.Writes.{array_content, entry_bytes, items_of, table_content}
use Rattle.amqp_canonical.proofs.Putting.{IsEach}
use Rattle.amqp_canonical.proofs.PutByLoops.{each_entry, each_value}
use Rattle.amqp_entries.specs.Flaws.{text_flaw}
use Rattle.amqp_entries.specs.Laws.{AppendedEntryIsDecoded, AppendedInOrderIsCanonical, AppendedValueIsDecoded, AppendedValuesAreCanonical}
use Rattle.amqp_entries.specs.Written.{IsWritten}
use Rattle.amqp_entries.specs.declared.errors.PutError.TheVariants as errors

next_ok : {A : Type 0} (j : Judged A) (others : ℕ → Result (List A) Fault) (ys : List A) → next_item j others ≡ Ok ys
    → (x : A) × (n : ℕ) × (j ≡ took x n) × (read_map (λ xs. x ∷ xs) (others n) ≡ Ok ys)
next_ok (took x n) others ys h = (x, n, refl, h)
next_ok past others ys h = cc
next_ok (fault bad) others ys h = cc

in_front : {A : Type 0} (x : A) (xs : List A) (read : Result (List A) Fault)
    → read_map (λ ys. x ∷ ys) (read_map (λ ys. xs ++ ys) read) ≡ read_map (λ ys. (x ∷ xs) ++ ys) read
in_front x xs (Ok ys) = refl
in_front x xs (Err bad) = refl

module _ {A : Type 0} (item : Judge A) (Spells : List ℕ → A → Type 0) (exact : IsExact item Spells) (some : HasBytes Spells) where
  filled_then : (k : ℕ) (bytes rest : List ℕ) (xs : List A) → IsBytes bytes → k ≤ length bytes → filled item k bytes ≡ Ok xs
      → filled item k (bytes ++ rest) ≡ read_map (λ ys. xs ++ ys) (filled item 0 rest)
  unfolding filled
  filled_then zero [] rest xs fits le h = let e : [] ≡ xs = cc in sym (after_none (filled item 0 rest))
      ∙ ap (λ (front : List A). read_map (λ ys. front ++ ys) (filled item 0 rest)) e
  filled_then (suc k) [] rest xs fits le h = absurd (omega arith)
  filled_then (suc k) (b ∷ bytes) rest xs fits le h = filled_then k bytes rest xs (λ i. fits (suc i)) (omega arith) h
  filled_then zero (b ∷ bytes) rest xs fits le h =
      let j = next_ok (item (b ∷ bytes)) _ xs h in
      let n = j.1 in
      let front = take n (b ∷ bytes) in
      let one = exact.spelled (b ∷ bytes) j.0 n fits j.2 in
      let count : length front ≡ n = length-take-le n (b ∷ bytes) one.1 in
      let up : 0 < n = omega (arith, some front j.0 one.0, count) in
      let r = map_ok (λ ys. j.0 ∷ ys) (filled item (n - 1) bytes) xs j.3 in
      let whole : front ++ (drop n (b ∷ bytes) ++ rest) ≡ b ∷ (bytes ++ rest) = sym (append_assoc front (drop n (b ∷ bytes)) rest)
      ∙ ap (λ bs. bs ++ rest) (take-append-drop n (b ∷ bytes)) in
      let same : item (b ∷ (bytes ++ rest)) ≡ took j.0 n = sym (ap item whole) ∙ exact.taken front (drop n (b ∷ bytes) ++ rest) j.0 one.0
      ∙ ap (took j.0) count in
      let more = filled_then (n - 1) bytes rest r.0 (λ i. fits (suc i)) (omega (arith, one.1, up)) r.1 in
      ap (λ i. next_item i (λ m. filled item (m - 1) (bytes ++ rest))) same ∙ ap (read_map (λ ys. j.0 ∷ ys)) more ∙ in_front j.0 r.0 (filled item 0 rest)
      ∙ ap (λ (front : List A). read_map (λ ys. front ++ ys) (filled item 0 rest)) r.2

  alone : (bytes : List ℕ) (x : A) → Spells bytes x → filled item 0 bytes ≡ Ok (x ∷ [])
  unfolding filled
  alone bytes x h =
      let up = some bytes x h in
      let read : item bytes ≡ took x (length bytes) = ap item (sym (append-nil bytes)) ∙ exact.taken bytes [] x h in
      filled_next item bytes x (length bytes) up read up (omega arith)
      ∙ ap (λ bs. read_map (λ xs. x ∷ xs) (filled item 0 bs)) (drop_all (length bytes) bytes (omega arith))

  pub decoded_after : (content bytes : List ℕ) (xs : List A) (x : A) → IsBytes content → filled item 0 content ≡ Ok xs → Spells bytes x
      → filled item 0 (content ++ bytes) ≡ Ok (xs ++ x ∷ [])
  decoded_after content bytes xs x fits h spelled = filled_then 0 content bytes xs fits (omega arith) h ∙ ap (read_map (λ ys. xs ++ ys)) (alone bytes x spelled)

-- a text without a flaw is a short string
by_utf8 : (utf8 : Bool) → (if utf8 then None else Some errors.NotUtf8) ≡ None → utf8 ≡ true
by_utf8 true h = refl
by_utf8 false h = absurd cc

by_length : (text : List ℕ) (long : Bool) → nat_lt 255 (length text) ≡ long → text_flaw text ≡ None → (length text < 256) × (is_utf8 text ≡ true)
by_length text true e h = let f = rw e at h in absurd cc
by_length text false e h = (grind (arith, nat_tests), by_utf8 (is_utf8 text) (rw e at h))

pub key_spelled : (key : List ℕ) → text_flaw key ≡ None → SpellsShortString (short_string_bytes key) key
key_spelled key none =
    let h = by_length key (nat_lt 255 (length key)) refl none in
    record { fits = h.0; utf8 = IsUtf8-from_is_utf8 key h.1; bytes_are = refl }

entry_spelled : (e : Entry) → text_flaw e.0 ≡ None → IsWritten e.1 → SpellsEntry (SpellsValue plain 63) (entry_bytes e) e
entry_spelled e none h = record {
  front = short_string_bytes e.0;
  behind = tagged_bytes e.1;
  one = e.0;
  two = e.1;
  bytes_are = refl;
  first_is = key_spelled e.0 none;
  second_is = value_is_plain strict 63 (tagged_bytes e.1) e.1 h.spelled;
  joined = refl;
}

-- appended entries are decoded after those before them
pub appended_entry : AppendedEntryIsDecoded
appended_entry content es e fits h none written =
    decoded_after (judge_entry (judge_value 63)) (SpellsEntry (SpellsValue plain 63)) (entry_exact (judge_value 63) (SpellsValue plain 63) (value_exact 63))
    (entry_some (SpellsValue plain 63)) content (entry_bytes e) es e fits h (entry_spelled e none written)

-- appended values are decoded after those before them
pub appended_value : AppendedValueIsDecoded
appended_value content vs v fits h written =
    decoded_after (judge_value 63) (SpellsValue plain 63) (value_exact 63) (value_some plain 63) content (tagged_bytes v) vs v fits h
    (value_is_plain strict 63 (tagged_bytes v) v written.spelled)

-- a content is read in one way
one_reading : {A : Type 0} (read : Result A Fault) (x y : A) → read ≡ Ok x → read ≡ Ok y → x ≡ y
one_reading read x y h k = cc

-- the bytes of things and of one more
and_one : {A : Type 0} (content : List A → List ℕ) (one : A → List ℕ) → IsEach content one → (xs : List A) (x : A)
    → content (xs ++ x ∷ []) ≡ content xs ++ one x
and_one content one each [] x = each.more x [] ∙ ap (λ bs. one x ++ bs) each.none ∙ append-nil (one x) ∙ sym (ap (λ bs. bs ++ one x) each.none)
and_one content one each (y ∷ xs) x = each.more y (xs ++ x ∷ []) ∙ ap (λ bs. one y ++ bs) (and_one content one each xs x)
    ∙ sym (append_assoc (one y) (content xs) (one x)) ∙ ap (λ bs. bs ++ one x) (sym (each.more y xs))

-- entries appended in ascending key order are canonical
pub appended_in_order : AppendedInOrderIsCanonical
appended_in_order = record {
  none = (refl, none_risen);
  next = λ content es e canonical rising. (ap (λ bs. bs ++ entry_bytes e) canonical.0 ∙ sym (and_one table_content entry_bytes each_entry es e), rising);
  judged = λ content es canonical rising h verdict.
      let P : List Entry → Type 0 = λ fs. AreCanonicalEntries content fs in
      verdict.decides.1 (subst P (one_reading _ es verdict.thing h verdict.is) rising);
  table = λ content es canonical h. ap (λ r. settled (items_of r)) h ∙ in_order [] es canonical.1;
}

-- appended values are canonical
pub appended_values : AppendedValuesAreCanonical
appended_values = record {
  none = refl;
  next = λ content vs v canonical. ap (λ bs. bs ++ tagged_bytes v) canonical ∙ sym (and_one array_content tagged_bytes each_value vs v);
}
