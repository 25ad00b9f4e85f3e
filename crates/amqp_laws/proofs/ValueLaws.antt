-- The laws of values, arrays and tables.
use Rattle.std.proofs.Common.{◌≡◌, ℕ, ◌≤◌, nat_lt, List, ◌++◌, length, take, Bool, true, false, Ok, refl, sym, subst, arith}
use Rattle.std.proofs.lemmas.Bool.Decides.{nat_tests}
use Rattle.std.proofs.lemmas.List.{length-take-le}
use Rattle.amqp_types.specs.Levels.{Level, plain, tidy, strict}
use Rattle.amqp_types.specs.Judging.{took, IsBytes, IsExact}
use Rattle.amqp_types.specs.Sizes.{measured}
use Rattle.amqp_types.specs.Values.{FieldValue, Entry, array_value, table_value, values_of, entries_of, depth}
use Rattle.amqp_types.specs.ValueBytes.{tagged_bytes, tagged_size, array_bytes, array_size, table_bytes, table_size, is_deep_table}
use Rattle.amqp_types.specs.ValueBytes.{is_long_table, is_deep, is_long}
use Rattle.amqp_types.specs.Settling.{IsSettled, IsRising}
use Rattle.amqp_types.specs.ValueJudging.{judge_value, judge_field_value, judge_field_array, judge_field_table}
use Rattle.amqp_types.specs.ValueSpelling.{SpellsValue, SpellsFieldArray, SpellsFieldTable}
use Rattle.amqp_types.specs.ValueLaws.{ValuesAreLawful, ArraysAreLawful, TablesAreLawful, SpelledIsBounded, SettledIsSettling, HeldIsReadBack, IsNoLonger}
use Rattle.amqp_types.specs.ValueLaws.{AllHeld, AllEntriesHeld, IsHeld}
use Rattle.amqp_types.proofs.FormLaws.{is_plain, one_at_each}
use Rattle.amqp_laws.proofs.Conversions.{items-values_of, pairs-entries_of}
use Rattle.amqp_laws.proofs.Settling.{settles, settled_is}
use Rattle.amqp_laws.proofs.Filled.{array_exact, table_exact}
use Rattle.amqp_laws.proofs.Exactly.{value_exact, value_some}
use Rattle.amqp_laws.proofs.Bounded.{value_bounded, array_bounded, table_bounded}
use Rattle.amqp_laws.proofs.Strictly.{value_only, only_array, only_table, value_strict_is_tidy, value_tidy_is_plain, array_into, table_strict_is_tidy}
use Rattle.amqp_laws.proofs.Strictly.{table_tidy_is_plain, value_again, array_again, table_again}
use Rattle.amqp_laws.proofs.Held.{value_held, array_held, table_held}

-- A value that is encoded at any level is encoded at level plain.
pub value_is_plain : (level : Level) (room : ℕ) (bytes : List ℕ) (v : FieldValue) → SpellsValue level room bytes v → SpellsValue plain room bytes v
value_is_plain level room = is_plain (λ l. SpellsValue l room) (value_strict_is_tidy room) (value_tidy_is_plain room) level

-- The laws of a form of bytes hold of a tag and its value.
pub values_lawful : ValuesAreLawful
values_lawful room = record {
  exact = value_exact room;
  strict_is_tidy = value_strict_is_tidy room;
  tidy_is_plain = value_tidy_is_plain room;
  one_meaning = one_at_each (judge_value room) (λ level. SpellsValue level room) (value_exact room) (λ level. value_is_plain level room);
  strict_is_canonical = value_only room;
  canonical_is_strict = value_again room;
  shortest = λ bytes v h. let b = value_bounded room bytes v h in b.shorter;
}

pub field_array_exact : IsExact judge_field_array (SpellsFieldArray plain)
field_array_exact = array_exact (judge_value 63) (SpellsValue plain 63) (value_exact 63) (value_some plain 63)

array_strict_is_tidy : (bytes : List ℕ) (vs : List FieldValue) → SpellsFieldArray strict bytes vs → SpellsFieldArray tidy bytes vs
array_strict_is_tidy = array_into (SpellsValue strict 63) (SpellsValue tidy 63) (value_strict_is_tidy 63)

array_tidy_is_plain : (bytes : List ℕ) (vs : List FieldValue) → SpellsFieldArray tidy bytes vs → SpellsFieldArray plain bytes vs
array_tidy_is_plain = array_into (SpellsValue tidy 63) (SpellsValue plain 63) (value_tidy_is_plain 63)

-- The laws of a form of bytes hold of arrays of at most 64 levels, without a tag.
pub arrays_lawful : ArraysAreLawful
arrays_lawful = record {
  exact = field_array_exact;
  strict_is_tidy = array_strict_is_tidy;
  tidy_is_plain = array_tidy_is_plain;
  one_meaning = one_at_each judge_field_array SpellsFieldArray field_array_exact (is_plain SpellsFieldArray array_strict_is_tidy array_tidy_is_plain);
  strict_is_canonical = only_array (SpellsValue strict 63) (value_only 63);
  canonical_is_strict = λ bytes vs h.
      let b = array_bounded 63 (SpellsValue plain 63) (value_bounded 63) bytes vs h in
      array_again (SpellsValue plain 63) (SpellsValue strict 63) (value_again 63) bytes vs b.not_long h;
  shortest = λ bytes vs h. let b = array_bounded 63 (SpellsValue plain 63) (value_bounded 63) bytes vs h in b.shorter;
}

pub field_table_exact : IsExact judge_field_table (SpellsFieldTable plain)
field_table_exact = table_exact (judge_value 63) (SpellsValue plain 63) (value_exact 63) (value_some plain 63)

table_strict : (bytes : List ℕ) (es : List Entry) → SpellsFieldTable strict bytes es → SpellsFieldTable tidy bytes es
table_strict = table_strict_is_tidy (SpellsValue strict 63) (SpellsValue tidy 63) (value_strict_is_tidy 63)

table_tidy : (bytes : List ℕ) (es : List Entry) → SpellsFieldTable tidy bytes es → SpellsFieldTable plain bytes es
table_tidy = table_tidy_is_plain (SpellsValue tidy 63) (SpellsValue plain 63) (value_tidy_is_plain 63)

-- The laws of a form of bytes hold of tables of at most 64 levels, without a tag.
pub tables_lawful : TablesAreLawful
unfolding table_bytes
tables_lawful = record {
  exact = field_table_exact;
  strict_is_tidy = table_strict;
  tidy_is_plain = table_tidy;
  one_meaning = one_at_each judge_field_table SpellsFieldTable field_table_exact (is_plain SpellsFieldTable table_strict table_tidy);
  strict_is_canonical = only_table (SpellsValue strict 63) (value_only 63);
  canonical_is_strict = λ bytes es h.
      let b = table_bounded 63 (SpellsValue plain 63) (value_bounded 63) bytes es h in
      table_again (SpellsValue plain 63) (SpellsValue strict 63) (value_again 63) bytes es b.not_long h;
  shortest = λ bytes es h. let b = table_bounded 63 (SpellsValue plain 63) (value_bounded 63) bytes es h in b.shorter;
}

-- A value that is encoded is not long, and nests no deeper than it may.
pub spelled_is_bounded : SpelledIsBounded
spelled_is_bounded level room bytes v h = let b = value_bounded room bytes v (value_is_plain level room bytes v h) in (b.not_long, b.not_deep)

-- Putting entries into a table one after another is what settling says: of duplicate keys the last one wins.
pub settled_is_settling : SettledIsSettling
settled_is_settling entries table =
    (λ h. sym (settled_is entries table h), λ e. let P : List Entry → Type 0 = λ t. IsSettled t entries in subst P (sym e) (settles entries))

-- ---- what programs hold is read back

-- What has a size is neither too deep nor too long.
pub sized : (deep long : Bool) (bytes : List ℕ) → measured deep long bytes ≡ Ok (length bytes) → (deep ≡ false) × (long ≡ false)
sized true long bytes h = absurd cc
sized false true bytes h = absurd cc
sized false false bytes h = (refl, refl)

-- A depth that does not exceed 64 is at most 64.
pub low : (deep : ℕ) → nat_lt 64 deep ≡ false → deep ≤ 64
low deep h = grind (arith, nat_tests)

value_back : (v : FieldValue) (rest : List ℕ) → IsHeld v → tagged_size v ≡ Ok (length (tagged_bytes v))
    → judge_field_value (tagged_bytes v ++ rest) ≡ took v (length (tagged_bytes v))
value_back v rest h size =
    let ok = sized (is_deep v) (is_long v) (tagged_bytes v) size in
    let exact = value_exact 64 in
    exact.taken (tagged_bytes v) rest v (value_is_plain strict 64 (tagged_bytes v) v (value_held 64 v h ok.1 (low (depth v) ok.0)))

array_back : (vs : List FieldValue) (rest : List ℕ) → AllHeld (values_of vs) → array_size vs ≡ Ok (length (array_bytes vs))
    → judge_field_array (array_bytes vs ++ rest) ≡ took vs (length (array_bytes vs))
array_back vs rest h size =
    let ok = sized (is_deep (array_value (values_of vs))) (is_long (array_value (values_of vs))) (array_bytes vs) size in
    let deep = low (depth (array_value (values_of vs))) ok.0 in
    let P : List FieldValue → Type 0 = λ ws. SpellsFieldArray strict (array_bytes vs) ws in
    let spelled = subst P (items-values_of vs) (array_held 63 (SpellsValue strict 63) (value_held 63) (values_of vs) h ok.1 (omega (arith, deep))) in
    field_array_exact.taken (array_bytes vs) rest vs (array_tidy_is_plain (array_bytes vs) vs (array_strict_is_tidy (array_bytes vs) vs spelled))

table_back : (es : List Entry) (rest : List ℕ) → IsRising es → AllEntriesHeld (entries_of es)
    → table_size es ≡ Ok (length (table_bytes es)) → judge_field_table (table_bytes es ++ rest) ≡ took es (length (table_bytes es))
unfolding table_bytes is_deep_table is_long_table
table_back es rest rising h size =
    let ok = sized (is_deep (table_value (entries_of es))) (is_long (table_value (entries_of es))) (table_bytes es) size in
    let deep = low (depth (table_value (entries_of es))) ok.0 in
    let P : List Entry → Type 0 = λ fs. SpellsFieldTable strict (table_bytes es) fs in
    let R : List Entry → Type 0 = λ fs. IsRising fs in
    let spelled =
    subst P (pairs-entries_of es)
    (table_held 63 (SpellsValue strict 63) (value_held 63) (entries_of es) (subst R (sym (pairs-entries_of es)) rising) h ok.1 (omega (arith, deep))) in
    field_table_exact.taken (table_bytes es) rest es (table_tidy (table_bytes es) es (table_strict (table_bytes es) es spelled))

-- Canonical bytes of values, arrays and tables that are neither long nor too deep are read back, whatever follows.
pub held_is_read_back : HeldIsReadBack
held_is_read_back = record { value = value_back; array = array_back; table = table_back }

-- ---- what was read is written in no more bytes than it used

writable : (deep : ℕ) (long : Bool) (bytes : List ℕ) → deep ≤ 64 → long ≡ false → measured (nat_lt 64 deep) long bytes ≡ Ok (length bytes)
writable deep long bytes few short = let shallow : nat_lt 64 deep ≡ false = grind (arith, nat_tests) in rw (shallow, short) refl

-- A value that was decoded has a size, which is no more than the bytes that it used.
pub value_within : (bytes : List ℕ) (v : FieldValue) (n : ℕ) → IsBytes bytes
    → judge_field_value bytes ≡ took v n → IsNoLonger (tagged_size v) (tagged_bytes v) n
value_within bytes v n fits h =
    let exact = value_exact 64 in
    let spelled = exact.spelled bytes v n fits h in
    let b = value_bounded 64 (take n bytes) v spelled.0 in
    record {
      sized = writable (depth v) (is_long v) (tagged_bytes v) b.not_deep b.not_long;
      shorter = omega (arith, b.shorter, length-take-le n bytes spelled.1);
    }

-- An array that was decoded has a size, which is no more than the bytes that it used.
pub array_within : (bytes : List ℕ) (vs : List FieldValue) (n : ℕ) → IsBytes bytes
    → judge_field_array bytes ≡ took vs n → IsNoLonger (array_size vs) (array_bytes vs) n
array_within bytes vs n fits h =
    let spelled = field_array_exact.spelled bytes vs n fits h in
    let b = array_bounded 63 (SpellsValue plain 63) (value_bounded 63) (take n bytes) vs spelled.0 in
    record {
      sized = writable (depth (array_value (values_of vs))) _ (array_bytes vs) b.not_deep b.not_long;
      shorter = omega (arith, b.shorter, length-take-le n bytes spelled.1);
    }

-- A table that was decoded has a size, which is no more than the bytes that it used.
pub table_within : (bytes : List ℕ) (es : List Entry) (n : ℕ) → IsBytes bytes
    → judge_field_table bytes ≡ took es n → IsNoLonger (table_size es) (table_bytes es) n
unfolding table_bytes is_deep_table is_long_table
table_within bytes es n fits h =
    let spelled = field_table_exact.spelled bytes es n fits h in
    let b = table_bounded 63 (SpellsValue plain 63) (value_bounded 63) (take n bytes) es spelled.0 in
    record {
      sized = writable (depth (table_value (entries_of es))) _ (table_bytes es) b.not_deep b.not_long;
      shorter = omega (arith, b.shorter, length-take-le n bytes spelled.1);
    }
