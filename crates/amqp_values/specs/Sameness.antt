-- Whether two values are the same: a test on each kind, which decides whether they are equal.
use Rattle.std.specs.Prelude.{ℕ, ◌&&◌, nat_eq, List, Bool, true, false}
use Rattle.std.specs.Ordering.{int_eq}
use Rattle.std.specs.Bool.{Decides}
use Rattle.std.specs.Cmp.Lexicographic.{pointwise}
use Rattle.std.proofs.Common.{◌≡◌, true≢false, refl, sym, ap, ap₂, subst}
use Rattle.std.specs.Cmp.{IsPartialEquivalence, decided, signed_Decides}
use Rattle.std.specs.Cmp.{unsigned_Decides, partial_equiv_from_equiv}
use lib.Pointwise.{bytes_decides}
use Rattle.amqp_types.specs.Values.{FieldValue, FieldValues, FieldEntries, SignedKind}
use Rattle.amqp_types.specs.Values.{UnsignedKind, BytesKind, short_short_int, short_int}
use Rattle.amqp_types.specs.Values.{long_int, long_long_int, short_short_uint, short_uint}
use Rattle.amqp_types.specs.Values.{long_uint, float, double, timestamp, long_string, byte_array}
use Rattle.amqp_types.specs.Values.{boolean_value, signed_value, unsigned_value, decimal_value}
use Rattle.amqp_types.specs.Values.{bytes_value, array_value, table_value, void_value, no_values}
use Rattle.amqp_types.specs.Values.{next_value, no_entries, next_entry}

-- both lists have the same bytes in the same order
abbrev pub same_bytes : List ℕ → List ℕ → Bool
same_bytes = pointwise nat_eq

-- both truth values are true, or both are false
abbrev pub same_truth : Bool → Bool → Bool
same_truth true c = c
same_truth false true = false
same_truth false false = true

-- both signed numbers are of one kind, and so of one width
abbrev pub same_signed : SignedKind → SignedKind → Bool
same_signed short_short_int short_short_int = true
same_signed short_int short_int = true
same_signed long_int long_int = true
same_signed long_long_int long_long_int = true
same_signed k l = false

-- both unsigned numbers are of one kind: a float is never the same as an integer of 4 bytes, nor a
-- double as a time
abbrev pub same_unsigned : UnsignedKind → UnsignedKind → Bool
same_unsigned short_short_uint short_short_uint = true
same_unsigned short_uint short_uint = true
same_unsigned long_uint long_uint = true
same_unsigned float float = true
same_unsigned double double = true
same_unsigned timestamp timestamp = true
same_unsigned k l = false

-- both are long strings, or both are byte arrays
abbrev pub same_kind : BytesKind → BytesKind → Bool
same_kind long_string long_string = true
same_kind byte_array byte_array = true
same_kind k l = false

abbrev mutual
  -- Both values are of one kind and have the same content, at every depth. Floats are
  -- compared by their bits.
  pub same_value : FieldValue → FieldValue → Bool
  same_value (boolean_value b) (boolean_value c) = same_truth b c
  same_value (signed_value k m) (signed_value l n) = same_signed k l && int_eq m n
  same_value (unsigned_value k m) (unsigned_value l n) = same_unsigned k l && nat_eq m n
  same_value (decimal_value s v) (decimal_value t w) = nat_eq s t && nat_eq v w
  same_value (bytes_value k s) (bytes_value l t) = same_kind k l && same_bytes s t
  same_value (array_value vs) (array_value ws) = same_items vs ws
  same_value (table_value es) (table_value fs) = same_entries es fs
  same_value void_value void_value = true
  same_value v w = false

  -- both lists have the same values in the same order
  pub same_items : FieldValues → FieldValues → Bool
  same_items no_values no_values = true
  same_items (next_value v vs) (next_value w ws) = same_value v w && same_items vs ws
  same_items vs ws = false

  -- both lists have the same keys with the same values, in the same order
  pub same_entries : FieldEntries → FieldEntries → Bool
  same_entries no_entries no_entries = true
  same_entries (next_entry k v es) (next_entry l w fs) =
      (same_bytes k l && same_value v w) && same_entries es fs
  same_entries es fs = false

-- ---- each test decides whether the two are equal

-- where both of two tests hold, the first does
first : (a b : Bool) → (a && b) ≡ true → a ≡ true
first true b h = refl
first false b h = h

-- where both of two tests hold, the second does
second : (a b : Bool) → (a && b) ≡ true → b ≡ true
second true b h = h
second false b h = absurd (true≢false (sym h))

-- truth values of which the test holds are equal
truths : (b c : Bool) → same_truth b c ≡ true → b ≡ c
truths true c h = sym h
truths false true h = absurd (true≢false (sym h))
truths false false h = refl

-- kinds of signed numbers of which the test holds are equal
signeds : (k l : SignedKind) → same_signed k l ≡ true → k ≡ l
signeds short_short_int short_short_int h = refl
signeds short_int short_int h = refl
signeds long_int long_int h = refl
signeds long_long_int long_long_int h = refl
signeds k l h = absurd (true≢false (sym h))

-- the test holds of each kind of signed numbers and itself
signed_itself : (k : SignedKind) → same_signed k k ≡ true
signed_itself short_short_int = refl
signed_itself short_int = refl
signed_itself long_int = refl
signed_itself long_long_int = refl

-- kinds of unsigned numbers of which the test holds are equal
unsigneds : (k l : UnsignedKind) → same_unsigned k l ≡ true → k ≡ l
unsigneds short_short_uint short_short_uint h = refl
unsigneds short_uint short_uint h = refl
unsigneds long_uint long_uint h = refl
unsigneds float float h = refl
unsigneds double double h = refl
unsigneds timestamp timestamp h = refl
unsigneds k l h = absurd (true≢false (sym h))

-- the test holds of each kind of unsigned numbers and itself
unsigned_itself : (k : UnsignedKind) → same_unsigned k k ≡ true
unsigned_itself short_short_uint = refl
unsigned_itself short_uint = refl
unsigned_itself long_uint = refl
unsigned_itself float = refl
unsigned_itself double = refl
unsigned_itself timestamp = refl

-- kinds of byte lists of which the test holds are equal
kinds : (k l : BytesKind) → same_kind k l ≡ true → k ≡ l
kinds long_string long_string h = refl
kinds byte_array byte_array h = refl
kinds k l h = absurd (true≢false (sym h))

-- the test holds of each kind of byte lists and itself
kind_itself : (k : BytesKind) → same_kind k k ≡ true
kind_itself long_string = refl
kind_itself byte_array = refl

mutual
  -- values of which the test holds are equal
  pub values_same : (v w : FieldValue) → same_value v w ≡ true → v ≡ w
  values_same (boolean_value b) (boolean_value c) h = ap boolean_value (truths b c h)
  values_same (signed_value k m) (signed_value l n) h =
      ap₂ signed_value (signeds k l (first (same_signed k l) (int_eq m n) h))
      ((signed_Decides m n).0 (second (same_signed k l) (int_eq m n) h))
  values_same (unsigned_value k m) (unsigned_value l n) h =
      ap₂ unsigned_value (unsigneds k l (first (same_unsigned k l) (nat_eq m n) h))
      ((unsigned_Decides m n).0 (second (same_unsigned k l) (nat_eq m n) h))
  values_same (decimal_value s v) (decimal_value t w) h =
      ap₂ decimal_value ((unsigned_Decides s t).0 (first (nat_eq s t) (nat_eq v w) h))
      ((unsigned_Decides v w).0 (second (nat_eq s t) (nat_eq v w) h))
  values_same (bytes_value k s) (bytes_value l t) h =
      ap₂ bytes_value (kinds k l (first (same_kind k l) (same_bytes s t) h))
      ((bytes_decides s t).0 (second (same_kind k l) (same_bytes s t) h))
  values_same (array_value vs) (array_value ws) h = ap array_value (items_same vs ws h)
  values_same (table_value es) (table_value fs) h = ap table_value (entries_same es fs h)
  values_same void_value void_value h = refl
  values_same v w h = absurd (true≢false (sym h))

  -- lists of values of which the test holds are equal
  pub items_same : (vs ws : FieldValues) → same_items vs ws ≡ true → vs ≡ ws
  items_same no_values no_values h = refl
  items_same (next_value v vs) (next_value w ws) h =
      ap₂ next_value (values_same v w (first (same_value v w) (same_items vs ws) h))
      (items_same vs ws (second (same_value v w) (same_items vs ws) h))
  items_same no_values (next_value w ws) h = absurd (true≢false (sym h))
  items_same (next_value v vs) no_values h = absurd (true≢false (sym h))

  -- lists of entries of which the test holds are equal
  pub entries_same : (es fs : FieldEntries) → same_entries es fs ≡ true → es ≡ fs
  entries_same no_entries no_entries h = refl
  entries_same (next_entry k v es) (next_entry l w fs) h =
      let here = first (same_bytes k l && same_value v w) (same_entries es fs) h in
      λ i.
      next_entry ((bytes_decides k l).0 (first (same_bytes k l) (same_value v w) here) i)
      (values_same v w (second (same_bytes k l) (same_value v w) here) i)
      (entries_same es fs (second (same_bytes k l && same_value v w) (same_entries es fs) h) i)
  entries_same no_entries (next_entry l w fs) h = absurd (true≢false (sym h))
  entries_same (next_entry k v es) no_entries h = absurd (true≢false (sym h))

-- the test holds of each truth value and itself
truth_itself : (b : Bool) → same_truth b b ≡ true
truth_itself true = refl
truth_itself false = refl

mutual
  -- the test holds of each value and itself
  value_itself : (v : FieldValue) → same_value v v ≡ true
  value_itself (boolean_value b) = truth_itself b
  value_itself (signed_value k n) = ap₂ ◌&&◌ (signed_itself k) ((signed_Decides n n).1 refl)
  value_itself (unsigned_value k n) = ap₂ ◌&&◌ (unsigned_itself k) ((unsigned_Decides n n).1 refl)
  value_itself (decimal_value s v) =
      ap₂ ◌&&◌ ((unsigned_Decides s s).1 refl) ((unsigned_Decides v v).1 refl)
  value_itself (bytes_value k s) = ap₂ ◌&&◌ (kind_itself k) ((bytes_decides s s).1 refl)
  value_itself (array_value vs) = items_itself vs
  value_itself (table_value es) = entries_itself es
  value_itself void_value = refl

  -- the test holds of each list of values and itself
  items_itself : (vs : FieldValues) → same_items vs vs ≡ true
  items_itself no_values = refl
  items_itself (next_value v vs) = ap₂ ◌&&◌ (value_itself v) (items_itself vs)

  -- the test holds of each list of entries and itself
  entries_itself : (es : FieldEntries) → same_entries es es ≡ true
  entries_itself no_entries = refl
  entries_itself (next_entry k v es) =
      ap₂ ◌&&◌ (ap₂ ◌&&◌ ((bytes_decides k k).1 refl) (value_itself v)) (entries_itself es)

-- the test on values holds exactly where they are equal
pub same_value-decides : (v w : FieldValue) → Decides (same_value v w) (v ≡ w)
same_value-decides v w = (
  values_same v w,
  λ e. let P : FieldValue → Type 0 = λ x. same_value v x ≡ true in subst P e (value_itself v),
)

-- the test on lists of values holds exactly where they are equal
pub same_items-decides : (v w : FieldValues) → Decides (same_items v w) (v ≡ w)
same_items-decides v w = (
  items_same v w,
  λ e. let P : FieldValues → Type 0 = λ x. same_items v x ≡ true in subst P e (items_itself v),
)

-- the test on lists of entries holds exactly where they are equal, in the order of the entries too
pub same_entries-decides : (v w : FieldEntries) → Decides (same_entries v w) (v ≡ w)
same_entries-decides v w = (
  entries_same v w,
  λ e. let P : FieldEntries → Type 0 = λ x. same_entries v x ≡ true in subst P e (entries_itself v),
)

-- the test on values is symmetric and transitive, as `PartialEq` requires
pub same_value_laws : IsPartialEquivalence same_value
same_value_laws = partial_equiv_from_equiv (decided same_value same_value-decides)

-- the test on lists of values is symmetric and transitive
pub same_items_laws : IsPartialEquivalence same_items
same_items_laws = partial_equiv_from_equiv (decided same_items same_items-decides)

-- the test on lists of entries is symmetric and transitive
pub same_entries_laws : IsPartialEquivalence same_entries
same_entries_laws = partial_equiv_from_equiv (decided same_entries same_entries-decides)
