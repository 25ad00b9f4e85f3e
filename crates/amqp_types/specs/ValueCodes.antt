-- Values as trees of numbers, by which proofs distinguish two values.
use Rattle.std.specs.Prelude.{◌≡◌, ℕ, pos, negsuc, ◌==◌, List, [], ◌∷◌}
use Rattle.std.specs.Prelude.{true, false, if◌then◌else◌, refl}
use Rattle.std.specs.Coded.{Coded, code_by}
use base.Stored.{Gv, gnil, gnum, gcons, num}
use denote.Struct.Codes.{itself}
use Rattle.amqp_types.specs.Values.{FieldValue, FieldValues, FieldEntries, short_short_int}
use Rattle.amqp_types.specs.Values.{short_int, long_int, long_long_int, short_short_uint}
use Rattle.amqp_types.specs.Values.{short_uint, long_uint, float, double, timestamp, long_string}
use Rattle.amqp_types.specs.Values.{byte_array, boolean_value, signed_value, unsigned_value}
use Rattle.amqp_types.specs.Values.{decimal_value, bytes_value, array_value, table_value}
use Rattle.amqp_types.specs.Values.{void_value, no_values, next_value, no_entries, next_entry}

-- a list of numbers as a tree: each number beside the tree of those after it
abbrev numbers_to : List ℕ → Gv
numbers_to [] = gnil
numbers_to (n ∷ ns) = gcons (gnum n) (numbers_to ns)

-- the list of such a tree; of another tree, some list
abbrev numbers_from : Gv → List ℕ
numbers_from gnil = []
numbers_from (gnum n) = []
numbers_from (gcons a b) = num a ∷ numbers_from b

-- numbers made a tree are had back from it
pub numbers_back : (ns : List ℕ) → numbers_from (numbers_to ns) ≡ ns
numbers_back [] = refl
numbers_back (n ∷ ns) = λ i. n ∷ numbers_back ns i

-- the first of the two parts of a tree, empty where there are none
abbrev first_of : Gv → Gv
first_of gnil = gnil
first_of (gnum n) = gnil
first_of (gcons a b) = a

-- the second of the two parts of a tree, empty where there are none
abbrev second_of : Gv → Gv
second_of gnil = gnil
second_of (gnum n) = gnil
second_of (gcons a b) = b

abbrev mutual
  -- a value as a tree: a number for its kind (and for true, false and signs) beside what it holds;
  -- nothing is the empty tree
  value_to : FieldValue → Gv
  value_to (boolean_value false) = gcons (gnum 0) gnil
  value_to (boolean_value true) = gcons (gnum 1) gnil
  value_to (signed_value short_short_int (pos n)) = gcons (gnum 2) (gnum n)
  value_to (signed_value short_short_int (negsuc n)) = gcons (gnum 3) (gnum n)
  value_to (signed_value short_int (pos n)) = gcons (gnum 4) (gnum n)
  value_to (signed_value short_int (negsuc n)) = gcons (gnum 5) (gnum n)
  value_to (signed_value long_int (pos n)) = gcons (gnum 6) (gnum n)
  value_to (signed_value long_int (negsuc n)) = gcons (gnum 7) (gnum n)
  value_to (signed_value long_long_int (pos n)) = gcons (gnum 8) (gnum n)
  value_to (signed_value long_long_int (negsuc n)) = gcons (gnum 9) (gnum n)
  value_to (unsigned_value short_short_uint n) = gcons (gnum 10) (gnum n)
  value_to (unsigned_value short_uint n) = gcons (gnum 11) (gnum n)
  value_to (unsigned_value long_uint n) = gcons (gnum 12) (gnum n)
  value_to (unsigned_value float n) = gcons (gnum 13) (gnum n)
  value_to (unsigned_value double n) = gcons (gnum 14) (gnum n)
  value_to (unsigned_value timestamp n) = gcons (gnum 15) (gnum n)
  value_to (decimal_value s v) = gcons (gnum 16) (gcons (gnum s) (gnum v))
  value_to (bytes_value long_string s) = gcons (gnum 17) (numbers_to s)
  value_to (bytes_value byte_array s) = gcons (gnum 18) (numbers_to s)
  value_to (array_value vs) = gcons (gnum 19) (values_to vs)
  value_to (table_value es) = gcons (gnum 20) (entries_to es)
  value_to void_value = gnil

  -- each value beside the tree of those after it
  values_to : FieldValues → Gv
  values_to no_values = gnil
  values_to (next_value v vs) = gcons (value_to v) (values_to vs)

  -- each key beside its value and the tree of the entries after it
  entries_to : FieldEntries → Gv
  entries_to no_entries = gnil
  entries_to (next_entry k v es) = gcons (numbers_to k) (gcons (value_to v) (entries_to es))

abbrev mutual
  -- the value of such a tree; of another tree, some value
  value_from : Gv → FieldValue
  value_from gnil = void_value
  value_from (gnum n) = void_value
  value_from (gcons a b) =
      if num a == 0 then boolean_value false else (
      if num a == 1 then boolean_value true else (
      if num a == 2 then signed_value short_short_int (pos (num b)) else (
      if num a == 3 then signed_value short_short_int (negsuc (num b)) else (
      if num a == 4 then signed_value short_int (pos (num b)) else (
      if num a == 5 then signed_value short_int (negsuc (num b)) else (
      if num a == 6 then signed_value long_int (pos (num b)) else (
      if num a == 7 then signed_value long_int (negsuc (num b)) else (
      if num a == 8 then signed_value long_long_int (pos (num b)) else (
      if num a == 9 then signed_value long_long_int (negsuc (num b)) else (
      if num a == 10 then unsigned_value short_short_uint (num b) else (
      if num a == 11 then unsigned_value short_uint (num b) else (
      if num a == 12 then unsigned_value long_uint (num b) else (
      if num a == 13 then unsigned_value float (num b) else (
      if num a == 14 then unsigned_value double (num b) else (
      if num a == 15 then unsigned_value timestamp (num b) else (
      if num a == 16 then decimal_value (num (first_of b)) (num (second_of b)) else (
      if num a == 17 then bytes_value long_string (numbers_from b) else (
      if num a == 18 then bytes_value byte_array (numbers_from b) else (
      if num a == 19 then array_value (values_from b) else (
      table_value (entries_from b)))))))))))))))))))))

  -- the values of such a tree; of another tree, some values
  values_from : Gv → FieldValues
  values_from gnil = no_values
  values_from (gnum n) = no_values
  values_from (gcons a b) = next_value (value_from a) (values_from b)

  -- the entries of such a tree; of another tree, some entries
  entries_from : Gv → FieldEntries
  entries_from gnil = no_entries
  entries_from (gnum n) = no_entries
  entries_from (gcons a gnil) = no_entries
  entries_from (gcons a (gnum n)) = no_entries
  entries_from (gcons a (gcons b c)) = next_entry (numbers_from a) (value_from b) (entries_from c)

mutual
  -- a value made a tree is had back from it
  pub value_back : (v : FieldValue) → value_from (value_to v) ≡ v
  value_back (boolean_value false) = refl
  value_back (boolean_value true) = refl
  value_back (signed_value short_short_int (pos n)) = refl
  value_back (signed_value short_short_int (negsuc n)) = refl
  value_back (signed_value short_int (pos n)) = refl
  value_back (signed_value short_int (negsuc n)) = refl
  value_back (signed_value long_int (pos n)) = refl
  value_back (signed_value long_int (negsuc n)) = refl
  value_back (signed_value long_long_int (pos n)) = refl
  value_back (signed_value long_long_int (negsuc n)) = refl
  value_back (unsigned_value short_short_uint n) = refl
  value_back (unsigned_value short_uint n) = refl
  value_back (unsigned_value long_uint n) = refl
  value_back (unsigned_value float n) = refl
  value_back (unsigned_value double n) = refl
  value_back (unsigned_value timestamp n) = refl
  value_back (decimal_value s v) = refl
  value_back (bytes_value long_string s) = λ i. bytes_value long_string (numbers_back s i)
  value_back (bytes_value byte_array s) = λ i. bytes_value byte_array (numbers_back s i)
  value_back (array_value vs) = λ i. array_value (values_back vs i)
  value_back (table_value es) = λ i. table_value (entries_back es i)
  value_back void_value = refl

  -- the same of the values of an array
  pub values_back : (vs : FieldValues) → values_from (values_to vs) ≡ vs
  values_back no_values = refl
  values_back (next_value v vs) = λ i. next_value (value_back v i) (values_back vs i)

  -- the same of the entries of a table
  pub entries_back : (es : FieldEntries) → entries_from (entries_to es) ≡ es
  entries_back no_entries = refl
  entries_back (next_entry k v es) =
      λ i. next_entry (numbers_back k i) (value_back v i) (entries_back es i)

-- values are coded by their trees, from which they are had back: values with the same
-- tree are the same
abbrev pub value_code : Coded FieldValue
value_code = code_by Gv itself value_to value_from value_back
