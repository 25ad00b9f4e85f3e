-- What holds of the entries of a table, and how long they are.
use Rattle.std.proofs.Common.{◌≡◌, ℕ, ◌+◌, ◌≤◌, List, [], ◌∷◌, ◌++◌, length, Ordering, Less, Equal, Greater, arith}
use Rattle.std.proofs.lemmas.List.{length-append}
use Rattle.std.specs.Ordering.{nat_cmp, match_ordering}
use Rattle.std.specs.Cmp.Lexicographic.{slice_cmp}
use Rattle.std.specs.BTreeMap.{insert_entry}
use Rattle.amqp_types.specs.Values.{FieldValue, Entry, entries_of}
use Rattle.amqp_types.specs.ValueBytes.{tagged_bytes, entries_bytes}
use Rattle.amqp_types.specs.Settling.{settled_on}

-- each key and each value
unfoldable pub EachEntry : (List ℕ → Type 0) → (FieldValue → Type 0) → List Entry → Type 0
EachEntry K V [] = Unit {0}
EachEntry K V (e ∷ es) = K e.0 × V e.1 × EachEntry K V es

module _ (K : List ℕ → Type 0) (V : FieldValue → Type 0) where
  chosen : (o : Ordering) (e : Entry) (es more : List Entry) (k : List ℕ) (v : FieldValue) → K k → V v → EachEntry K V (e ∷ es)
      → EachEntry K V more → EachEntry K V (match_ordering o ((k, v) ∷ e ∷ es) ((e.0, v) ∷ es) (e ∷ more))
  unfolding EachEntry
  chosen Less e es more k v a b q r = (a, b, q)
  chosen Equal e es more k v a b q r = (q.0, b, q.2)
  chosen Greater e es more k v a b q r = (q.0, q.1, r)

  inserted : (es : List Entry) (k : List ℕ) (v : FieldValue) → K k → V v → EachEntry K V es → EachEntry K V (insert_entry (slice_cmp nat_cmp) es k v)
  unfolding EachEntry
  inserted [] k v a b q = (a, b, tt)
  inserted (e ∷ es) k v a b q = chosen (slice_cmp nat_cmp k e.0) e es (insert_entry (slice_cmp nat_cmp) es k v) k v a b q (inserted es k v a b q.2)

  -- What holds of each key and value of a table and of some entries holds after these are put into it.
  pub each-settled_on : (found es : List Entry) → EachEntry K V found → EachEntry K V es → EachEntry K V (settled_on found es)
  unfolding EachEntry
  each-settled_on found [] p q = p
  each-settled_on found (e ∷ es) p q = each-settled_on (insert_entry (slice_cmp nat_cmp) found e.0 e.1) es (inserted found e.0 e.1 q.0 q.1 p) q.2

  -- Each fact holds of the keys and values of no entries.
  pub each-nil : EachEntry K V []
  unfolding EachEntry
  each-nil = tt

-- ---- lengths

-- how many bytes an entry takes: its key with the length in front, the tag and the value
unfoldable pub entry_length : Entry → ℕ
entry_length e = 1 + length e.0 + length (tagged_bytes e.1)

-- how many bytes entries take one after another
unfoldable pub total_length : List Entry → ℕ
total_length [] = 0
total_length (e ∷ es) = entry_length e + total_length es

-- The canonical bytes of entries are as many as their total length says.
pub length-entries_bytes : (es : List Entry) → length (entries_bytes (entries_of es)) ≡ total_length es
unfolding total_length entry_length
length-entries_bytes [] = omega arith
length-entries_bytes (e ∷ es) =
    omega (arith, length-append e.0 (tagged_bytes e.1), length-append (e.0 ++ tagged_bytes e.1) (entries_bytes (entries_of es)), length-entries_bytes es)

chosen_length : (o : Ordering) (a b c : List Entry) (n : ℕ) → total_length a ≤ n
    → total_length b ≤ n → total_length c ≤ n → total_length (match_ordering o a b c) ≤ n
chosen_length Less a b c n p q r = p
chosen_length Equal a b c n p q r = q
chosen_length Greater a b c n p q r = r

inserted_length : (es : List Entry) (k : List ℕ) (v : FieldValue)
    → total_length (insert_entry (slice_cmp nat_cmp) es k v) ≤ total_length es + entry_length (k, v)
unfolding total_length entry_length
inserted_length [] k v = omega arith
inserted_length (e ∷ es) k v =
    chosen_length (slice_cmp nat_cmp k e.0) ((k, v) ∷ e ∷ es) ((e.0, v) ∷ es)
    (e ∷ insert_entry (slice_cmp nat_cmp) es k v) _ (omega arith) (omega arith) (omega (arith, inserted_length es k v))

-- settling makes nothing longer
pub settled_length : (found es : List Entry) → total_length (settled_on found es) ≤ total_length found + total_length es
unfolding total_length
settled_length found [] = omega arith
settled_length found (e ∷ es) = omega (arith, settled_length (insert_entry (slice_cmp nat_cmp) found e.0 e.1) es, inserted_length found e.0 e.1)
