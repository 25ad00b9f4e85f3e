-- A map's entries and the pairs that they mean.
use Rattle.std.proofs.Common.{◌≡◌, ℕ, List, [], ◌∷◌, map, Ordering, Less, Equal, Greater, Option, Some, None, option_map, cond, Bool, true}
use Rattle.std.proofs.Common.{false, refl, ap, sym, subst, ◌∙◌}
use Rattle.std.proofs.lemmas.Cmp.{nat_list_cmp_total, eq_by_cmp_equiv}
use Rattle.std.specs.Ordering.{nat_cmp, match_ordering, eq_by_cmp}
use Rattle.std.specs.List.Sorted.{IsStrictlySortedBy}
use Rattle.std.specs.Map.{keys_of, lookup, update, update_all}
use Rattle.std.specs.Cmp.Lexicographic.{slice_cmp}
use Rattle.std.specs.BTreeMap.{insert_entry, is_at}
use Rattle.amqp_types.specs.Values.{FieldValue}
use Rattle.amqp_types.specs.Settling.{later, last_at, settled}
use Rattle.amqp_laws.proofs.Settling.{later-None, settled_is}
use Rattle.amqp_values.specs.Views.{value_of, entry_of}
use Rattle.amqp_values.specs.declared.value.AMQPValue.{AMQPValue}

-- An entry of a table as a program holds it: the bytes of its key, and its value.
abbrev pub Held : Type 0
Held = List ℕ × AMQPValue

map-match_ordering : (o : Ordering) (a b c : List Held)
    → map entry_of (match_ordering o a b c) ≡ match_ordering o (map entry_of a) (map entry_of b) (map entry_of c)
map-match_ordering Less a b c = refl
map-match_ordering Equal a b c = refl
map-match_ordering Greater a b c = refl

-- An entry inserted into a map at its key stands for the entry inserted among those that the map stands for.
pub map-insert_entry : (es : List Held) (k : List ℕ) (v : AMQPValue)
    → map entry_of (insert_entry (slice_cmp nat_cmp) es k v) ≡ insert_entry (slice_cmp nat_cmp) (map entry_of es) k (value_of v)
map-insert_entry [] k v = refl
map-insert_entry (e ∷ es) k v = map-match_ordering (slice_cmp nat_cmp k e.0) _ _ _ ∙ rw (map-insert_entry es k v)

option_map-cond : (b : Bool) (v : AMQPValue) (o : Option AMQPValue)
    → option_map value_of (cond b (Some v) o) ≡ cond b (Some (value_of v)) (option_map value_of o)
option_map-cond true v o = refl
option_map-cond false v o = refl

-- A search among the entries that a map stands for finds what the value found in the map stands for.
pub lookup-map : (test : List ℕ → Bool) (es : List Held) → lookup test (map entry_of es) ≡ option_map value_of (lookup test es)
lookup-map test [] = refl
lookup-map test (e ∷ es) = ap (cond (test e.0) (Some (value_of e.1))) (lookup-map test es) ∙ sym (option_map-cond (test e.0) e.1 (lookup test es))

-- a search over what is left, where its first key is, or isn't, the one that is sought
pub lookup_here : (test : List ℕ → Bool) (e : Held) (left more : List Held) (found : Option FieldValue)
    → left ≡ e ∷ more → test e.0 ≡ true → lookup test (map entry_of left) ≡ found → Some (value_of e.1) ≡ found
lookup_here test e left more found is here all =
    sym (ap (λ b. cond b (Some (value_of e.1)) (lookup test (map entry_of more))) here) ∙ sym (ap (λ es. lookup test (map entry_of es)) is) ∙ all

-- Where the first key left is not the one sought, what is found is found among the entries after it.
pub lookup_later : (test : List ℕ → Bool) (e : Held) (left more : List Held) (found : Option FieldValue) → left ≡ e ∷ more
    → test e.0 ≡ false → lookup test (map entry_of left) ≡ found → lookup test (map entry_of more) ≡ found
lookup_later test e left more found is later all =
    sym (ap (λ b. cond b (Some (value_of e.1)) (lookup test (map entry_of more))) later) ∙ sym (ap (λ es. lookup test (map entry_of es)) is) ∙ all

-- ---- entries that a map is made of

-- The entries that a map stands for have the keys of the map.
pub keys_of-entries : (es : List Held) → keys_of (map entry_of es) ≡ keys_of es
keys_of-entries [] = refl
keys_of-entries (e ∷ es) = ap (λ ks. e.0 ∷ ks) (keys_of-entries es)

later_cond : (a : Option FieldValue) (b : Bool) (v : FieldValue) (o : Option FieldValue)
    → later a (cond b (Some v) o) ≡ later (later a (cond b (Some v) None)) o
later_cond (Some w) b v o = refl
later_cond None true v o = refl
later_cond None false v o = refl

-- a map that pairs are put into one after another has the last value of each key
last_of-update_all : (f : List ℕ → Option AMQPValue) (es : List Held) (q : List ℕ)
    → option_map value_of (update_all (eq_by_cmp (slice_cmp nat_cmp)) f es q) ≡ later (last_at q (map entry_of es)) (option_map value_of (f q))
last_of-update_all f [] q = refl
last_of-update_all f (e ∷ es) q =
    let v = value_of e.1 in
    let last = last_at q (map entry_of es) in
    let rest = option_map value_of (f q) in
    let turned : eq_by_cmp (slice_cmp nat_cmp) e.0 q ≡ is_at (slice_cmp nat_cmp q) e.0 = (eq_by_cmp_equiv nat_list_cmp_total).symm e.0 q in
    last_of-update_all (update (eq_by_cmp (slice_cmp nat_cmp)) f e.0 (Some e.1)) es q
    ∙ ap (later last) (option_map-cond (eq_by_cmp (slice_cmp nat_cmp) e.0 q) e.1 (f q))
    ∙ ap (λ b. later last (cond b (Some v) rest)) turned
    ∙ later_cond last (is_at (slice_cmp nat_cmp q) e.0) v rest

-- an ordered map with the values that some pairs leave is the table that they settle to
pub made_is_settled : (es made : List Held) → IsStrictlySortedBy (slice_cmp nat_cmp) (keys_of made)
    → ((q : List ℕ) → lookup (is_at (slice_cmp nat_cmp q)) made ≡ update_all (eq_by_cmp (slice_cmp nat_cmp)) (λ k. None) es q)
    → map entry_of made ≡ settled (map entry_of es)
made_is_settled es made rising last =
    let P : List (List ℕ) → Type 0 = λ ks. IsStrictlySortedBy (slice_cmp nat_cmp) ks in
    sym (settled_is (map entry_of es) (map entry_of made) (record {
      rising = subst P (sym (keys_of-entries made)) rising;
      last = λ q.
          lookup-map (is_at (slice_cmp nat_cmp q)) made ∙ ap (option_map value_of) (last q)
          ∙ last_of-update_all (λ k. None) es q ∙ later-None (last_at q (map entry_of es));
    }))
