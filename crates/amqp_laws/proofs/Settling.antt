-- The entries of a table, settled: of duplicate keys the last one wins.
use Rattle.std.proofs.Common.{◌≡◌, ◌≢◌, ℕ, List, [], ◌∷◌, ◌++◌, Bool, true, false, cond, Option, Some, None, Ordering, Less, Equal, Greater}
use Rattle.std.proofs.Common.{true≢false, refl, sym, ap, ap₂, ◌∙◌}
use Rattle.std.proofs.lemmas.Cmp.{nat_list_cmp_total, tied_itself}
use Rattle.std.proofs.lemmas.Map.Lookups.{exact_bytes}
use Rattle.std.specs.Cmp.Lexicographic.{slice_cmp}
use Rattle.std.specs.List.{AllByRecursion}
use Rattle.std.specs.List.Sorted.{IsStrictlySortedBy}
use Rattle.std.specs.Map.{keys_of}
use Rattle.std.specs.Ordering.{match_ordering, ordering_reverse, nat_cmp, is_eq}
use Rattle.std.specs.BTreeMap.{insert_entry, is_at}
use Rattle.amqp_types.specs.Values.{FieldValue, Entry}
use Rattle.amqp_types.specs.ValueLaws.{InsertChangesOneKey}
use Rattle.amqp_types.specs.Settling.{IsRising, value_at, later, last_at, IsSettled, settled_on, settled}

-- the order of keys
abbrev pub cmp : List ℕ → List ℕ → Ordering
cmp = slice_cmp nat_cmp

same_key : (k l : List ℕ) → cmp k l ≡ Equal → k ≡ l
same_key k l h = exact_bytes k l h

twice : {B : Type 0} (b : Bool) (x y z : B) → cond b x z ≡ cond b x (cond b y z)
twice true x y z = refl
twice false x y z = refl

swapped : {B : Type 0} (b c : Bool) (x y z : B) → (b ≡ true → c ≡ true → ⊥) → cond c y (cond b x z) ≡ cond b x (cond c y z)
swapped true true x y z h = absurd (h refl refl)
swapped true false x y z h = refl
swapped false true x y z h = refl
swapped false false x y z h = refl

eq_order : (o : Ordering) → is_eq o ≡ true → o ≡ Equal
eq_order Less h = absurd (true≢false (sym h))
eq_order Equal h = refl
eq_order Greater h = absurd (true≢false (sym h))

value_at-insert_at : (o : Ordering) (q k : List ℕ) (v : FieldValue) (e : Entry) (es : List Entry)
    → cmp k e.0 ≡ o → value_at q (insert_entry cmp es k v) ≡ cond (is_at (cmp q) k) (Some v) (value_at q es)
    → value_at q (match_ordering o ((k, v) ∷ e ∷ es) ((e.0, v) ∷ es) (e ∷ insert_entry cmp es k v)) ≡ cond (is_at (cmp q) k) (Some v) (value_at q (e ∷ es))
value_at-insert_at Less q k v e es is more = refl
value_at-insert_at Equal q k v e es is more =
    let same = same_key k e.0 is in
    twice (is_at (cmp q) e.0) (Some v) (Some e.1) (value_at q es) ∙ ap (λ l. cond (is_at (cmp q) l) (Some v) (value_at q (e ∷ es))) (sym same)
value_at-insert_at Greater q k v e es is more =
    ap (cond (is_at (cmp q) e.0) (Some e.1)) more ∙ swapped (is_at (cmp q) k) (is_at (cmp q) e.0) (Some v) (Some e.1) (value_at q es) (λ a b.
    let one = same_key q k (eq_order _ a) in
    let two = same_key q e.0 (eq_order _ b) in
    let tied : cmp k e.0 ≡ Equal = ap₂ cmp (sym one) (sym two) ∙ tied_itself nat_list_cmp_total q in
    let both : Greater ≡ Equal = sym is ∙ tied in cc)

value_at-insert_entry : (q : List ℕ) (es : List Entry) (k : List ℕ) (v : FieldValue)
    → value_at q (insert_entry cmp es k v) ≡ cond (is_at (cmp q) k) (Some v) (value_at q es)
value_at-insert_entry q [] k v = refl
value_at-insert_entry q (e ∷ es) k v = value_at-insert_at _ q k v e es refl (value_at-insert_entry q es k v)

later_none : (a : Option FieldValue) (b : Bool) (v : FieldValue) (z : Option FieldValue)
    → later a (cond b (Some v) z) ≡ later (later a (cond b (Some v) None)) z
later_none (Some w) b v z = refl
later_none None true v z = refl
later_none None false v z = refl

value_at-settled_on : (q : List ℕ) (found es : List Entry) → value_at q (settled_on found es) ≡ later (last_at q es) (value_at q found)
value_at-settled_on q found [] = refl
value_at-settled_on q found (e ∷ es) =
    value_at-settled_on q (insert_entry cmp found e.0 e.1) es ∙ ap (later (last_at q es)) (value_at-insert_entry q found e.0 e.1)
    ∙ later_none (last_at q es) (is_at (cmp q) e.0) e.1 (value_at q found)

-- ---- the keys ascend
all_keys : (P : List ℕ → Type 0) (o : Ordering) (e : Entry) (es more : List Entry) (k : List ℕ) (v : FieldValue)
    → P k → P e.0 → AllByRecursion P (keys_of es) → AllByRecursion P (keys_of more)
    → AllByRecursion P (keys_of (match_ordering o ((k, v) ∷ e ∷ es) ((e.0, v) ∷ es) (e ∷ more)))
all_keys P Less e es more k v p q r s = (p, (q, r))
all_keys P Equal e es more k v p q r s = (q, r)
all_keys P Greater e es more k v p q r s = (q, s)

all-insert_entry : (P : List ℕ → Type 0) (es : List Entry) (k : List ℕ) (v : FieldValue) → P k
    → AllByRecursion P (keys_of es) → AllByRecursion P (keys_of (insert_entry cmp es k v))
all-insert_entry P [] k v p r = (p, tt)
all-insert_entry P (e ∷ es) k v p r = all_keys P (cmp k e.0) e es (insert_entry cmp es k v) k v p r.0 r.1 (all-insert_entry P es k v p r.1)

above : (k l : List ℕ) (ks : List (List ℕ)) → cmp k l ≡ Less → AllByRecursion (λ y. cmp l y ≡ Less) ks → AllByRecursion (λ y. cmp k y ≡ Less) ks
above k l [] h r = tt
above k l (x ∷ ks) h r = (nat_list_cmp_total.trans k l x h r.0, above k l ks h r.1)

rising_at : (o : Ordering) (e : Entry) (es : List Entry) (k : List ℕ) (v : FieldValue)
    → cmp k e.0 ≡ o → AllByRecursion (λ y. cmp e.0 y ≡ Less) (keys_of es) → IsRising es
    → IsRising (insert_entry cmp es k v) → IsRising (match_ordering o ((k, v) ∷ e ∷ es) ((e.0, v) ∷ es) (e ∷ insert_entry cmp es k v))
unfolding IsStrictlySortedBy
rising_at Less e es k v is r s more = ((is, above k e.0 (keys_of es) is r), (r, s))
rising_at Equal e es k v is r s more = (r, s)
rising_at Greater e es k v is r s more =
    let less : cmp e.0 k ≡ Less = nat_list_cmp_total.antisymm e.0 k ∙ ap ordering_reverse is in
    let P : List ℕ → Type 0 = λ y. cmp e.0 y ≡ Less in
    (all-insert_entry P es k v less r, more)

pub rising-insert_entry : (es : List Entry) (k : List ℕ) (v : FieldValue) → IsRising es → IsRising (insert_entry cmp es k v)
unfolding IsStrictlySortedBy
rising-insert_entry [] k v s = (tt, tt)
rising-insert_entry (e ∷ es) k v s = rising_at (cmp k e.0) e es k v refl s.0 s.1 (rising-insert_entry es k v s.1)

rising-settled_on : (found es : List Entry) → IsRising found → IsRising (settled_on found es)
rising-settled_on found [] s = s
rising-settled_on found (e ∷ es) s = rising-settled_on (insert_entry cmp found e.0 e.1) es (rising-insert_entry found e.0 e.1 s)

-- The keys of no entries are in ascending order.
pub none_risen : IsStrictlySortedBy cmp (keys_of {X = FieldValue} [])
unfolding IsStrictlySortedBy
none_risen = tt

-- ---- two tables with the same value at each key are one
-- a key below all of a table has no value in it
pub absent : (q : List ℕ) (es : List Entry) → AllByRecursion (λ y. cmp q y ≡ Less) (keys_of es) → value_at q es ≡ None
absent q [] r = refl
absent q (e ∷ es) r = ap (λ o. cond (is_eq o) (Some e.1) (value_at q es)) r.0 ∙ absent q es r.1

own : (q : List ℕ) → is_at (cmp q) q ≡ true
own q = ap is_eq (tied_itself nat_list_cmp_total q)

-- The value at the key of the first entry is that entry's value.
pub first_value : (e : Entry) (es : List Entry) → value_at e.0 (e ∷ es) ≡ Some e.1
first_value e es = ap (λ b. cond b (Some e.1) (value_at e.0 es)) (own e.0)

-- the tails agree where the wholes do, under one first key that is in neither tail
tails : (b : Bool) (q : List ℕ) (x y : Entry) (xs ys : List Entry) → is_at (cmp q) x.0 ≡ b → x.0 ≡ y.0
    → AllByRecursion (λ k. cmp x.0 k ≡ Less) (keys_of xs) → AllByRecursion (λ k. cmp y.0 k ≡ Less) (keys_of ys)
    → value_at q (x ∷ xs) ≡ value_at q (y ∷ ys) → value_at q xs ≡ value_at q ys
tails true q x y xs ys is same r s h =
    let e = same_key q x.0 (eq_order _ is) in
    ap (λ k. value_at k xs) e ∙ absent x.0 xs r ∙ sym (absent y.0 ys s) ∙ ap (λ k. value_at k ys) (sym (e ∙ same))
tails false q x y xs ys is same r s h =
    sym (ap (λ b. cond b (Some x.1) (value_at q xs)) is) ∙ h ∙ ap (λ b. cond b (Some y.1) (value_at q ys)) (ap (λ k. is_at (cmp q) k) (sym same) ∙ is)

first_two : (o : Ordering) (x y : Entry) (xs ys : List Entry) → cmp x.0 y.0 ≡ o → IsRising (x ∷ xs)
    → IsRising (y ∷ ys) → ((q : List ℕ) → value_at q (x ∷ xs) ≡ value_at q (y ∷ ys))
    → (((q : List ℕ) → value_at q xs ≡ value_at q ys) → xs ≡ ys) → x ∷ xs ≡ y ∷ ys
unfolding IsStrictlySortedBy
first_two Less x y xs ys is s t h more = let e = sym (first_value x xs) ∙ h x.0 ∙ absent x.0 (y ∷ ys) (is, above x.0 y.0 (keys_of ys) is t.0) in cc
first_two Greater x y xs ys is s t h more =
    let less : cmp y.0 x.0 ≡ Less = nat_list_cmp_total.antisymm y.0 x.0 ∙ ap ordering_reverse is in
    let e = sym (first_value y ys) ∙ sym (h y.0) ∙ absent y.0 (x ∷ xs) (less, above y.0 x.0 (keys_of xs) less s.0) in cc
first_two Equal x y xs ys is s t h more =
    let same = same_key x.0 y.0 is in
    let value : Some x.1 ≡ Some y.1 = sym (first_value x xs) ∙ h x.0 ∙ ap (λ k. value_at k (y ∷ ys)) same ∙ first_value y ys in
    let second : x.1 ≡ y.1 = cc in
    λ i. (same i, second i) ∷ more (λ q. tails _ q x y xs ys refl same s.0 t.0 (h q)) i

only_one : (xs ys : List Entry) → IsRising xs → IsRising ys → ((q : List ℕ) → value_at q xs ≡ value_at q ys) → xs ≡ ys
unfolding IsStrictlySortedBy
only_one [] [] s t h = refl
only_one [] (y ∷ ys) s t h = let e = h y.0 ∙ first_value y ys in cc
only_one (x ∷ xs) [] s t h = let e = sym (first_value x xs) ∙ h x.0 in cc
only_one (x ∷ xs) (y ∷ ys) s t h = first_two (cmp x.0 y.0) x y xs ys refl s t h (only_one xs ys s.1 t.1)

-- Where no later entry has the key, the value is that of the earlier one.
pub later-None : (a : Option FieldValue) → later a None ≡ a
later-None None = refl
later-None (Some v) = refl

-- what is read is settled, and nothing else is
pub settles : (entries : List Entry) → IsSettled (settled entries) entries
settles entries = record { rising = rising-settled_on [] entries none_risen; last = λ k. value_at-settled_on k [] entries ∙ later-None (last_at k entries) }

-- Settled entries are the one table in which, of duplicate keys, the last one wins.
pub settled_is : (entries found : List Entry) → IsSettled found entries → settled entries ≡ found
settled_is entries found h = only_one _ found (settles entries).rising h.rising (λ q. (settles entries).last q ∙ sym (h.last q))

-- ---- keys that rise

-- a key that is in front of another is below it
below_middle : (first : Entry) (es : List Entry) (e : Entry) (more : List Entry)
    → AllByRecursion (λ y. slice_cmp nat_cmp first.0 y ≡ Less) (keys_of (es ++ e ∷ more)) → slice_cmp nat_cmp first.0 e.0 ≡ Less
below_middle first [] e more h = h.0
below_middle first (x ∷ es) e more h = below_middle first es e more h.1

-- a key that is above those before it goes last
pub insert_last : (done : List Entry) (e : Entry) (more : List Entry)
    → IsStrictlySortedBy (slice_cmp nat_cmp) (keys_of (done ++ e ∷ more)) → insert_entry (slice_cmp nat_cmp) done e.0 e.1 ≡ done ++ e ∷ []
unfolding IsStrictlySortedBy
insert_last [] e more h = refl
insert_last (first ∷ done) e more h =
    let above : slice_cmp nat_cmp e.0 first.0 ≡ Greater = nat_list_cmp_total.antisymm e.0 first.0 ∙ ap ordering_reverse (below_middle first done e more h.0) in
    rw above (ap (λ es. first ∷ es) (insert_last done e more h.1))

-- ---- what an entry changes
other_key : (key other : List ℕ) (b : Bool) → is_at (cmp other) key ≡ b → other ≢ key → b ≡ false
other_key key other true is differ = absurd (differ (same_key other key (eq_order _ is)))
other_key key other false is differ = refl

-- An entry that is put into a table changes the value of its key alone, and keeps the ascending order.
pub insert_changes_one_key : InsertChangesOneKey
insert_changes_one_key = record {
  order = λ es key v rising. rising-insert_entry es key v rising;
  own = λ es key v. value_at-insert_entry key es key v ∙ ap (λ b. cond b (Some v) (value_at key es)) (own key);
  others = λ es key other v differ. value_at-insert_entry other es key v ∙ ap (λ b. cond b (Some v) (value_at other es)) (other_key key other _ refl differ);
}
