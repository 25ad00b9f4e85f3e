-- Entries sorted by channel, after one of them is put in or changed.
use Rattle.std.proofs.Common.{◌≡◌, ◌≢◌, ℕ, ◌+◌, Bool, true, false, cond, eqb, List, [], ◌∷◌, length, refl, sym, ap, ◌∙◌, add-zero, arith, Option, Some, None}
use Rattle.std.proofs.Common.{inl, inr}
use Rattle.std.proofs.lemmas.Bool.{ne_eqb, cases_Bool}
use Rattle.std.proofs.lemmas.Cmp.{nat_cmp_total}
use Rattle.std.proofs.lemmas.Map.Entries.{sum_by-insert_entry}
use Rattle.std.proofs.lemmas.Grind.{common_steps}
use Rattle.std.specs.declared.cmp.Ordering.{Ordering}
use Rattle.std.specs.declared.cmp.Ordering.TheVariants.{Less, Equal, Greater}
use Rattle.std.specs.Ordering.{nat_cmp, match_ordering}
use Rattle.std.specs.Option.{option_map, unwrap_or}
use Rattle.std.specs.Map.{keys_of, values_of, set_value}
use Rattle.std.specs.BTreeMap.{is_at, insert_entry}
use Rattle.std.specs.List.{AllByRecursion, count_by, sum_by}
use Rattle.std.specs.List.Sorted.{IsStrictlySortedBy}
use Rattle.amqp_turns.specs.Stands.{kept_at, OthersStay}

-- ---- a channel is itself, and no other

at_itself : (k : ℕ) → is_at (nat_cmp k) k ≡ true
at_itself k = grind (arith, common_steps)

-- The search for a channel does not stop at the entry of another one.
pub at_other : (k q : ℕ) → q ≢ k → is_at (nat_cmp q) k ≡ false
at_other k q ne = grind (arith, common_steps)

equal_at : (k n : ℕ) → nat_cmp k n ≡ Equal → k ≡ n
equal_at k n e = grind (arith, common_steps)

below : (k n m : ℕ) → nat_cmp k n ≡ Less → nat_cmp n m ≡ Less → nat_cmp k m ≡ Less
below k n m e f = grind (arith, common_steps)

above : (k n : ℕ) → nat_cmp k n ≡ Greater → nat_cmp n k ≡ Less
above k n e = grind (arith, common_steps)

-- the channel n is another than q, where it is k
apart_at : (k n q : ℕ) → q ≢ k → nat_cmp k n ≡ Equal → is_at (nat_cmp q) n ≡ false
apart_at k n q ne e = ap (λ m. is_at (nat_cmp q) m) (sym (equal_at k n e)) ∙ at_other k q ne

all_below : (k n : ℕ) (ks : List ℕ) → nat_cmp k n ≡ Less → AllByRecursion (λ m. nat_cmp n m ≡ Less) ks → AllByRecursion (λ m. nat_cmp k m ≡ Less) ks
all_below k n [] e all = tt
all_below k n (m ∷ ks) e all = (below k n m e all.0, all_below k n ks e all.1)

-- how two channels compare
data Compared (k n : ℕ) : Type 0 where
  less : nat_cmp k n ≡ Less → Compared k n
  equal : nat_cmp k n ≡ Equal → Compared k n
  greater : nat_cmp k n ≡ Greater → Compared k n

compared : (k n : ℕ) → Compared k n
compared k n = by_order (nat_cmp k n) refl
  where
    by_order : (r : Ordering) → nat_cmp k n ≡ r → Compared k n
    by_order Less e = less e
    by_order Equal e = equal e
    by_order Greater e = greater e

module _ {T : Type 0} where
  -- ---- what is kept, once an entry is put in

  -- Of the channel of an entry that is put in, its value is kept.
  pub kept-insert_same : (es : List (ℕ × T)) (k : ℕ) (v : T) → kept_at (insert_entry nat_cmp es k v) k ≡ Some v
  kept-insert_same [] k v = rw (at_itself k) refl
  kept-insert_same (e ∷ es) k v = elim (compared k e.0) [
    | less h ↦ rw (h, at_itself k) refl
    | equal h ↦ rw (h, h) refl
    | greater h ↦ rw (h, h) (kept-insert_same es k v)
  ]

  -- Putting in an entry leaves what is kept of other channels.
  pub kept-insert_other : (es : List (ℕ × T)) (k : ℕ) (v : T) (q : ℕ) → q ≢ k → kept_at (insert_entry nat_cmp es k v) q ≡ kept_at es q
  kept-insert_other [] k v q ne = rw (at_other k q ne) refl
  kept-insert_other (e ∷ es) k v q ne = elim (compared k e.0) [
    | less h ↦ rw (h, at_other k q ne) refl
    | equal h ↦ rw (h, apart_at k e.0 q ne h) refl
    | greater h ↦ rw (h, kept-insert_other es k v q ne) refl
  ]

  -- ---- the same where a value is changed in its place

  -- Setting the value of an entry that was just put in is putting it in with that value.
  pub set-insert_same : (es : List (ℕ × T)) (k : ℕ) (v w : T) → set_value (is_at (nat_cmp k)) (insert_entry nat_cmp es k v) w ≡ insert_entry nat_cmp es k w
  set-insert_same [] k v w = rw (at_itself k) refl
  set-insert_same (e ∷ es) k v w = elim (compared k e.0) [
    | less h ↦ rw (h, at_itself k) refl
    | equal h ↦ rw (h, h) refl
    | greater h ↦ rw (h, h, set-insert_same es k v w) refl
  ]

  -- Setting the value of one channel and putting in the entry of another one may be done in either order.
  pub set-insert_other : (es : List (ℕ × T)) (k q : ℕ) (v w : T) → q ≢ k
      → set_value (is_at (nat_cmp q)) (insert_entry nat_cmp es k v) w ≡ insert_entry nat_cmp (set_value (is_at (nat_cmp q)) es w) k v
  set-insert_other [] k q v w ne = rw (at_other k q ne) refl
  set-insert_other (e ∷ es) k q v w ne = elim (cases_Bool (is_at (nat_cmp q) e.0)) [
    | inl t ↦ elim (compared k e.0) [
      | less h ↦ rw (h, at_other k q ne, t, h) refl
      | equal h ↦ absurd (let no : true ≡ false = sym t ∙ apart_at k e.0 q ne h in cc)
      | greater h ↦ rw (h, t, h) refl
    ]
    | inr t ↦ elim (compared k e.0) [
      | less h ↦ rw (h, at_other k q ne, t, h) refl
      | equal h ↦ rw (h, t, h) refl
      | greater h ↦ rw (h, t, h, set-insert_other es k q v w ne) refl
    ]
  ]

  -- Of a channel that has an entry, the value that is set is kept.
  pub kept-set_same : (es : List (ℕ × T)) (k : ℕ) (v w : T) → kept_at es k ≡ Some v → kept_at (set_value (is_at (nat_cmp k)) es w) k ≡ Some w
  kept-set_same [] k v w found = absurd cc
  kept-set_same (e ∷ es) k v w found = elim (cases_Bool (is_at (nat_cmp k) e.0)) [
    | inl t ↦ rw (t, t) refl
    | inr t ↦ rw (t, t) (kept-set_same es k v w (rw t at found))
  ]

  -- Setting the value of a channel leaves what is kept of others.
  pub kept-set_other : (es : List (ℕ × T)) (k : ℕ) (w : T) → OthersStay k es (set_value (is_at (nat_cmp k)) es w)
  kept-set_other [] k w = λ q ne. refl
  kept-set_other (e ∷ es) k w = λ q ne. elim (compared k e.0) [
    | less h ↦ rw (h, kept-set_other es k w q ne) refl
    | equal h ↦ rw (h, apart_at k e.0 q ne h) refl
    | greater h ↦ rw (h, kept-set_other es k w q ne) refl
  ]

  -- Setting values adds no entry for a channel that has none.
  pub kept-set_none : (test : ℕ → Bool) (es : List (ℕ × T)) (w : T) (q : ℕ) → kept_at es q ≡ None → kept_at (set_value test es w) q ≡ None
  kept-set_none test [] w q none = none
  kept-set_none test (e ∷ es) w q none = elim (cases_Bool (is_at (nat_cmp q) e.0)) [
    | inl t ↦ absurd (let n = rw t at none in cc)
    | inr t ↦ let n = rw t at none in elim (cases_Bool (test e.0)) [
      | inl a ↦ rw (a, t) n
      | inr a ↦ rw (a, t) (kept-set_none test es w q n)
    ]
  ]

  -- ---- how many there are, and their order

  -- Entries of which one was put in are not empty.
  pub some_inserted : (es : List (ℕ × T)) (k : ℕ) (v : T) → eqb (length (insert_entry nat_cmp es k v)) 0 ≡ false
  some_inserted [] k v = refl
  some_inserted (e ∷ es) k v = by_order (nat_cmp k e.0)
    where
      by_order : (r : Ordering) → eqb (length (match_ordering r ((k, v) ∷ e ∷ es) ((e.0, v) ∷ es) (e ∷ insert_entry nat_cmp es k v))) 0 ≡ false
      by_order Less = ne_eqb _ 0 (λ h. absurd (omega (arith, h)))
      by_order r = ne_eqb _ 0 (λ h. absurd (omega (arith, h)))

  all_insert : (P : ℕ → Type 0) (es : List (ℕ × T)) (k : ℕ) (v : T) → AllByRecursion P (keys_of es)
      → P k → AllByRecursion P (keys_of (insert_entry nat_cmp es k v))
  all_insert P [] k v all here = (here, tt)
  all_insert P (e ∷ es) k v all here = elim (compared k e.0) [
    | less h ↦ rw h (here, all)
    | equal h ↦ rw h all
    | greater h ↦ rw h (all.0, all_insert P es k v all.1 here)
  ]

  -- Entries that are sorted by channel, each once, stay so when one is put in.
  pub sorted-insert : (es : List (ℕ × T)) (k : ℕ) (v : T) → IsStrictlySortedBy nat_cmp (keys_of es)
      → IsStrictlySortedBy nat_cmp (keys_of (insert_entry nat_cmp es k v))
  unfolding IsStrictlySortedBy
  sorted-insert [] k v sorted = (tt, tt)
  sorted-insert (e ∷ es) k v sorted = elim (compared k e.0) [
    | less h ↦ rw h ((h, all_below k e.0 (keys_of es) h sorted.0), sorted)
    | equal h ↦ rw h sorted
    | greater h ↦ rw h (all_insert (λ n. nat_cmp e.0 n ≡ Less) es k v sorted.0 (above k e.0 h), sorted-insert es k v sorted.1)
  ]

  -- where the channel has no entry yet, one more value is counted
  pub count-insert : (test : T → Bool) (es : List (ℕ × T)) (k : ℕ) (v : T) → IsStrictlySortedBy nat_cmp (keys_of es)
      → kept_at es k ≡ None → count_by test (values_of (insert_entry nat_cmp es k v)) ≡ count_by test (values_of es) + cond (test v) 1 0
  count-insert test es k v sorted none =
      let weigh : T → ℕ = λ x. cond (test x) 1 0 in
      let had = ap (λ (o : Option T). sum_by weigh (values_of (insert_entry nat_cmp es k v)) + unwrap_or (option_map weigh o) 0) none in
      sym (add-zero (count_by test (values_of (insert_entry nat_cmp es k v)))) ∙ sym had ∙ sum_by-insert_entry weigh nat_cmp_total es k v sorted
