-- The entry with the least key after another.
use Rattle.std.proofs.Common.{◌≡◌, ◌≢◌, ◌⊎◌, inl, inr, ℕ, ◌+◌, ◌≤◌, List, [], ◌∷◌, ◌++◌, length, drop, false, cond, Option, Some, None, Ordering}
use Rattle.std.proofs.Common.{Less, Equal, Greater, Bor, refl, sym, ap, subst, ◌∙◌, append_assoc}
use Rattle.std.proofs.lemmas.Bool.{cases_Bool}
use Rattle.std.proofs.lemmas.Cmp.{nat_list_cmp_total, tied_itself}
use Rattle.std.proofs.lemmas.Map.Lookups.{exact_bytes}
use Rattle.std.proofs.lemmas.Map.Views.{tells_apart}
use Rattle.std.specs.BTreeMap.{is_at}
use Rattle.std.specs.List.{AllByRecursion}
use Rattle.std.specs.List.Sorted.{IsStrictlySortedBy}
use Rattle.std.specs.Map.{keys_of}
use Rattle.std.specs.Ordering.{is_eq, ordering_reverse}
use Rattle.amqp_types.specs.Settling.{IsRising, value_at, later, last_at, settled}
use Rattle.amqp_types.specs.Values.{FieldValue, Entry}
use Rattle.amqp_laws.proofs.Settling.{cmp, first_value, settles, absent, later-None}
use Rattle.amqp_canonical.specs.Judgements.{IsBelow}
use Rattle.amqp_canonical.specs.Writes.{IsRead, key_in}
use Rattle.amqp_canonical.specs.Marks.{entry_at, judged_entry, entries_in, IsAfter, IsNext, HasNoNext, ComesFirst, FindsNext}
use Rattle.amqp_canonical.proofs.InOrder.{each_weaker}
use Rattle.amqp_canonical.proofs.Marking.{EntriesTo, EntryHere, entries_end}
use Rattle.amqp_canonical.proofs.ReadParts.{entry_key}
use Rattle.amqp_canonical.proofs.Children.{all_last}

-- ---- one more entry at the end

later_later : (a b c : Option FieldValue) → later (later a b) c ≡ later a (later b c)
later_later None b c = refl
later_later (Some v) b c = refl

abbrev value_here : List ℕ → Entry → Option FieldValue
value_here q e = cond (is_at (cmp q) e.0) (Some e.1) None

last_push : (q : List ℕ) (es : List Entry) (e : Entry) → last_at q (es ++ e ∷ []) ≡ later (value_here q e) (last_at q es)
last_push q [] e = sym (later-None (value_here q e))
last_push q (x ∷ es) e = ap (λ o. later o (value_here q x)) (last_push q es e) ∙ later_later (value_here q e) (last_at q es) (value_here q x)

-- the last entry counts for its own key, and for no other
pub last_own : (es : List Entry) (e : Entry) → last_at e.0 (es ++ e ∷ []) ≡ Some e.1
last_own es e = last_push e.0 es e ∙ ap (λ o. later (cond (is_eq o) (Some e.1) None) (last_at e.0 es)) (tied_itself nat_list_cmp_total e.0)

apart_push : (q : List ℕ) (es : List Entry) (e : Entry) → is_at (cmp q) e.0 ≡ false → last_at q (es ++ e ∷ []) ≡ last_at q es
apart_push q es e apart = last_push q es e ∙ ap (λ b. later (cond b (Some e.1) None) (last_at q es)) apart

-- One more entry with another key leaves the last value of a key.
pub last_other : (q : List ℕ) (es : List Entry) (e : Entry) → (q ≡ e.0 → ⊥) → last_at q (es ++ e ∷ []) ≡ last_at q es
last_other q es e differ = elim (cases_Bool (is_at (cmp q) e.0)) [
  | inl tied ↦ absurd (differ (tells_apart exact_bytes q e.0 tied))
  | inr apart ↦ apart_push q es e apart
]

found_before : (q : List ℕ) (es : List Entry) (e : Entry) (w : FieldValue) → last_at q (es ++ e ∷ []) ≡ Some w → (q ≡ e.0) ⊎ (last_at q es ≡ Some w)
found_before q es e w h = elim (cases_Bool (is_at (cmp q) e.0)) [
  | inl tied ↦ inl (tells_apart exact_bytes q e.0 tied)
  | inr apart ↦ inr (sym (apart_push q es e apart) ∙ h)
]

-- ---- keys

never_below : (k l : List ℕ) → k ≡ l → IsBelow k l → ⊥
never_below k l same less = cc (tied_itself nat_list_cmp_total k)

below_by : (o : Ordering) (other k l : List ℕ) → cmp k l ≡ o → o ≢ Greater → IsBelow other k → IsBelow other l
below_by Less other k l is h less = nat_list_cmp_total.trans other k l less is
below_by Equal other k l is h less = subst (λ m. IsBelow other m) (exact_bytes k l is) less
below_by Greater other k l is h less = absurd (h refl)

-- what is below a key that is not above another is below that
below_first : (other k l : List ℕ) → cmp k l ≢ Greater → IsBelow other k → IsBelow other l
below_first other k l h less = below_by (cmp k l) other k l refl h less

after_more : (last : Option (List ℕ)) (k l : List ℕ) → IsAfter last k → IsBelow k l → IsAfter last l
after_more None k l h less = tt
after_more (Some last) k l h less = nat_list_cmp_total.trans last k l h less

-- ---- one more entry is looked at

-- the bytes of a borrowed key
abbrev pub view : Bor (List ℕ) → List ℕ
view k = k.now

module _ (room : ℕ) (content : List ℕ) (last : Option (List ℕ)) (es : List Entry) (e : Entry) where
  none_below : (found : Option (ℕ × Bor (List ℕ))) → ComesFirst view e.0 found → FindsNext view room content last es found
      → (other : List ℕ) (w : FieldValue) → IsAfter last other → last_at other es ≡ Some w → IsBelow other e.0 → ⊥
  none_below None first h other w later value less = h other w later value
  none_below (Some found) first h other w later value less = h.next.least other w later value (below_first other e.0 found.1.now first less)

  next_taken : (found : Option (ℕ × Bor (List ℕ))) → IsAfter last e.0 → ComesFirst view e.0 found
      → FindsNext view room content last es found → IsNext last (es ++ e ∷ []) e.0 e.1
  next_taken found after first h = record {
    after = after;
    value = last_own es e;
    least = λ other w later value less. elim (found_before other es e w value) [
      | inl same ↦ never_below other e.0 same less
      | inr before ↦ none_below found first h other w later before less
    ];
  }

  -- a key that does not come after the last one, or not before what is found, leaves it
  finds_kept : (found : Option (ℕ × Bor (List ℕ))) → (IsAfter last e.0 → ComesFirst view e.0 found → ⊥)
      → FindsNext view room content last es found → FindsNext view room content last (es ++ e ∷ []) found
  finds_kept None out h = λ other w later value. elim (found_before other es e w value) [
    | inl same ↦ out (subst (λ k. IsAfter last k) same later) tt
    | inr before ↦ h other w later before
  ]
  finds_kept (Some found) out h =
      let k = found.1.now in
      let differ : k ≡ e.0 → ⊥ = λ same. out (subst (λ k. IsAfter last k) same h.next.after) (λ above. cc (tied_itself nat_list_cmp_total k)) in
      record {
        read = h.read;
        key_is = h.key_is;
        next = record {
          after = h.next.after;
          value = last_other k es e differ ∙ h.next.value;
          least = λ other w later value less. elim (found_before other es e w value) [
            | inl same ↦ out (subst (λ l. IsAfter last l) same later) (λ above. cc)
            | inr before ↦ h.next.least other w later before less
          ];
        };
      }

-- ---- the entries up to a place are looked at

-- the entry with the least key after another one, among the entries up to a place
pub record LookedTo (room : ℕ) (content : List ℕ) (last : Option (List ℕ)) (at : ℕ) (found : Option (ℕ × Bor (List ℕ))) : Type 0 where
  pub front : List Entry
  pub entries : EntriesTo room content at front
  pub finds : FindsNext view room content last front found

-- the key at the place is that of the entry
pub key_here : (room : ℕ) (content : List ℕ) (at : ℕ) (key : List ℕ) → IsRead (entry_at room content at)
    → key ≡ key_in (drop at content) → key ≡ (judged_entry (entry_at room content at)).0
key_here room content at key read is = is ∙ entry_key room (drop at content) read

-- ---- which entries of a table are left

-- the first entries of the table have keys up to the last one, and those that are left have keys after it
pub record IsLeft (es : List Entry) (last : Option (List ℕ)) (done left : List Entry) : Type 0 where
  pub parts : done ++ left ≡ settled es
  pub behind : AllByRecursion (λ k. IsAfter last k → ⊥) (keys_of done)
  pub ahead : AllByRecursion (λ k. IsAfter last k) (keys_of left)

all_of : (P : List ℕ → Type 0) → ((k : List ℕ) → P k) → (ks : List (List ℕ)) → AllByRecursion P ks
all_of P h [] = tt
all_of P h (k ∷ ks) = (h k, all_of P h ks)

-- Before the first key all entries of the settled table are left.
pub left_none : (es : List Entry) → IsLeft es None [] (settled es)
left_none es = record { parts = refl; behind = tt; ahead = all_of (λ k. IsAfter None k) (λ k. tt) (keys_of (settled es)) }

-- a key that is after the last one is not among the first entries
value_ahead : (last : Option (List ℕ)) (q : List ℕ) (done left : List Entry) → IsAfter last q
    → AllByRecursion (λ k. IsAfter last k → ⊥) (keys_of done) → value_at q (done ++ left) ≡ value_at q left
value_ahead last q [] left after h = refl
value_ahead last q (e ∷ done) left after h = elim (cases_Bool (is_at (cmp q) e.0)) [
  | inl tied ↦ absurd (h.0 (subst (λ k. IsAfter last k) (tells_apart exact_bytes q e.0 tied) after))
  | inr apart ↦ ap (λ b. cond b (Some e.1) (value_at q (done ++ left))) apart ∙ value_ahead last q done left after h.1
]

rising_left : (done left : List Entry) → IsRising (done ++ left) → IsRising left
unfolding IsStrictlySortedBy
rising_left [] left h = h
rising_left (e ∷ done) left h = rising_left done left h.1

left_rises : (es : List Entry) (last : Option (List ℕ)) (done left : List Entry) → IsLeft es last done left → IsRising left
left_rises es last done left h = rising_left done left (rw h.parts (settles es).rising)

-- the value that the entries give a key after the last one
value_left : (es : List Entry) (last : Option (List ℕ)) (done left : List Entry) (q : List ℕ)
    → IsLeft es last done left → IsAfter last q → value_at q left ≡ last_at q es
value_left es last done left q h after =
    sym (value_ahead last q done left after h.behind) ∙ ap (λ t. value_at q t) h.parts ∙ (settles es).last q

-- the first entry that is left has the next key
module _ (es : List Entry) (last : Option (List ℕ)) (done : List Entry) (e : Entry) (rest : List Entry)
    (k : List ℕ) (v : FieldValue) (h : IsLeft es last done (e ∷ rest)) (n : IsNext last es k v) where
  is_first_by : (o : Ordering) → cmp k e.0 ≡ o → e ≡ (k, v)
  unfolding IsStrictlySortedBy
  is_first_by Less is =
      let rising = left_rises es last done (e ∷ rest) h in
      let none : value_at k (e ∷ rest) ≡ None =
      absent k (e ∷ rest)
      (is, each_weaker (λ x. IsBelow e.0 x) (λ x. IsBelow k x) (λ x less. nat_list_cmp_total.trans k e.0 x is less) (keys_of rest) rising.0) in
      let one : None ≡ Some v = sym none ∙ value_left es last done (e ∷ rest) k h n.after ∙ n.value in
      cc
  is_first_by Equal is =
      let same : k ≡ e.0 = exact_bytes k e.0 is in
      let at : value_at e.0 (e ∷ rest) ≡ Some v = subst (λ q. value_at q (e ∷ rest) ≡ Some v) same (value_left es last done (e ∷ rest) k h n.after ∙ n.value) in
      let value : Some e.1 ≡ Some v = sym (first_value e rest) ∙ at in
      let second : e.1 ≡ v = cc in
      λ i. (sym same i, second i)
  is_first_by Greater is =
      let less : IsBelow e.0 k = nat_list_cmp_total.antisymm e.0 k ∙ ap ordering_reverse is in
      absurd (n.least e.0 e.1 h.ahead.0 (sym (value_left es last done (e ∷ rest) e.0 h h.ahead.0) ∙ first_value e rest) less)

-- the next entry is the first that is left, and the others are left after it
pub record NextLeft (es : List Entry) (k : List ℕ) (v : FieldValue) (done left : List Entry) : Type 0 where
  pub rest : List Entry
  pub is : left ≡ (k, v) ∷ rest
  pub left_is : IsLeft es (Some k) (done ++ (k, v) ∷ []) rest

-- The entry with the least key after the last one is the first of those left, and the others are left after it.
pub next_left : (es : List Entry) (last : Option (List ℕ)) (done left : List Entry) (k : List ℕ) (v : FieldValue)
    → IsLeft es last done left → IsNext last es k v → NextLeft es k v done left
unfolding IsStrictlySortedBy
next_left es last done [] k v h n = let e : None ≡ Some v = value_left es last done [] k h n.after ∙ n.value in absurd cc
next_left es last done (e ∷ rest) k v h n =
    let is = is_first_by es last done e rest k v h n _ refl in
    let rising = subst (λ x. IsRising (x ∷ rest)) is (left_rises es last done (e ∷ rest) h) in
    record {
      rest = rest;
      is = ap (λ x. x ∷ rest) is;
      left_is = record {
        parts = append_assoc done ((k, v) ∷ []) rest ∙ ap (λ x. done ++ x ∷ rest) (sym is) ∙ h.parts;
        behind =
            all_last (λ x. IsAfter (Some k) x → ⊥) done (k, v)
            (each_weaker (λ x. IsAfter last x → ⊥) (λ x. IsAfter (Some k) x → ⊥) (λ x out less. out (after_more last k x n.after less)) (keys_of done) h.behind)
            (λ less. never_below k k refl less);
        ahead = rising.0;
      };
    }

-- Where no key comes after the last one, no entry is left.
pub none_left : (es : List Entry) (last : Option (List ℕ)) (done left : List Entry) → IsLeft es last done left → HasNoNext last es → left ≡ []
none_left es last done [] h none = refl
none_left es last done (e ∷ rest) h none = absurd (none e.0 e.1 h.ahead.0 (sym (value_left es last done (e ∷ rest) e.0 h h.ahead.0) ∙ first_value e rest))

-- ---- steps of the search

module _ (room : ℕ) (content : List ℕ) (last : Option (List ℕ)) (at size : ℕ) (key : Bor (List ℕ)) (found : Option (ℕ × Bor (List ℕ)))
    (h : LookedTo room content last at found) (here : EntryHere room content at size h.front) (is : key.now ≡ key_in (drop at content)) where
  abbrev entry : Entry
  entry = judged_entry (entry_at room content at)

  same_key : key.now ≡ entry.0
  same_key = key_here room content at key.now here.read is

  -- A key that comes after the last one, and not after the key found so far, is the one found up to the end of its entry.
  pub looked_taken : IsAfter last key.now → ComesFirst view key.now found → LookedTo room content last (at + size) (Some (at, key))
  looked_taken after first =
      let next =
      next_taken room content last h.front entry found (subst (λ k. IsAfter last k) same_key after)
      (subst (λ k. ComesFirst view k found) same_key first) h.finds
      in
      record {
        front = h.front ++ entry ∷ [];
        entries = here.next;
        finds = record { read = here.read; key_is = sym same_key; next = subst (λ k. IsNext last (h.front ++ entry ∷ []) k entry.1) (sym same_key) next };
      }

  -- A key that does not come after the last one, or comes after the key found so far, leaves what is found.
  pub looked_past : (IsAfter last key.now → ComesFirst view key.now found → ⊥) → LookedTo room content last (at + size) found
  looked_past out = record {
    front = _;
    entries = here.next;
    finds = finds_kept room content last h.front entry found (subst (λ k. IsAfter last k → ComesFirst view k found → ⊥) same_key out) h.finds;
  }

-- What is found up to the end of the content is the next entry of all.
pub looked_end : (room : ℕ) (content : List ℕ) (last : Option (List ℕ)) (at : ℕ) (found : Option (ℕ × Bor (List ℕ)))
    → length content ≤ at → LookedTo room content last at found → FindsNext view room content last (entries_in room content) found
looked_end room content last at found long h =
    subst (λ es. FindsNext view room content last es found) (entries_end room content at h.front long h.entries) h.finds
