-- Entries in the order of their keys, of which the last of each key make the table.
use Rattle.std.proofs.Common.{◌≡◌, ◌<◌, ◌≤◌, ◌-◌, ◌⊎◌, inl, inr, ℕ, suc, List, [], ◌∷◌, length, map, get_or, Bool, true, false}
use Rattle.std.proofs.Common.{cond, Option, Some, None, Ordering}
use Rattle.std.proofs.Common.{refl, sym, ap, ap₂, subst, ◌∙◌, drop, ◌+◌, arith}
use Rattle.std.proofs.lemmas.Bool.{cases_lt}
use Rattle.std.proofs.lemmas.Cmp.{nat_list_cmp_total, tied_itself}
use Rattle.std.proofs.Math.Seq.{drop-cons}
use Rattle.std.proofs.lemmas.List.{drop_all}
use Rattle.std.proofs.lemmas.List.Elements.{recursion_from_All}
use Rattle.std.proofs.lemmas.List.Sorted.{All-permutation}
use Rattle.std.proofs.lemmas.Map.Lookups.{exact_bytes}
use Rattle.std.proofs.lemmas.Map.Views.{tells_apart}
use Rattle.std.specs.BTreeMap.{is_at}
use Rattle.std.specs.List.{AllByRecursion}
use Rattle.std.specs.List.Sorted.{IsPermutation, IsStrictlySortedBy}
use Rattle.std.specs.Map.{keys_of}
use Rattle.std.specs.Ordering.{is_eq}
use Rattle.amqp_types.specs.Settling.{IsSettled, value_at, later, last_at}
use Rattle.amqp_types.specs.Values.{FieldValue, Entry}
use Rattle.amqp_laws.proofs.Settling.{cmp, absent, settled_is}
use Rattle.amqp_canonical.specs.Judgements.{IsBelow}
use Rattle.amqp_canonical.specs.Writes.{IsRead}
use Rattle.amqp_canonical.specs.Leads.{key_at}
use Rattle.amqp_canonical.specs.Marks.{entry_at, marked_entry, entries_in, AreRead, AreMarks, AreInOrder, AreOfTable, Follows, blank, ties, last_of_ties}
use Rattle.amqp_canonical.specs.Places.{Precedes, ArePlaced}
use Rattle.amqp_canonical.specs.declared.marks.EntryMark.{EntryMark}
use Rattle.amqp_canonical.proofs.LastOfEachKey.{settled_in_order}
use Rattle.amqp_canonical.proofs.ReadParts.{entry_key}

-- what holds of each holds of each in a weaker form
pub each_weaker : {A : Type 0} (P Q : A → Type 0) → ((x : A) → P x → Q x) → (xs : List A) → AllByRecursion P xs → AllByRecursion Q xs
each_weaker P Q weaken [] h = tt
each_weaker P Q weaken (x ∷ xs) h = (weaken x h.0, each_weaker P Q weaken xs h.1)

-- What holds of neighbours below a place, and of those that end there, holds of neighbours up to it.
pub neighbours_more : (R : EntryMark → EntryMark → Type 0) (marks : List EntryMark) (k : ℕ) → 1 ≤ k
    → ((j : ℕ) → suc j < k → suc j < length marks → R (get_or marks j blank) (get_or marks (suc j) blank))
    → R (get_or marks (k - 1) blank) (get_or marks k blank)
    → (j : ℕ) → suc j < k + 1 → suc j < length marks → R (get_or marks j blank) (get_or marks (suc j) blank)
neighbours_more R marks k up before here j less long = elim (cases_lt (suc j) k) [
  | inl lower ↦ before j lower long
  | inr last ↦
      let e : k - 1 ≡ j = omega (arith, less, last, up) in
      let f : k ≡ suc j = omega (arith, less, last) in
      subst (λ m. R (get_or marks j blank) (get_or marks m blank)) f (subst (λ i. R (get_or marks i blank) (get_or marks k blank)) e here)
]

-- ---- entries in order

-- a value that stands first stands last, where nothing is found after it
first_or_later : (b : Bool) (v : FieldValue) (found : Option FieldValue)
    → (b ≡ true → found ≡ None) → cond b (Some v) found ≡ later found (cond b (Some v) None)
first_or_later true v found h = ap (λ o. later o (Some v)) (sym (h refl))
first_or_later false v None h = refl
first_or_later false v (Some w) h = refl

-- a value of the same key before does not count
earlier : (b : Bool) (found : Option FieldValue) (v w : FieldValue)
    → later found (cond b (Some v) None) ≡ later (later found (cond b (Some v) None)) (cond b (Some w) None)
earlier true None v w = refl
earlier true (Some u) v w = refl
earlier false None v w = refl
earlier false (Some u) v w = refl

-- ---- the last of ties are the table

settled_tied : (e next : Entry) (es kept : List Entry) → e.0 ≡ next.0 → IsSettled kept (next ∷ es) → IsSettled kept (e ∷ next ∷ es)
settled_tied e next es kept same h = record {
  rising = h.rising;
  last = λ q.
      let at : is_at (cmp q) next.0 ≡ is_at (cmp q) e.0 = ap (λ k. is_at (cmp q) k) (sym same) in
      h.last q ∙ earlier (is_at (cmp q) next.0) (last_at q es) next.1 e.1 ∙ ap (λ b. later (last_at q (next ∷ es)) (cond b (Some e.1) None)) at;
}

settled_below : (e : Entry) (es kept : List Entry) → AllByRecursion (λ k. IsBelow e.0 k) (keys_of kept) → IsSettled kept es → IsSettled (e ∷ kept) (e ∷ es)
unfolding IsStrictlySortedBy
settled_below e es kept above h = record {
  rising = (above, h.rising);
  last = λ q.
      let none : is_at (cmp q) e.0 ≡ true → value_at q kept ≡ None = λ here. rw (tells_apart exact_bytes q e.0 here) (absent e.0 kept above) in
      first_or_later (is_at (cmp q) e.0) e.1 (value_at q kept) none ∙ ap (λ o. later o (cond (is_at (cmp q) e.0) (Some e.1) None)) (h.last q);
}

choose_kept : (b : Bool) (e : Entry) (es kept : List Entry) → (b ≡ true → IsSettled kept es)
    → (b ≡ false → IsSettled (e ∷ kept) es) → IsSettled (cond b kept (e ∷ kept)) es
choose_kept true e es kept h k = h refl
choose_kept false e es kept h k = k refl

keeps_up : (b : Bool) (P : List ℕ → Type 0) (e : Entry) (es : List Entry) → P e.0
    → AllByRecursion P (keys_of es) → AllByRecursion P (keys_of (cond b es (e ∷ es)))
keeps_up true P e es p h = h
keeps_up false P e es p h = (p, h)

-- ---- marks in order

module _ (f : EntryMark → Entry) where
  -- the key comes after that of the previous mark, or is the same at a later place
  abbrev After : EntryMark → EntryMark → Type 0
  After m n = IsBelow (f m).0 (f n).0 ⊎ (((f m).0 ≡ (f n).0) × (m.place < n.place))

  -- each comes after all before it
  abbrev IsChain : List EntryMark → Type 0
  IsChain [] = Unit {0}
  IsChain (m ∷ ms) = AllByRecursion (After m) ms × IsChain ms

  below_after : (m n x : EntryMark) → IsBelow (f m).0 (f n).0 → After n x → IsBelow (f m).0 (f x).0
  below_after m n x less (inl more) = nat_list_cmp_total.trans (f m).0 (f n).0 (f x).0 less more
  below_after m n x less (inr same) = subst (λ k. IsBelow (f m).0 k) same.0 less

  after_next : (m n x : EntryMark) → After m n → After n x → After m x
  after_next m n x (inl less) a = inl (below_after m n x less a)
  after_next m n x (inr same) (inl more) = inl (subst (λ k. IsBelow k (f x).0) (sym same.0) more)
  after_next m n x (inr same) (inr more) = inr (same.0 ∙ more.0, omega (arith, same.1, more.1))

  precedes : (m n : EntryMark) → After m n → Precedes (λ x. (f x).0) (λ x. x.place) m n
  precedes m n (inl less) same = absurd (cc (tied_itself nat_list_cmp_total (f m).0))
  precedes m n (inr later) same = later.1

  placed_chain : (ms : List EntryMark) → IsChain ms → ArePlaced (λ x. (f x).0) (λ x. x.place) ms
  placed_chain [] h = tt
  placed_chain (m ∷ ms) h = (each_weaker (After m) (Precedes (λ x. (f x).0) (λ x. x.place) m) (precedes m) ms h.0, placed_chain ms h.1)

  kept_keys : (P : List ℕ → Type 0) (ms : List EntryMark) → AllByRecursion (λ m. P (f m).0) ms → AllByRecursion P (keys_of (last_of_ties (map f ms)))
  kept_keys P [] h = tt
  kept_keys P (m ∷ ms) h = keeps_up (ties (f m) (map f ms)) P (f m) (last_of_ties (map f ms)) h.0 (kept_keys P ms h.1)

  below_or_tied : (m n : EntryMark) → After m n → is_at (cmp (f m).0) (f n).0 ≡ false → IsBelow (f m).0 (f n).0
  below_or_tied m n (inl less) apart = less
  below_or_tied m n (inr same) apart = let tied = ap is_eq (tied_itself nat_list_cmp_total (f m).0) in let key = same.0 in absurd cc

  settled_ties : (ms : List EntryMark) → IsChain ms → IsSettled (last_of_ties (map f ms)) (map f ms)
  unfolding IsStrictlySortedBy
  settled_ties [] h = record { rising = tt; last = λ q. refl }
  settled_ties (m ∷ []) h = record { rising = (tt, tt); last = λ q. refl }
  settled_ties (m ∷ n ∷ ms) h =
      let es = map f ms in
      let kept = last_of_ties (f n ∷ es) in
      let more = settled_ties (n ∷ ms) h.1 in
      choose_kept (is_at (cmp (f m).0) (f n).0) (f m) (f m ∷ f n ∷ es) kept
      (λ tied. settled_tied (f m) (f n) es kept (tells_apart exact_bytes (f m).0 (f n).0 tied) more) (λ apart.
      let less = below_or_tied m n h.0.0 apart in
      let below = each_weaker (After n) (λ x. IsBelow (f m).0 (f x).0) (λ x a. below_after m n x less a) ms h.1.0 in
      settled_below (f m) (f n ∷ es) kept (kept_keys (λ k. IsBelow (f m).0 k) (n ∷ ms) (less, below)) more)

-- ---- the marks of a table

follows_after : (room : ℕ) (content : List ℕ) (m n : EntryMark) → IsRead (entry_at room content m.place)
    → IsRead (entry_at room content n.place) → Follows content m n → After (marked_entry room content) m n
follows_after room content m n one two (inl less) =
    inl (subst (λ k. IsBelow k (marked_entry room content n).0) (entry_key room _ one) (subst (λ k. IsBelow (key_at content m) k) (entry_key room _ two) less))
follows_after room content m n one two (inr later) = inr (sym (entry_key room _ one) ∙ later.0 ∙ entry_key room _ two, later.1)

chain_of : (room : ℕ) (content : List ℕ) (ms : List EntryMark) → AllByRecursion (λ m. IsRead (entry_at room content m.place)) ms
    → AreInOrder content ms → IsChain (marked_entry room content) ms
chain_of room content [] read h = tt
chain_of room content (m ∷ []) read h = (tt, tt)
chain_of room content (m ∷ n ∷ ms) read h =
    let f = marked_entry room content in
    let next = follows_after room content m n read.0 read.1.0 (h 0 (omega arith)) in
    let rest = chain_of room content (n ∷ ms) read.1 (λ k less. h (suc k) (omega (arith, less))) in
    ((next, each_weaker (After f n) (After f m) (λ x a. after_next f m n x next a) ms rest.0), rest)

-- Marks of all entries of a content, sorted by key and then by place, make the table that the content is, by the last mark of each key.
pub marks_of_table : (room : ℕ) (content : List ℕ) (ms sorted : List EntryMark) → AreMarks room content ms
    → IsPermutation ms sorted → AreInOrder content sorted → AreOfTable room content sorted
marks_of_table room content ms sorted h moved order =
    let f = marked_entry room content in
    let read = All-permutation (λ m. IsRead (entry_at room content m.place)) ms sorted moved h.read in
    let chain = chain_of room content sorted (recursion_from_All _ sorted read) order in
    let kept = settled_ties f sorted chain in
    let table = last_of_ties (map f sorted) in
    let all =
    subst (λ es. IsSettled table es) h.entries (settled_in_order f (λ m. m.place) table ms sorted moved h.placed (placed_chain f sorted chain) kept) in
    record { read = read; table = sym (settled_is (entries_in room content) table all) }

-- ---- ties among marks

ties_at : (f : EntryMark → Entry) (marks : List EntryMark) (k : ℕ) → k + 1 < length marks
    → is_at (cmp (f (get_or marks k blank)).0) (f (get_or marks (k + 1) blank)).0 ≡ ties (f (get_or marks k blank)) (map f (drop (k + 1) marks))
ties_at f marks k more = let one = f (get_or marks k blank) in ap (λ ms. ties one (map f ms)) (sym (drop-cons marks (k + 1) blank more))

-- Comparing the keys at two neighbouring marks says whether the entry at the first one has the same key as the next.
pub tied_as : (room : ℕ) (content : List ℕ) (marks : List EntryMark) (k : ℕ) (o : Ordering) → AreRead room content marks
    → k + 1 < length marks → o ≡ cmp (key_at content (get_or marks k blank)) (key_at content (get_or marks (k + 1) blank))
    → is_eq o ≡ ties (marked_entry room content (get_or marks k blank)) (map (marked_entry room content) (drop (k + 1) marks))
tied_as room content marks k o read more is =
    let one = entry_key room _ (read k blank (omega arith)) in
    let two = entry_key room _ (read (k + 1) blank more) in
    ap is_eq is ∙ ap₂ (λ a b. is_eq (cmp a b)) one two ∙ ties_at (marked_entry room content) marks k more

pub not_tied : (f : EntryMark → Entry) (e : Entry) (marks : List EntryMark) (k : ℕ) → k + 1 ≡ length marks → false ≡ ties e (map f (drop (k + 1) marks))
not_tied f e marks k last = ap (λ ms. ties e (map f ms)) (sym (drop_all (k + 1) marks (omega arith)))
