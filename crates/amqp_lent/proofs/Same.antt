-- What is compared step by step is the same exactly where the whole is.
use Rattle.std.proofs.lemmas.Grind.{common_steps}
use Rattle.std.proofs.Common.{◌≡◌, ◌↔◌, ℕ, suc, ◌<◌, List, [], ◌∷◌, ◌++◌, length, Bool, true, false, Option, Some, None, Less, Ordering, IsTrue, true≢false}
use Rattle.std.proofs.Common.{refl, sym, ap, ap₂, subst, ◌∙◌, arith}
use Rattle.std.proofs.lemmas.List.{append_cancel_left}
use Rattle.std.specs.List.{AllByRecursion}
use Rattle.std.specs.Bool.{Decides, one_answer}
use Rattle.std.specs.Map.{keys_of}
use Rattle.std.specs.Option.{is_some, option_map}
use Rattle.std.specs.Ordering.{is_lt, nat_cmp}
use Rattle.std.specs.Cmp.Lexicographic.{slice_cmp, pointwise, bytes_decides}
use Rattle.std.specs.Prelude.{nat_eq, not}
use Rattle.amqp_types.specs.Settling.{settled}
use Rattle.amqp_types.specs.Values.{FieldValue, Entry, array_value, table_value, items, pairs, values_of, entries_of, weight, entries_weight}
use Rattle.amqp_laws.proofs.Conversions.{items-values_of, pairs-entries_of}
use Rattle.amqp_laws.proofs.Settling.{settles}
use Rattle.amqp_canonical.specs.Marks.{IsAfter, IsNext, HasNoNext}
use Rattle.amqp_canonical.proofs.NextKey.{IsLeft, left_none, next_left, none_left}
use Rattle.amqp_lent.specs.Finding.{FindsAfter, HasNoneAfter, IsLeastAfter}
use Rattle.amqp_lent.specs.Sameness.{same_value, same_items, same_entries, same_value-decides, same_items-decides, same_entries-decides}
use Rattle.amqp_lent.specs.Views.{value_of}
use Rattle.amqp_lent.specs.declared.value.LentValue.{LentValue}
use Rattle.amqp_lent.specs.declared.value.LentValue.TheVariants as variant

-- ---- tables, entry by entry

next_of : (last : Option (List ℕ)) (es : List Entry) (e : Entry) → IsLeastAfter last (settled es) e → IsNext last es e.0 e.1
next_of last es e h =
    let all = settles es in
    record { after = h.after; value = sym (all.last e.0) ∙ h.value; least = λ other w after value less. h.least other w after (all.last other ∙ value) less }

none_of : (last : Option (List ℕ)) (es : List Entry) → HasNoneAfter last (settled es) → HasNoNext last es
none_of last es h = let all = settles es in λ other w after value. h other w after (all.last other ∙ value)

-- the entries up to the last key are the same in both tables
pub record SameTo (es fs : List Entry) (last : Option (List ℕ)) : Type 0 where
  pub done : List Entry
  pub left : List Entry
  pub other_left : List Entry
  pub stands : IsLeft es last done left
  pub other_stands : IsLeft fs last done other_left

pub same_none : (es fs : List Entry) → SameTo es fs None
same_none es fs = grind (arith, common_steps, left_none)

-- both tables go on with an entry, which is the same in both where the tables are
pub record SameHere (es fs : List Entry) (e f : Entry) : Type 0 where
  pub next : e ≡ f → SameTo es fs (Some e.0)
  pub same : settled es ≡ settled fs → e ≡ f

same_first : {A : Type 0} (x y : A) (xs ys : List A) → x ∷ xs ≡ y ∷ ys → x ≡ y
same_first x y xs ys h = cc

-- Where two tables are the same up to a key, they are the same up to the next one where their next entries are, as these are in equal tables.
pub same_here : (es fs : List Entry) (last : Option (List ℕ)) (e f : Entry) → SameTo es fs last
    → FindsAfter last (settled es) (Some e) → FindsAfter last (settled fs) (Some f) → SameHere es fs e f
same_here es fs last e f h one two =
    let mine = next_left es last h.done h.left e.0 e.1 h.stands (next_of last es e one) in
    let theirs = next_left fs last h.done h.other_left f.0 f.1 h.other_stands (next_of last fs f two) in
    let P : Entry → Type 0 = λ x. IsLeft fs (Some x.0) (h.done ++ x ∷ []) theirs.rest in
    record {
      next = λ is.
          record { done = h.done ++ e ∷ []; left = mine.rest; other_left = theirs.rest; stands = mine.left_is; other_stands = subst P (sym is) theirs.left_is };
      same = λ is.
          same_first e f mine.rest theirs.rest
          (sym mine.is ∙ append_cancel_left h.done h.left h.other_left (h.stands.parts ∙ is ∙ sym h.other_stands.parts) ∙ theirs.is);
    }

-- one goes on and the other does not
pub same_not : (es fs : List Entry) (last : Option (List ℕ)) (e : Entry) → SameTo es fs last
    → FindsAfter last (settled es) (Some e) → FindsAfter last (settled fs) None → settled es ≡ settled fs → ⊥
same_not es fs last e h one two is = grind (arith, common_steps)

flipped : (es fs : List Entry) (last : Option (List ℕ)) → SameTo es fs last → SameTo fs es last
flipped es fs last h = grind (arith, common_steps)

-- neither goes on
pub same_end : (es fs : List Entry) (last : Option (List ℕ)) → SameTo es fs last
    → FindsAfter last (settled es) None → FindsAfter last (settled fs) None → settled es ≡ settled fs
same_end es fs last h one two =
    let mine = none_left es last h.done h.left h.stands (none_of last es one) in
    let theirs = none_left fs last h.done h.other_left h.other_stands (none_of last fs two) in
    sym h.stands.parts ∙ ap (λ es. h.done ++ es) (mine ∙ sym theirs) ∙ h.other_stands.parts

pub same_longer : (es fs : List Entry) (last : Option (List ℕ)) (f : Entry) → SameTo es fs last
    → FindsAfter last (settled es) None → FindsAfter last (settled fs) (Some f) → settled es ≡ settled fs → ⊥
same_longer es fs last f h one two is = same_not fs es last f (flipped es fs last h) two one (sym is)

not_is : (a b : Bool) → a ≡ not b → b ≡ not a
not_is a b h = grind (arith, common_steps)

-- nothing more comes of the first table, and of the second something or nothing
pub same_done : {K : Type 0} (view : K → Entry) (es fs : List Entry) (last : Option (List ℕ)) (found : Option K) (none : Bool) → SameTo es fs last
    → FindsAfter last (settled es) None → FindsAfter last (settled fs) (option_map view found)
    → is_some found ≡ not none → IsTrue none ↔ (settled es ≡ settled fs)
same_done view es fs last None none h one two is = (λ yes. same_end es fs last h one two, λ same. not_is false none is)
same_done view es fs last (Some f) none h one two is =
    (λ yes. absurd (true≢false (sym yes ∙ not_is true none is)), λ same. absurd (same_longer es fs last (view f) h one two same))

-- ---- keys

by_not : (b : Bool) → not b ≡ false → b ≡ true
by_not true h = refl
by_not false h = absurd (true≢false h)

-- Keys of which comparing the bytes does not say that they differ are the same.
pub key_same : (k l : List ℕ) (differ : Bool) → differ ≡ not (pointwise nat_eq k l) → differ ≡ false → k ≡ l
key_same k l differ is h = (bytes_decides k l).0 (by_not _ (sym is ∙ h))

-- Keys of which comparing the bytes says that they differ are not the same.
pub key_other : (k l : List ℕ) (differ : Bool) → differ ≡ not (pointwise nat_eq k l) → differ ≡ true → k ≡ l → ⊥
key_other k l differ is h same = true≢false (sym h ∙ is ∙ ap not ((bytes_decides k l).1 same))

-- ---- what falls

-- a value weighs less than the table that it stands in
weight_in : (done : List Entry) (e : Entry) (rest : List Entry) → weight e.1 < entries_weight (entries_of (done ++ e ∷ rest))
weight_in [] e rest = omega arith
weight_in (d ∷ done) e rest = omega (arith, weight_in done e rest)

-- whether a key is after the last one
abbrev is_after : Option (List ℕ) → List ℕ → Bool
is_after None key = true
is_after (Some last) key = is_lt (slice_cmp nat_cmp last key)

abbrev one_more : Bool → ℕ → ℕ
one_more true n = suc n
one_more false n = n

-- how many entries come after the last key
abbrev pub ahead : Option (List ℕ) → List Entry → ℕ
ahead last [] = 0
ahead last (e ∷ es) = one_more (is_after last e.0) (ahead last es)

ahead_is : (last : Option (List ℕ)) (key : List ℕ) → IsAfter last key → is_after last key ≡ true
ahead_is None key h = refl
ahead_is (Some last) key h = ap is_lt h

less_is : (o : Ordering) → is_lt o ≡ true → o ≡ Less
less_is o h = by_cases o h
  where
    by_cases : (o : Ordering) → is_lt o ≡ true → o ≡ Less
    by_cases Less h = refl
    by_cases o h = absurd cc

behind_by : (b : Bool) (last : Option (List ℕ)) (key : List ℕ) → is_after last key ≡ b → (IsAfter last key → ⊥) → is_after last key ≡ false
behind_by b last key is h = grind (arith, common_steps, less_is)

all_ahead : (last : Option (List ℕ)) (es : List Entry) → AllByRecursion (λ k. IsAfter last k) (keys_of es) → ahead last es ≡ length es
all_ahead last [] h = refl
all_ahead last (e ∷ es) h = ap₂ one_more (ahead_is last e.0 h.0) (all_ahead last es h.1)

ahead_left : (last : Option (List ℕ)) (done left : List Entry) → AllByRecursion (λ k. IsAfter last k → ⊥) (keys_of done)
    → AllByRecursion (λ k. IsAfter last k) (keys_of left) → ahead last (done ++ left) ≡ length left
ahead_left last [] left h k = all_ahead last left k
ahead_left last (e ∷ done) left h k = ap₂ one_more (behind_by _ last e.0 refl h.0) (ahead_left last done left h.1 k)

ahead_of : (es : List Entry) (last : Option (List ℕ)) (done left : List Entry) → IsLeft es last done left → ahead last (settled es) ≡ length left
ahead_of es last done left h = grind (arith, common_steps, ahead_left)

-- the value of an entry weighs less than the table, and fewer entries are ahead of its key than of the one before
pub record Falls (es fs : List Entry) (last : Option (List ℕ)) (e : Entry) : Type 0 where
  pub light : weight e.1 < entries_weight (entries_of (settled es))
  pub fewer : ahead (Some e.0) (settled es) < ahead last (settled es)

-- The value of the next entry weighs less than the table, and fewer entries are ahead after it.
pub falls : (es fs : List Entry) (last : Option (List ℕ)) (e : Entry) → SameTo es fs last → FindsAfter last (settled es) (Some e) → Falls es fs last e
falls es fs last e h one =
    let mine = next_left es last h.done h.left e.0 e.1 h.stands (next_of last es e one) in
    let whole : h.done ++ e ∷ mine.rest ≡ settled es = ap (λ t. h.done ++ t) (sym mine.is) ∙ h.stands.parts in
    record {
      light = omega (arith, weight_in h.done e mine.rest, ap (λ t. entries_weight (entries_of t)) whole);
      fewer = omega (arith, ahead_of es last h.done h.left h.stands, ahead_of es (Some e.0) (h.done ++ e ∷ []) mine.rest mine.left_is, ap length mine.is);
    }

-- ---- values that hold values

-- A test that decides whether two lists of values are equal decides it of the arrays of these values.
pub same_arrays : (a b : LentValue) (vs ws : List FieldValue) (r : Bool) → a ≡ variant.FieldArray vs
    → b ≡ variant.FieldArray ws → IsTrue r ↔ (vs ≡ ws) → IsTrue r ↔ (value_of a ≡ value_of b)
same_arrays a b vs ws r one two h = (
  λ yes. ap value_of one ∙ ap (λ xs. array_value (values_of xs)) (h.0 yes) ∙ sym (ap value_of two),
  λ same. let is : array_value (values_of vs) ≡ array_value (values_of ws) = sym (ap value_of one) ∙ same ∙ ap value_of two in
      let inner : values_of vs ≡ values_of ws = cc in
      h.1 (sym (items-values_of vs) ∙ ap items inner ∙ items-values_of ws),
)

-- A test that decides whether two lists of entries are equal decides it of the tables of these entries.
pub same_tables : (a b : LentValue) (es fs : List Entry) (r : Bool) → a ≡ variant.FieldTable es
    → b ≡ variant.FieldTable fs → IsTrue r ↔ (es ≡ fs) → IsTrue r ↔ (value_of a ≡ value_of b)
same_tables a b es fs r one two h = (
  λ yes. ap value_of one ∙ ap (λ xs. table_value (entries_of xs)) (h.0 yes) ∙ sym (ap value_of two),
  λ same. let is : table_value (entries_of es) ≡ table_value (entries_of fs) = sym (ap value_of one) ∙ same ∙ ap value_of two in
      let inner : entries_of es ≡ entries_of fs = cc in
      h.1 (sym (pairs-entries_of es) ∙ ap pairs inner ∙ pairs-entries_of fs),
)

-- ---- what `==` answers

-- What is true exactly where two values are equal is the result of comparing them.
pub value_answer : (v w : FieldValue) (r : Bool) → IsTrue r ↔ (v ≡ w) → r ≡ same_value v w
value_answer v w r h = one_answer r (same_value v w) h (same_value-decides v w)

-- What is true exactly where two lists of values are equal is the result of comparing them.
pub items_answer : (vs ws : List FieldValue) (r : Bool) → IsTrue r ↔ (vs ≡ ws) → r ≡ same_items vs ws
items_answer vs ws r h = one_answer r (same_items vs ws) h (same_items-decides vs ws)

-- What is true exactly where two lists of entries are equal is the result of comparing them.
pub entries_answer : (es fs : List Entry) (r : Bool) → IsTrue r ↔ (es ≡ fs) → r ≡ same_entries es fs
entries_answer es fs r h = one_answer r (same_entries es fs) h (same_entries-decides es fs)

-- Comparing two values is true exactly where they are equal.
pub value_decided : (v w : FieldValue) → Decides (same_value v w) (v ≡ w)
value_decided = same_value-decides

-- Comparing two lists of values is true exactly where they are equal.
pub items_decided : (vs ws : List FieldValue) → Decides (same_items vs ws) (vs ≡ ws)
items_decided = same_items-decides

-- Comparing two lists of entries is true exactly where they are equal.
pub entries_decided : (es fs : List Entry) → Decides (same_entries es fs) (es ≡ fs)
entries_decided = same_entries-decides
