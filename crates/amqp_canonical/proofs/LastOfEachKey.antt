-- The last one of each key is the same in whatever order things come that are placed.
use Rattle.std.proofs.Common.{◌≡◌, ◌≢◌, ◌<◌, ℕ, List, [], ◌∷◌, ◌++◌, ◌⊎◌, inl, inr, map, Bool, true, false, cond, Option, Some, None, All}
use Rattle.std.proofs.Common.{Contains, refl, sym, ap, ◌∙◌, arith}
use Rattle.std.proofs.lemmas.Cmp.{nat_list_cmp_total, tied_itself}
use Rattle.std.proofs.lemmas.List.Elements.{All-nil, All-cons, All-weaker, All-contains, All-from_recursion, Contains-append_right}
use Rattle.std.proofs.lemmas.List.Sorted.{IsPermutation-sym, Contains-permutation}
use Rattle.std.proofs.lemmas.Map.Lookups.{exact_bytes}
use Rattle.std.proofs.lemmas.Map.Views.{tells_apart}
use Rattle.std.specs.BTreeMap.{is_at}
use Rattle.std.specs.List.{AllByRecursion}
use Rattle.std.specs.List.Sorted.{IsPermutation}
use Rattle.std.specs.Map.{keys_of}
use Rattle.std.specs.Ordering.{is_eq}
use Rattle.amqp_types.specs.Settling.{IsSettled, later, last_at}
use Rattle.amqp_types.specs.Values.{FieldValue, Entry}
use Rattle.amqp_laws.proofs.Settling.{cmp}
use Rattle.amqp_canonical.specs.Places.{Precedes, ArePlaced}

-- ---- one more thing at the end

-- what holds of each and of one more holds of all
pub all_push : {A : Type 0} (P : A → Type 0) (xs : List A) (y : A) → AllByRecursion P xs → P y → AllByRecursion P (xs ++ y ∷ [])
all_push P [] y h p = (p, tt)
all_push P (x ∷ xs) y h p = (h.0, all_push P xs y h.1 p)

-- what all before it precede may stand last
pub placed_last : {A : Type 0} (key : A → List ℕ) (place : A → ℕ) (xs : List A) (y : A) → ArePlaced key place xs
    → AllByRecursion (λ x. Precedes key place x y) xs → ArePlaced key place (xs ++ y ∷ [])
placed_last key place [] y h before = (tt, tt)
placed_last key place (x ∷ xs) y h before = (all_push (Precedes key place x) xs y h.0 before.0, placed_last key place xs y h.1 before.1)

-- what holds of all keys holds of the last one
pub all_at_last : (P : List ℕ → Type 0) (es : List Entry) (e : Entry) → AllByRecursion P (keys_of (es ++ e ∷ [])) → P e.0
all_at_last P [] e h = h.0
all_at_last P (x ∷ es) e h = all_at_last P es e h.1

-- ---- the last one of a key

module _ {A : Type 0} (entry_of : A → Entry) (place : A → ℕ) where
  abbrev key_of : A → List ℕ
  key_of x = (entry_of x).0

  -- of two things that are each the other one or below it both are one
  same_one : (x y : A) → (x ≡ y) ⊎ (place x < place y) → (y ≡ x) ⊎ (place y < place x) → x ≡ y
  same_one x y (inl same) other = same
  same_one x y (inr less) (inl same) = sym same
  same_one x y (inr less) (inr more) = absurd (omega (arith, less, more))

  module _ (key : List ℕ) where
    abbrev HasOtherKey : A → Type 0
    HasOtherKey x = key_of x ≢ key

    -- a thing is this one or has a lower place, where it has the key
    abbrev IsUpTo : A → A → Type 0
    IsUpTo one x = key_of x ≡ key → (x ≡ one) ⊎ (place x < place one)

    -- one of the things has the key and the value, and each other one with the key has a lower place
    record IsLast (xs : List A) (v : FieldValue) : Type 0 where
      one : A
      inside : Contains xs one
      has_key : key_of one ≡ key
      value_is : (entry_of one).1 ≡ v
      others : All (IsUpTo one) xs

    -- the value is that of the last one with the key, or there is none and nothing has the key
    abbrev Finds : List A → Option FieldValue → Type 0
    Finds xs None = All HasOtherKey xs
    Finds xs (Some v) = IsLast xs v

    -- one more thing in front is found only where nothing after it has the key
    finds_next : (x : A) (xs : List A) (found : Option FieldValue) (b : Bool) → is_at (cmp key) (key_of x) ≡ b
        → AllByRecursion (Precedes key_of place x) xs → Finds xs found → Finds (x ∷ xs) (later found (cond b (Some (entry_of x).1) None))
    finds_next x xs (Some v) b is before h = record {
      one = h.one;
      inside = Contains-append_right (x ∷ []) xs h.one h.inside;
      has_key = h.has_key;
      value_is = h.value_is;
      others =
          All-cons (IsUpTo h.one) x xs
          (λ same. inr (All-contains (Precedes key_of place x) xs h.one (All-from_recursion _ xs before) h.inside (same ∙ sym h.has_key))) h.others;
    }
    finds_next x xs None true is before h = record {
      one = x;
      inside = (0, omega arith, refl);
      has_key = sym (tells_apart exact_bytes key (key_of x) is);
      value_is = refl;
      others = All-cons (IsUpTo x) x xs (λ same. inl refl) (All-weaker HasOtherKey (IsUpTo x) (λ y differs same. absurd (differs same)) xs h);
    }
    finds_next x xs None false is before h =
        All-cons HasOtherKey x xs (λ same. let tied = ap is_eq (tied_itself nat_list_cmp_total key) in let there = ap (is_at (cmp key)) same in cc) h

    -- the last value of a key is that of the last one with the key
    finds_last : (xs : List A) → ArePlaced key_of place xs → Finds xs (last_at key (map entry_of xs))
    finds_last [] placed = All-nil _
    finds_last (x ∷ xs) placed = finds_next x xs (last_at key (map entry_of xs)) _ refl placed.0 (finds_last xs placed.1)

    -- two lists of the same things find the same
    finds_same : (xs ys : List A) → IsPermutation xs ys → (a b : Option FieldValue) → Finds xs a → Finds ys b → a ≡ b
    finds_same xs ys moved None None h k = refl
    finds_same xs ys moved (Some v) None h k = absurd (All-contains HasOtherKey ys h.one k (Contains-permutation xs ys h.one moved h.inside) h.has_key)
    finds_same xs ys moved None (Some w) h k =
        absurd (All-contains HasOtherKey xs k.one h (Contains-permutation ys xs k.one (IsPermutation-sym xs ys moved) k.inside) k.has_key)
    finds_same xs ys moved (Some v) (Some w) h k =
        let below = All-contains (IsUpTo k.one) ys h.one k.others (Contains-permutation xs ys h.one moved h.inside) h.has_key in
        let above = All-contains (IsUpTo h.one) xs k.one h.others (Contains-permutation ys xs k.one (IsPermutation-sym xs ys moved) k.inside) k.has_key in
        ap Some (sym h.value_is ∙ ap (λ x. (entry_of x).1) (same_one h.one k.one below above) ∙ k.value_is)

  -- a table that is settled from things in one placed order is settled from them in another
  pub settled_in_order : (table : List Entry) (xs ys : List A) → IsPermutation xs ys → ArePlaced key_of place xs → ArePlaced key_of place ys
      → IsSettled table (map entry_of ys) → IsSettled table (map entry_of xs)
  settled_in_order table xs ys moved one two h =
      record { rising = h.rising; last = λ key. h.last key ∙ sym (finds_same key xs ys moved _ _ (finds_last key xs one) (finds_last key ys two)) }
