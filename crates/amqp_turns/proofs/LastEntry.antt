-- What channels have, by the entry that lies apart and the others.
use Rattle.std.proofs.Common.{◌≡◌, ◌≢◌, ℕ, Bool, true, false, cond, eqb, List, [], length, arith, refl, sym, ap, subst, ◌∙◌, ◌+◌, ◌≤◌, ◌∷◌, lit≤, add_comm}
use Rattle.std.proofs.Common.{add_assoc, zero-add, Option, Some, None, min, inl, inr}
use mir.Val.{bool_byte}
use Rattle.std.proofs.lemmas.Bool.{eqb-true, eq-eqb, ne_eqb, cases_lt, cases_Bool}
use Rattle.std.proofs.lemmas.List.Sums.{sum_by-cons}
use Rattle.std.specs.Option.{option_map}
use Rattle.std.specs.Prelude.{IsSome}
use Rattle.std.specs.Ordering.{nat_cmp}
use Rattle.std.specs.Map.{keys_of, values_of, set_value}
use Rattle.std.specs.List.{count_by}
use Rattle.std.specs.List.Sorted.{IsStrictlySortedBy}
use Rattle.std.specs.BTreeMap.{is_at, insert_entry}
use Rattle.amqp_turns.specs.declared.channels.Entry.{Entry}
use Rattle.amqp_turns.specs.Stands.{kept_at, OthersStay, NoneIsBelow}
use Rattle.amqp_turns.specs.LastEntry.{is_of, takes, with_last, with_value, IsApart}
use Rattle.amqp_turns.proofs.Entries.{kept-insert_same, kept-insert_other, set-insert_same, set-insert_other, kept-set_none, some_inserted, sorted-insert}
use Rattle.amqp_turns.proofs.Entries.{count-insert}

other_than : (k q : ℕ) → eqb k q ≡ false → q ≢ k
other_than k q e same = let t = eq-eqb k q (sym same) in cc

module _ {T : Type 0} where
  abbrev value_in : Option (Entry T) → Option T
  value_in last = option_map (λ entry. entry.value) last

  kept-with_last : (last : Option (Entry T)) (others : List (ℕ × T)) (q : ℕ)
      → kept_at (with_last last others) q ≡ cond (is_of last q) (value_in last) (kept_at others q)
  kept-with_last None others q = refl
  kept-with_last (Some entry) others q = elim (cases_Bool (eqb entry.channel_id q)) [
    | inl e ↦ rw e (ap (λ k. kept_at (insert_entry nat_cmp others k entry.value) q) (eqb-true entry.channel_id q e) ∙ kept-insert_same others q entry.value)
    | inr e ↦ rw e (kept-insert_other others entry.channel_id entry.value q (other_than entry.channel_id q e))
  ]

  is_of-other : (last : Option (Entry T)) (channel other : ℕ) → is_of last channel ≡ true → other ≢ channel → is_of last other ≡ false
  is_of-other None channel other of ne = refl
  is_of-other (Some entry) channel other of ne = ne_eqb entry.channel_id other (λ same. ne (sym same ∙ eqb-true entry.channel_id channel of))

  set_of : (last : Option (Entry T)) (others : List (ℕ × T)) (channel : ℕ) (w : T) → is_of last channel ≡ true
      → with_last (with_value last w) others ≡ set_value (is_at (nat_cmp channel)) (with_last last others) w
  set_of None others channel w of = absurd cc
  set_of (Some entry) others channel w of =
      rw (eqb-true entry.channel_id channel of) (sym (set-insert_same others channel entry.value w))

  set_beside : (last : Option (Entry T)) (others : List (ℕ × T)) (channel : ℕ) (w : T) → is_of last channel ≡ false
      → with_last last (set_value (is_at (nat_cmp channel)) others w) ≡ set_value (is_at (nat_cmp channel)) (with_last last others) w
  set_beside None others channel w apart = refl
  set_beside (Some entry) others channel w apart =
      sym (set-insert_other others entry.channel_id channel entry.value w (other_than entry.channel_id channel apart))

  sorted_all : (last : Option (Entry T)) (others : List (ℕ × T)) → IsStrictlySortedBy nat_cmp (keys_of others)
      → IsStrictlySortedBy nat_cmp (keys_of (with_last last others))
  sorted_all None others sorted = sorted
  sorted_all (Some entry) others sorted = sorted-insert others entry.channel_id entry.value sorted

  pub is_of-not_taken : (last : Option (Entry T)) (others : List (ℕ × T)) (channel : ℕ) → takes last others channel ≡ false → is_of last channel ≡ false
  is_of-not_taken None others channel e = refl
  is_of-not_taken (Some entry) others channel e = e

  none_kept : (others : List (ℕ × T)) (channel : ℕ) → eqb (length others) 0 ≡ true → kept_at others channel ≡ None
  none_kept [] channel e = refl
  none_kept (e ∷ es) channel none = absurd (omega (arith, eqb-true (length (e ∷ es)) 0 none))

  -- where the channel's entry lies apart, or may at once, the others have none
  pub apart_taken : (last : Option (Entry T)) (others : List (ℕ × T)) (channel : ℕ)
      → takes last others channel ≡ true → IsApart last others → kept_at others channel ≡ None
  apart_taken None others channel e apart = none_kept others channel e
  apart_taken (Some entry) others channel e apart = ap (kept_at others) (sym (eqb-true entry.channel_id channel e)) ∙ apart

  others_taken : (last : Option (Entry T)) (others : List (ℕ × T)) (channel : ℕ)
      → takes last others channel ≡ true → OthersStay channel (with_last last others) others
  others_taken None others channel e = λ other ne. refl
  others_taken (Some entry) others channel e =
      λ other ne. sym (kept-insert_other others entry.channel_id entry.value other (λ same. ne (same ∙ eqb-true entry.channel_id channel e)))

  -- a value that is written leaves the others apart
  pub apart_set : (last : Option (Entry T)) (others es : List (ℕ × T)) (channel : ℕ) (w : T)
      → IsApart last others → es ≡ set_value (is_at (nat_cmp channel)) others w → IsApart last es
  apart_set None others es channel w apart is = tt
  apart_set (Some entry) others es channel w apart is = rw is (kept-set_none (is_at (nat_cmp channel)) others w entry.channel_id apart)

-- a number that is 1 for true
pub one_is : (b : Bool) → (bool_byte b ≡ cond b 1 0) × (bool_byte b ≤ 1)
one_is true = (refl, lit≤ tt)
one_is false = (refl, lit≤ tt)

-- a value more is looked at
pub counted_more : {T : Type 0} (test : T → Bool) (n m : ℕ) (values rest : List T) (value : T)
    → values ≡ value ∷ rest → m ≡ n + cond (test value) 1 0 → m + count_by test rest ≡ n + count_by test values
counted_more test n m values rest value is more =
    ap (λ k. k + count_by test rest) more ∙ add_assoc n (cond (test value) 1 0) (count_by test rest)
    ∙ ap (λ k. n + k) (sym (sum_by-cons (λ x. cond (test x) 1 0) value rest)) ∙ ap (λ vs. n + count_by test vs) (sym is)

-- all that channels have, as contracts see it
module _ {T : Type 0} (last : Option (Entry T)) (others seen : List (ℕ × T)) (view : with_last last others ≡ seen) where
  kept : (q : ℕ) → cond (is_of last q) (value_in last) (kept_at others q) ≡ kept_at seen q
  kept q = rw (← view) (sym (kept-with_last last others q))

  -- ---- the channel of the entry that lies apart

  -- Where the entry that lies apart is of the channel, its value is kept of the channel.
  pub kept_of : (channel : ℕ) → is_of last channel ≡ true → value_in last ≡ kept_at seen channel
  kept_of channel of = rw of at (kept channel)

  -- Where the entry that lies apart is of the channel, what is kept of other channels is with the other entries.
  pub others_of : (channel : ℕ) → is_of last channel ≡ true → OthersStay channel seen others
  others_of channel of = λ other ne. rw (is_of-other last channel other of ne) at (kept other)

  -- Where the entry that lies apart is of the channel, or there are no entries, what is kept of other channels is with the other entries.
  pub others_of_taken : (channel : ℕ) → takes last others channel ≡ true → OthersStay channel seen others
  others_of_taken channel e = rw (← view) (others_taken last others channel e)

  -- Where the entry that lies apart is of the channel, changing its value sets that of the channel.
  pub set_last : (channel : ℕ) (w : T) → is_of last channel ≡ true → with_last (with_value last w) others ≡ set_value (is_at (nat_cmp channel)) seen w
  set_last channel w of = rw (← view) (set_of last others channel w of)

  -- Where an entry lies apart, the entries are not empty.
  pub some_seen : (entry : Entry T) → last ≡ Some entry → false ≡ eqb (length seen) 0
  some_seen entry is = rw (← view, is) (sym (some_inserted others entry.channel_id entry.value))

  -- ---- the least channel, where an entry lies apart

  own_some : (entry : Entry T) → last ≡ Some entry → IsSome (kept_at seen entry.channel_id)
  own_some entry is = rw (← view, is, kept-insert_same others entry.channel_id entry.value) refl

  other_some : (entry : Entry T) → last ≡ Some entry → (q : ℕ) → IsSome (kept_at others q) → IsSome (kept_at seen q)
  other_some entry is q there = elim (cases_Bool (eqb entry.channel_id q)) [
    | inl e ↦ rw (← kept q, is, e) refl
    | inr e ↦ rw (← kept q, is, e) there
  ]

  -- Of the lesser of its channel and one of which the others keep something, something is kept.
  pub lesser_some : (entry : Entry T) (other n : ℕ) → last ≡ Some entry → IsSome (kept_at others other)
      → n ≡ min other entry.channel_id → IsSome (kept_at seen n)
  lesser_some entry other n is there lesser = elim (cases_lt other entry.channel_id) [
    | inl low ↦ let same : n ≡ other = omega (arith, lesser, low) in rw same (other_some entry is other there)
    | inr high ↦ let same : n ≡ entry.channel_id = omega (arith, lesser, high) in rw same (own_some entry is)
  ]

  -- Nothing is kept below the lesser of its channel and the least of the others.
  pub lesser_least : (entry : Entry T) (other n : ℕ) → last ≡ Some entry → NoneIsBelow others other
      → n ≡ min other entry.channel_id → NoneIsBelow seen n
  lesser_least entry other n is least lesser = λ q some.
      let there = subst (λ (o : Option T). IsSome o) (sym (kept q)) some in
      elim (cases_Bool (is_of last q)) [
        | inl e ↦
            let same : eqb entry.channel_id q ≡ true = sym (ap (λ (o : Option (Entry T)). is_of o q) is) ∙ e in
            omega (arith, lesser, eqb-true entry.channel_id q same)
        | inr e ↦ let found = rw e at there in omega (arith, lesser, least q found)
      ]

  -- ---- all channels

  -- Where the other entries are sorted by channel, each once, all entries are.
  pub sorted_seen : IsStrictlySortedBy nat_cmp (keys_of others) → IsStrictlySortedBy nat_cmp (keys_of seen)
  sorted_seen sorted = rw (← view) (sorted_all last others sorted)

  -- How many values pass a test is 1 or 0 for the entry that lies apart, and their number among the others.
  pub counted_some : (test : T → Bool) (entry : Entry T) (values : List T) (n : ℕ) → last ≡ Some entry
      → IsApart last others → IsStrictlySortedBy nat_cmp (keys_of others) → n ≡ cond (test entry.value) 1 0
      → values ≡ values_of others → n + count_by test values ≡ count_by test (values_of seen)
  counted_some test entry values n is apart sorted one rest =
      rw (← view, is, one, rest) (add_comm (cond (test entry.value) 1 0) (count_by test (values_of others))
      ∙ sym (count-insert test others entry.channel_id entry.value sorted (rw is at apart)))

  -- Where no entry lies apart, how many values pass a test is their number among the others.
  pub counted_none : (test : T → Bool) (values : List T) (n : ℕ) → last ≡ None → n ≡ 0
      → values ≡ values_of others → n + count_by test values ≡ count_by test (values_of seen)
  counted_none test values n is zero rest = rw (← view, is, zero, rest) (zero-add (count_by test (values_of others)))

  -- ---- any other channel

  -- Where the entry that lies apart is of another channel, what is kept of the channel is with the other entries.
  pub kept_beside : (channel : ℕ) → is_of last channel ≡ false → kept_at others channel ≡ kept_at seen channel
  kept_beside channel apart = rw apart at (kept channel)

  -- Where the entry that lies apart is of another channel, setting the value of the channel among the others sets it among all.
  pub set_others : (channel : ℕ) (w : T) → is_of last channel ≡ false → (es : List (ℕ × T))
      → es ≡ set_value (is_at (nat_cmp channel)) others w → with_last last es ≡ set_value (is_at (nat_cmp channel)) seen w
  set_others channel w apart es is = rw (← view, is) (set_beside last others channel w apart)

  -- Where the entry that lies apart is of another channel, what the others keep of the channel is what all keep of it.
  pub kept_with : (channel : ℕ) → is_of last channel ≡ false → (es : List (ℕ × T)) (w : Option T)
      → kept_at es channel ≡ w → kept_at (with_last last es) channel ≡ w
  kept_with channel apart es w is = rw (kept-with_last last es channel, apart) is

  -- Other entries that change for one channel only change all entries for this channel only.
  pub others_beside : (channel : ℕ) (es : List (ℕ × T)) → OthersStay channel others es → OthersStay channel seen (with_last last es)
  others_beside channel es stay = λ other ne. rw (kept-with_last last es other, stay other ne) (kept other)
