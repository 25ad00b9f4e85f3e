-- Bytes that are counted one after another.
use Rattle.amqp_fields_write.proofs
use proofs.Names.{◌≡◌, ℕ, ◌+◌, ◌<◌, ◌≤◌, Bool, true, false, List, [], ◌∷◌, ◌++◌, length, Result, Ok, Err, refl, sym, ap, ◌∙◌, arith, nat_lt, append_assoc}
use proofs.Names.{append-nil, numbers, IsErrAnd, length-append, Node, IsCounted, Measures, cut_long, made_group, made_item, made_key}
use Rattle.amqp_fields_write.specs.Made.{after, closed, made_each, made_entry, made_items, made_value, own_index}

-- the test for less fails where the second number is at most the first
pub not_lt : (a b : ℕ) → b ≤ a → nat_lt a b ≡ false
not_lt a b le = grind numbers

cut_sum : (a b : List ℕ) (n m total : ℕ) → n ≡ cut_long (length a) → m ≡ cut_long (length b) → total ≡ cut_long (n + m) → total ≡ cut_long (length (a ++ b))
cut_sum a b n m total one two sum = let size = length-append a b in grind (numbers, one, two, sum, size)

-- two parts
pub both_counted : {E : Type 0} {first second : Result (List ℕ) E} {n m total : ℕ} → IsCounted first n → IsCounted second m
    → total ≡ cut_long (n + m) → IsCounted (after first second) total
both_counted {E} {first} {second} {n} {m} {total} one two sum = record {
  bytes = one.bytes ++ two.bytes;
  is = rw (one.is, two.is);
  count_is = cut_sum one.bytes two.bytes n m total one.count_is two.count_is sum;
}

-- a part behind so many bytes
pub counted_after : {E : Type 0} (first : List ℕ) {second : Result (List ℕ) E} {m total : ℕ} → IsCounted second m
    → total ≡ cut_long (length first + m) → IsCounted (after (Ok first) second) total
counted_after first {second} {m} {total} two sum =
    record { bytes = first ++ two.bytes; is = rw two.is; count_is = grind (numbers, two.count_is, sum, length-append first two.bytes) }

-- where a first part was made, a refusal of the second is one of the whole
pub second_refused : {E : Type 0} (first second : Result (List ℕ) E) (n : ℕ) (bad : E) → IsCounted first n → second ≡ Err bad → after first second ≡ Err bad
second_refused first second n bad one is = rw (one.is, is)

-- a refusal that is passed on
pub passed : {E : Type 0} {made : Result (List ℕ) E} (bad : E) (result : Result ℕ E) → made ≡ Err bad → IsErrAnd result (λ x. x ≡ bad) → Measures made result
passed bad (Ok n) is h = absurd h
passed bad (Err e) is h = is ∙ ap Err (sym h)

-- ---- what is left decides

-- some bytes were counted, and what is left decides
pub record Onward {E : Type 0} (whole rest : Result (List ℕ) E) (made : ℕ) : Type 0 where
  pub done : List ℕ
  pub so_far : whole ≡ after (Ok done) rest
  pub count_is : made ≡ cut_long (length done)

pub after_none : {E : Type 0} (made : Result (List ℕ) E) → made ≡ after (Ok []) made
after_none (Ok bytes) = refl
after_none (Err bad) = refl

after_after : {E : Type 0} (a b : List ℕ) (c : Result (List ℕ) E) → after (Ok a) (after (Ok b) c) ≡ after (Ok (a ++ b)) c
after_after a b (Ok c) = ap Ok (sym (append_assoc a b c))
after_after a b (Err bad) = refl

-- before the first step nothing is counted
pub begins : {E : Type 0} (whole : Result (List ℕ) E) → Onward whole whole 0
begins whole = record { done = []; so_far = after_none whole; count_is = refl }

-- what is made next is counted after what was made so far
pub steps : {E : Type 0} {whole rest one next : Result (List ℕ) E} {made n total : ℕ} → Onward whole rest made
    → rest ≡ after one next → IsCounted one n → total ≡ cut_long (made + n) → Onward whole next total
steps {E} {whole} {rest} {one} {next} {made} {n} {total} h parts given sum = record {
  done = h.done ++ given.bytes;
  so_far = h.so_far ∙ ap (after (Ok h.done)) (parts ∙ ap (λ made. after made next) given.is) ∙ after_after h.done given.bytes next;
  count_is = cut_sum h.done given.bytes made n total h.count_is given.count_is sum;
}

-- a refusal of what is left is one of the whole
pub stops : {E : Type 0} {whole rest : Result (List ℕ) E} {made : ℕ} (bad : E) → Onward whole rest made → rest ≡ Err bad → whole ≡ Err bad
stops bad h is = h.so_far ∙ rw is

-- a refusal of what is made next is one of the whole
pub stops_at : {E : Type 0} {whole rest one : Result (List ℕ) E} {made : ℕ} (next : Result (List ℕ) E) (bad : E) → Onward whole rest made
    → rest ≡ after one next → one ≡ Err bad → whole ≡ Err bad
stops_at next bad h parts is = stops bad h (parts ∙ rw is)

-- where nothing is left, all of it was counted
pub ends : {E : Type 0} {whole rest : Result (List ℕ) E} {made : ℕ} → Onward whole rest made → rest ≡ Ok [] → IsCounted whole made
ends h is = record { bytes = h.done; is = h.so_far ∙ rw (is, append-nil h.done); count_is = h.count_is }

-- ---- tables and arrays

-- an item is its key, where it is an entry, and its value
pub item_parts : (entries : Bool) (pool : List ℕ) (depth_left end : ℕ) (node : Node) (inside : List Node)
    → made_item entries pool depth_left end node inside
    ≡ after (made_key entries pool (own_index end inside) node) (made_value pool depth_left end node inside)
unfolding made_entry
item_parts true pool depth_left end node inside = refl
item_parts false pool depth_left end node inside = after_none _

-- where something lies inside, it is that
pub group_inside : (entries : Bool) (pool : List ℕ) (depth_left end : ℕ) (node : Node) (inside : List Node) → 0 < length inside
    → made_group entries pool depth_left end node inside
    ≡ closed (own_index end inside) (made_each (made_item entries pool depth_left) end 0 inside)
unfolding made_items
group_inside entries pool depth_left end node [] some = absurd (omega (arith, some))
group_inside true pool depth_left end node (first ∷ others) some = refl
group_inside false pool depth_left end node (first ∷ others) some = refl
