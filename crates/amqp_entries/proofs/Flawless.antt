-- Content that has no flaw.
use Rattle.std.proofs.Common.{◌≡◌, ℕ, ◌<◌, ◌^◌, nat_le, List, length, Bool, true, false, None, Result, Ok, Err, refl, ap, arith}
use Rattle.std.proofs.lemmas.Bool.Decides.{nat_tests}
use Rattle.amqp_types.specs.Judging.{Fault}
use Rattle.amqp_laws.proofs.Bounded.{below_limit}
use Rattle.amqp_canonical.specs.Writes.{IsFilled, items_of}
use Rattle.amqp_entries.specs.Flaws.{content_flaw, fault_flaw}

-- it is counted in four bytes, and was decoded
pub record IsFlawless {A : Type 0} (content : List ℕ) (read : Result A Fault) : Type 0 where
  pub few : length content < 2 ^ 32
  pub thing : A
  pub is : read ≡ Ok thing

not_over : (n : ℕ) → nat_le (2 ^ 32) n ≡ false → n < 2 ^ 32
not_over n h = grind (arith, nat_tests)

no_fault : {A : Type 0} (content : List ℕ) (read : Result A Fault) → length content < 2 ^ 32 → fault_flaw read ≡ None → IsFlawless content read
no_fault content (Ok x) few h = record { few = few; thing = x; is = refl }
no_fault content (Err bad) few h = absurd cc

by_length : {A : Type 0} (content : List ℕ) (read : Result A Fault) (long : Bool) → nat_le (2 ^ 32) (length content) ≡ long → content_flaw content read ≡ None
    → IsFlawless content read
by_length content read true e h = let f = rw e at h in absurd cc
by_length content read false e h = no_fault content read (not_over (length content) e) (rw e at h)

-- content without a flaw is short enough and decoded
pub flawless : {A : Type 0} (content : List ℕ) (read : Result A Fault) → content_flaw content read ≡ None → IsFlawless content read
flawless content read h = by_length content read (nat_le (2 ^ 32) (length content)) refl h

-- short content that is decoded has no flaw
pub no_flaw : {A : Type 0} (content : List ℕ) (read : Result A Fault) (x : A) → length content < 2 ^ 32 → read ≡ Ok x → content_flaw content read ≡ None
no_flaw content read x few h = let e = below_limit (length content) few in rw e (ap fault_flaw h)

-- what was decoded is filled
pub is_filled : {A : Type 0} (read : Result (List A) Fault) (xs : List A) → read ≡ Ok xs → IsFilled read
is_filled (Ok ys) xs h = tt
is_filled (Err bad) xs h = absurd cc

-- what is filled was decoded to its items
pub filled_is : {A : Type 0} (read : Result (List A) Fault) → IsFilled read → read ≡ Ok (items_of read)
filled_is (Ok xs) h = refl
filled_is (Err bad) h = absurd h
