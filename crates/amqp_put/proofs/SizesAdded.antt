-- Sizes as plain numbers: they are added, and then tested once.
use Rattle.std.proofs.Common.{◌≡◌, ℕ, ◌+◌, ◌^◌, ◌<◌, ◌≤◌, nat_lt, Bool, true, false, List, [], ◌++◌, length, Option, Some, None, Ok, refl, ap, subst}
use Rattle.std.proofs.Common.{arith, if◌then◌else◌}
use Rattle.std.proofs.lemmas.Bool.Decides.{nat_tests}
use Rattle.std.proofs.lemmas.List.{length-append}
use Rattle.amqp_entries.specs.Flaws.{first_of}
use Rattle.amqp_entries.specs.Sizes.{IsSize}
use Rattle.amqp_put.specs.Made.{size_flaw}
use Rattle.amqp_put.specs.Properties.{size_after}
use Rattle.amqp_put.specs.Refusals.{refusal_of}
use Rattle.amqp_put.specs.Sizes.{IsSizeAfter}
use Rattle.amqp_entries.specs.declared.errors.PutError.{PutError}
use Rattle.amqp_entries.specs.declared.errors.PutError.TheVariants as errors

-- a size after those before it
pub one_size : (before : ℕ) (flaw : Option PutError) (bytes : List ℕ) (n : ℕ) → IsSize flaw bytes n → IsSizeAfter before flaw bytes (before + n)
one_size before flaw bytes n is = record { own = n; sum = refl; is = is }

-- nothing after those before it
pub no_size : (before : ℕ) → IsSizeAfter before None [] before
no_size before = record { own = 0; sum = omega arith; is = refl }

both_sizes : (f g : Option PutError) (a b : List ℕ) (n m : ℕ) → IsSize f a n → IsSize g b m → IsSize (first_of f g) (a ++ b) (n + m)
both_sizes None None a b n m one two = omega (arith, one, two, length-append a b)
both_sizes None (Some refusal) a b n m one two = omega (arith, two)
both_sizes (Some refusal) g a b n m one two = omega (arith, one)

-- sizes are added: what has a flaw makes the sum too large
pub both_after : (before : ℕ) (f g : Option PutError) (a b : List ℕ) (n m : ℕ) → IsSizeAfter before f a n → IsSizeAfter n g b m
    → IsSizeAfter before (first_of f g) (a ++ b) m
both_after before f g a b n m one two =
    record { own = one.own + two.own; sum = omega (arith, one.sum, two.sum); is = both_sizes f g a b one.own two.own one.is two.is }

sized_by : (k : ℕ) (flaw : Option PutError) (bytes : List ℕ) (n own : ℕ) → n ≡ k + own → IsSize flaw bytes own → n < 2 ^ 32 → Ok n ≡ size_after k flaw bytes
sized_by k None bytes n own sum is few = ap Ok (omega (arith, sum, is))
sized_by k (Some refusal) bytes n own sum is few = absurd (omega (arith, sum, is, few))

-- a size that a frame may have is the number of bytes, which have no flaw
pub sized : (k : ℕ) (flaw : Option PutError) (bytes : List ℕ) (n : ℕ) → IsSizeAfter k flaw bytes n → n < 2 ^ 32 → Ok n ≡ size_after k flaw bytes
sized k flaw bytes n h few = sized_by k flaw bytes n h.own h.sum h.is few

by_room : (n max room : ℕ) (short : Bool) → nat_lt room (n + 8) ≡ short → n ≤ max → ¬ ((n ≤ max) × (n + 8 ≤ room))
    → (if short then Some (errors.BufferTooSmall (n + 8)) else None) ≡ Some (errors.BufferTooSmall (n + 8))
by_room n max room true e within never = refl
by_room n max room false e within never = absurd (never (within, grind (arith, nat_tests)))

by_limit : (n max room : ℕ) (over : Bool) → nat_lt max n ≡ over → ¬ ((n ≤ max) × (n + 8 ≤ room))
    → (if over then Some errors.TooLarge else (if nat_lt room (n + 8) then Some (errors.BufferTooSmall (n + 8)) else None))
    ≡ Some (if over then errors.TooLarge else errors.BufferTooSmall (n + 8))
by_limit n max room true e never = refl
by_limit n max room false e never = by_room n max room (nat_lt room (n + 8)) refl (grind (arith, nat_tests)) never

refused_by : (k : ℕ) (flaw : Option PutError) (bytes : List ℕ) (n own size max room : ℕ) → n ≡ k + own → IsSize flaw bytes own → size ≡ k + length bytes
    → ¬ ((n ≤ max) × (n + 8 ≤ room)) → first_of flaw (size_flaw size max room) ≡ Some (refusal_of flaw (k + length bytes) max)
refused_by k None bytes n own size max room sum is len never =
    let all : n ≡ k + length bytes = omega (arith, sum, is) in
    let P : ℕ → Type 0 = λ m. ¬ ((m ≤ max) × (m + 8 ≤ room)) in
    rw len (by_limit (k + length bytes) max room (nat_lt max (k + length bytes)) refl (subst P all never))
refused_by k (Some refusal) bytes n own size max room sum is len never = refl

-- a payload that does not fit is refused
pub refused_is : (k : ℕ) (flaw : Option PutError) (bytes : List ℕ) (n size max room : ℕ) → IsSizeAfter k flaw bytes n → size ≡ k + length bytes
    → ¬ ((n ≤ max) × (n + 8 ≤ room)) → first_of flaw (size_flaw size max room) ≡ Some (refusal_of flaw (k + length bytes) max)
refused_is k flaw bytes n size max room h len never = refused_by k flaw bytes n h.own size max room h.sum h.is len never
