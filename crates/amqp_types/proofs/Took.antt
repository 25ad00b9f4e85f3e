-- What the steps of a decoding function took, where all of it took something.
use Rattle.std.proofs.Common.{◌≡◌, ℕ, Bool, true, false, cond, refl}
use Rattle.amqp_types.specs.Judging.{Judged, Fault, took, past, fault, ◌>>=◌}

-- Where two steps took something, the first one did, and the second one on what the first one took.
pub bind_took : {A B : Type 0} (j : Judged A) (f : A × ℕ → Judged B) (y : B) (m : ℕ)
    → (j >>= f) ≡ took y m → (x : A) × (n : ℕ) × (j ≡ took x n) × (f (x, n) ≡ took y m)
bind_took (took x n) f y m h = (x, n, refl, h)
bind_took past f y m h = cc
bind_took (fault bad) f y m h = cc

-- Where a step that asks for enough bytes took something, enough bytes were there, and the step itself took it.
pub guard_took : {B : Type 0} (short : Bool) (j : Judged B) (y : B) (m : ℕ) → cond short past j ≡ took y m → (short ≡ false) × (j ≡ took y m)
guard_took true j y m h = cc
guard_took false j y m h = (refl, h)

-- Where a tested step took something, its test was true, and the step itself took it.
pub test_took : {B : Type 0} (right : Bool) (j : Judged B) (bad : Fault) (y : B) (m : ℕ) → cond right j (fault bad) ≡ took y m → (right ≡ true) × (j ≡ took y m)
test_took true j bad y m h = (refl, h)
test_took false j bad y m h = cc

-- Two that took the same took the same value.
pub value_took : {B : Type 0} (x y : B) (n m : ℕ) → took x n ≡ took y m → x ≡ y
value_took x y n m h = cc

-- Two that took the same took the same number of bytes.
pub count_took : {B : Type 0} (x y : B) (n m : ℕ) → took x n ≡ took y m → n ≡ m
count_took x y n m h = cc
