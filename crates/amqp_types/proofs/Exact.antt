-- What follows of any encoding that a decoding function takes exactly.
use Rattle.std.proofs.Common.{◌≡◌, ℕ, List, [], ◌++◌, length, append-nil, sym, ap, subst, ◌∙◌, arith}
use Rattle.std.proofs.lemmas.List.{length-append, nil_from_length}
use Rattle.amqp_types.specs.Judging.{Judged, Judge, took, IsExact}

abbrev value_or : {A : Type 0} → A → Judged A → A
value_or other (took x n) = x
value_or other j = other

abbrev count_of : {A : Type 0} → Judged A → ℕ
count_of (took x n) = n
count_of j = 0

pub took_value : {A : Type 0} (j : Judged A) (x y : A) (n k : ℕ) → j ≡ took x n → j ≡ took y k → x ≡ y
took_value j x y n k p q = ap (value_or x) (sym p ∙ q)

-- A decoded value takes one number of bytes only.
pub took_count : {A : Type 0} (j : Judged A) (x y : A) (n k : ℕ) → j ≡ took x n → j ≡ took y k → n ≡ k
took_count j x y n k p q = ap count_of (sym p ∙ q)

-- no bytes encode two
pub one_meaning : {A : Type 0} (judge : Judge A) (Spells : List ℕ → A → Type 0)
    → IsExact judge Spells → (bytes : List ℕ) (x y : A) → Spells bytes x → Spells bytes y → x ≡ y
one_meaning judge Spells exact bytes x y p q =
    took_value (judge (bytes ++ [])) x y (length bytes) (length bytes) (exact.taken bytes [] x p) (exact.taken bytes [] y q)

-- no encoding begins another
pub none_begins : {A : Type 0} (judge : Judge A) (Spells : List ℕ → A → Type 0) → IsExact judge Spells
    → (bytes rest : List ℕ) (x y : A) → Spells bytes x → Spells (bytes ++ rest) y → rest ≡ []
none_begins judge Spells exact bytes rest x y p q =
    let longer : judge (bytes ++ rest) ≡ took y (length (bytes ++ rest)) =
    subst (λ (all : List ℕ). judge all ≡ took y (length (bytes ++ rest))) (append-nil (bytes ++ rest)) (exact.taken (bytes ++ rest) [] y q) in
    let same : length bytes ≡ length (bytes ++ rest) =
    took_count (judge (bytes ++ rest)) x y (length bytes) (length (bytes ++ rest)) (exact.taken bytes rest x p) longer in
    nil_from_length rest (omega (arith, length-append bytes rest))
