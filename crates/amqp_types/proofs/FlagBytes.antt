-- Flags of a byte, one after another.
use Rattle.std.proofs.Common.{◌≡◌, ℕ, zero, suc, ◌+◌, Bool, List, [], ◌∷◌, ◌++◌, length, refl, ap, ◌∙◌, arith}
use Rattle.amqp_types.specs.Flags.{flag_at, flags_from}

-- A count of flags read from a byte are as many flags.
pub flags_from_length : (count k byte : ℕ) → length (flags_from count k byte) ≡ count
flags_from_length zero k byte = refl
flags_from_length (suc count) k byte = ap suc (flags_from_length count (k + 1) byte)

-- one flag more
next : (count k byte : ℕ) → flags_from (suc count) k byte ≡ flags_from count k byte ++ flag_at byte (k + count) ∷ []
next zero k byte = let here : k ≡ k + 0 = omega arith in ap (λ (i : ℕ). flag_at byte i ∷ []) here
next (suc count) k byte =
    let later : k + 1 + count ≡ k + suc count = omega arith in
    ap (λ (fs : List Bool). flag_at byte k ∷ fs) (next count (k + 1) byte ∙ ap (λ (i : ℕ). flags_from count (k + 1) byte ++ flag_at byte i ∷ []) later)

-- One flag more of a byte is the next higher bit, after the flags before it.
pub flags_from_next : (count byte : ℕ) → flags_from (count + 1) 0 byte ≡ flags_from count 0 byte ++ flag_at byte count ∷ []
flags_from_next count byte =
    let more : count + 1 ≡ suc count = omega arith in
    let here : 0 + count ≡ count = omega arith in
    ap (λ (n : ℕ). flags_from n 0 byte) more ∙ next count 0 byte ∙ ap (λ (i : ℕ). flags_from count 0 byte ++ flag_at byte i ∷ []) here
