-- Truth values are read as they are written.
use Rattle.std.proofs.Common.{◌≡◌, ℕ, ◌≤◌, Bool, true, false, eqb, not, List, [], ◌∷◌, ◌++◌, length, take, refl, ap, subst, arith, inl, inr}
use Rattle.std.proofs.lemmas.Bool.{cases_eq, eq-eqb, ne_eqb}
use Rattle.amqp_types.specs.Levels.{plain, tidy, strict}
use Rattle.amqp_types.specs.Judging.{took, IsBytes}
use Rattle.amqp_types.specs.Booleans.{boolean_bytes, SpellsBoolean, judge_boolean}
use Rattle.amqp_types.specs.Laws.{BooleansSpell}

boolean_of : (b : ℕ) (x : Bool) → not (eqb b 0) ≡ x → SpellsBoolean plain (b ∷ []) x
boolean_of b true e = (b, (λ zero. absurd (let h = rw (eq-eqb b 0 zero) at e in cc)), refl)
boolean_of b false e = elim (cases_eq b 0) [
  | inl zero ↦ ap (λ (n : ℕ). n ∷ []) zero
  | inr other ↦ absurd (let h = rw (ne_eqb b 0 other) at e in cc)
]

boolean_spelled : (bytes : List ℕ) (x : Bool) (n : ℕ) → IsBytes bytes
    → judge_boolean bytes ≡ took x n → SpellsBoolean plain (take n bytes) x × (n ≤ length bytes)
boolean_spelled [] x n fits e = absurd cc
boolean_spelled (b ∷ bytes) x n fits e =
    let one : 1 ≡ n = cc in
    let value : not (eqb b 0) ≡ x = cc in
    (subst (λ (k : ℕ). SpellsBoolean plain (take k (b ∷ bytes)) x) one (boolean_of b x value), omega (arith, one))

boolean_taken : (bytes rest : List ℕ) (x : Bool) → SpellsBoolean plain bytes x → judge_boolean (bytes ++ rest) ≡ took x (length bytes)
boolean_taken bytes rest true h = rw h.2 (rw (ne_eqb h.0 0 h.1) refl)
boolean_taken bytes rest false h = rw h refl

shortest : (bytes : List ℕ) (b : Bool) → SpellsBoolean plain bytes b → length (boolean_bytes b) ≤ length bytes
shortest bytes true h = omega (arith, ap length h.2)
shortest bytes false h = omega (arith, ap length h)

canonical : (bytes : List ℕ) (b : Bool) → (SpellsBoolean strict bytes b → bytes ≡ boolean_bytes b) × (bytes ≡ boolean_bytes b → SpellsBoolean strict bytes b)
canonical bytes true = (λ h. h, λ h. h)
canonical bytes false = (λ h. h, λ h. h)

strict_is_tidy : (bytes : List ℕ) (b : Bool) → SpellsBoolean strict bytes b → SpellsBoolean tidy bytes b
strict_is_tidy bytes true h = (1, (λ e. absurd (omega arith)), h)
strict_is_tidy bytes false h = h

tidy_is_plain : (bytes : List ℕ) (b : Bool) → SpellsBoolean tidy bytes b → SpellsBoolean plain bytes b
tidy_is_plain bytes true h = h
tidy_is_plain bytes false h = h

-- Decoding truth values is exact, the canonical byte is the one strict encoding and a shortest one, and each level is within the one before.
pub boolean_laws : BooleansSpell
boolean_laws = record {
  exact = record { spelled = boolean_spelled; taken = boolean_taken };
  canonical = canonical;
  strict_is_tidy = strict_is_tidy;
  tidy_is_plain = tidy_is_plain;
  shortest = shortest;
}
