-- Truth values, one byte each (AMQP 0-9-1, section 4.2.1).
use Rattle.std.specs.Prelude.{◌≡◌, ◌≢◌, ℕ, ◌==◌, Bool, true, false, not, List, [], ◌∷◌}
use Rattle.amqp_types.specs.Levels.{Level, plain, tidy, strict}
use Rattle.amqp_types.specs.Judging.{Judge, took, past}

-- the canonical byte
abbrev pub boolean_bytes : Bool → List ℕ
boolean_bytes true = 1 ∷ []
boolean_bytes false = 0 ∷ []

-- True is any byte but 0, and written as 1.
abbrev pub SpellsBoolean : Level → List ℕ → Bool → Type 0
SpellsBoolean plain bytes true = (b : ℕ) × (b ≢ 0) × (bytes ≡ b ∷ [])
SpellsBoolean tidy bytes true = (b : ℕ) × (b ≢ 0) × (bytes ≡ b ∷ [])
SpellsBoolean strict bytes true = bytes ≡ 1 ∷ []
SpellsBoolean level bytes false = bytes ≡ 0 ∷ []

-- 0 is false and any other byte is true; where no byte is left, this is incomplete
abbrev pub judge_boolean : Judge Bool
judge_boolean [] = past
judge_boolean (b ∷ bytes) = took (not (b == 0)) 1
