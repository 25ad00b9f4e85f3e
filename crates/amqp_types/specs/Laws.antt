-- The laws of truth values.
use Rattle.std.specs.Prelude.{◌≡◌, ℕ, ◌≤◌, ◌↔◌, Bool, List, length}
use Rattle.amqp_types.specs.Levels.{plain, tidy, strict}
use Rattle.amqp_types.specs.Judging.{IsExact}
use Rattle.amqp_types.specs.Booleans.{boolean_bytes, SpellsBoolean, judge_boolean}

-- Decoding is exact at level plain, the canonical byte is the one strict encoding and a shortest
-- one, and each level is within the one before.
pub record BooleansSpell : Type 0 where
  pub exact : IsExact judge_boolean (SpellsBoolean plain)
  pub canonical : (bytes : List ℕ) (b : Bool)
      → SpellsBoolean strict bytes b ↔ (bytes ≡ boolean_bytes b)
  pub strict_is_tidy : (bytes : List ℕ) (b : Bool)
      → SpellsBoolean strict bytes b → SpellsBoolean tidy bytes b
  pub tidy_is_plain : (bytes : List ℕ) (b : Bool)
      → SpellsBoolean tidy bytes b → SpellsBoolean plain bytes b
  pub shortest : (bytes : List ℕ) (b : Bool) → SpellsBoolean plain bytes b
      → length (boolean_bytes b) ≤ length bytes
