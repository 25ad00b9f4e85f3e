-- How properties are encoded, at each level.
use Rattle.std.specs.Prelude.{◌≡◌, ◌<◌, ◌^◌, ℕ, List, [], ◌∷◌, ◌++◌}
use Rattle.std.specs.Prelude.{Bool, true, false, Option, None}
use Rattle.amqp_types.specs.Levels.{Level}
use Rattle.amqp_types.specs.Sequences.{SpellsMapped, SpellsBoth}
use Rattle.amqp_types.specs.Numbers.{bytes2, number_bytes}
use Rattle.amqp_types.specs.Flags.{flag_at, FromTidy}
use Rattle.amqp_types.specs.Slots.{Item, Form}
use Rattle.amqp_types.specs.SlotSpelling.{SpellsForm}
use Rattle.amqp_types.specs.Properties.{Property, properties}
use Rattle.amqp_types.specs.PropertyJudging.{first_item}

-- a form that is there or not
abbrev pub SpellsOptional : Level → Bool → Form → List ℕ → Option Item → Type 0
SpellsOptional level true form bytes option =
    SpellsMapped (SpellsForm level form) first_item bytes option
SpellsOptional level false form bytes option = (bytes ≡ []) × (option ≡ None)

-- properties one after another, each of which is there exactly where its bit is set in the mask
abbrev pub SpellsSet : Level → ℕ → List Property → List ℕ → List (Option Item) → Type 0
SpellsSet level mask [] bytes options = (bytes ≡ []) × (options ≡ [])
SpellsSet level mask (p ∷ ps) bytes options =
    SpellsBoth (SpellsOptional level (flag_at mask p.bit) p.form)
    (SpellsSet level mask ps) (λ option others. option ∷ others) bytes options

-- A mask, and the properties that it says are set. From level tidy on its unused bits, 1
-- and 0, are zero.
pub record SpellsProperties (level : Level) (bytes : List ℕ)
    (options : List (Option Item)) : Type 0 where
  pub mask : ℕ
  pub behind : List ℕ
  pub fits : mask < 2 ^ 16
  pub bytes_are : bytes ≡ number_bytes bytes2 mask ++ behind
  pub set : SpellsSet level mask properties behind options
  pub unused : FromTidy level ((flag_at mask 1 ≡ false) × (flag_at mask 0 ≡ false))
