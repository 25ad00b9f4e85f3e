-- The laws of properties, and of lists of optional forms.
use Rattle.std.specs.Prelude.{◌≡◌, ℕ, ◌&&◌, List, [], ◌∷◌, ◌++◌, length, Bool, true}
use Rattle.std.specs.Prelude.{false, Option, Some, None, Ok}
use Rattle.amqp_types.specs.Levels.{Level}
use Rattle.amqp_types.specs.Judging.{took}
use Rattle.amqp_types.specs.FormLaws.{IsLawful}
use Rattle.amqp_types.specs.Slots.{Item, Form, flags_form}
use Rattle.amqp_types.specs.SlotLaws.{IsFormHeld}
use Rattle.amqp_types.specs.Properties.{Property, properties}
use Rattle.amqp_types.specs.PropertyJudging.{judge_set, judge_properties}
use Rattle.amqp_types.specs.PropertyBytes.{set_bytes, properties_bytes, any_deep_option}
use Rattle.amqp_types.specs.PropertyBytes.{any_long_option, properties_size}
use Rattle.amqp_types.specs.PropertySpelling.{SpellsSet, SpellsProperties}

-- a form that gives one item
abbrev pub gives_one : Form → Bool
gives_one (flags_form count) = false
gives_one form = true

-- each of the properties has a form that gives one item
abbrev pub give_one : List Property → Bool
give_one [] = true
give_one (p ∷ ps) = gives_one p.form && give_one ps

-- whatever the mask, and whatever the properties, so long as each gives one item
abbrev pub SetsAreLawful : Type 0
SetsAreLawful =
    (mask : ℕ) (ps : List Property) → give_one ps ≡ true
    → IsLawful (judge_set mask ps) (λ level. SpellsSet level mask ps) (set_bytes ps)

-- The laws of a form of bytes hold of a mask and the properties that it says are set.
abbrev pub PropertiesAreLawful : Type 0
PropertiesAreLawful = IsLawful judge_properties SpellsProperties properties_bytes

-- what is encoded is neither long nor too deep
abbrev pub SpelledPropertiesAreBounded : Type 0
SpelledPropertiesAreBounded =
    (level : Level) (bytes : List ℕ) (options : List (Option Item))
    → SpellsProperties level bytes options
    → (any_deep_option options ≡ false) × (any_long_option options ≡ false)

-- ---- what programs hold

-- an option for each property, of its form
abbrev pub AreOptionsHeld : List Property → List (Option Item) → Type 0
AreOptionsHeld [] [] = Unit {0}
AreOptionsHeld [] (option ∷ options) = ⊥
AreOptionsHeld (p ∷ ps) [] = ⊥
AreOptionsHeld (p ∷ ps) (None ∷ options) = AreOptionsHeld ps options
AreOptionsHeld (p ∷ ps) (Some item ∷ options) =
    IsFormHeld p.form (item ∷ []) × AreOptionsHeld ps options

-- Canonical bytes of properties that are neither long nor too deep are read back, whatever follows.
abbrev pub HeldPropertiesAreReadBack : Type 0
HeldPropertiesAreReadBack =
    (options : List (Option Item)) (rest : List ℕ) → AreOptionsHeld properties options
    → properties_size options ≡ Ok (length (properties_bytes options))
    → judge_properties (properties_bytes options ++ rest)
    ≡ took options (length (properties_bytes options))
