-- The mask of properties that are written.
use Rattle.std.proofs.Common.{◌≡◌, ℕ, zero, suc, ◌+◌, ◌*◌, ◌/◌, ◌^◌, ◌<◌, ◌≤◌, List, [], ◌∷◌, length, Option, Some, None, is_some}
use Rattle.std.proofs.Common.{if◌then◌else◌, refl, ap, ap₂, ◌∙◌, arith}
use Rattle.amqp_types.specs.Slots.{Item, Form}
use Rattle.amqp_types.specs.PropertyBytes.{worth_of, mask_of}
use Rattle.amqp_put.specs.Properties.{from_bit}

worth_is : (worth : ℕ) (option : Option Item) → (if is_some option then worth else 0) ≡ worth_of worth option
unfolding worth_of
worth_is worth None = refl
worth_is worth (Some item) = refl

-- no properties have no bit
pub mask_none : (bit : ℕ) → 0 ≡ mask_of (from_bit bit []) []
unfolding mask_of
mask_none bit = refl

twice : (b : ℕ) → 2 ^ suc b ≡ 2 * 2 ^ b
twice b = grind arith

halved : (b : ℕ) → 2 ^ suc b / 2 ≡ 2 ^ b
halved b = omega (arith, twice b)

-- a power of two is some
some_power : (b : ℕ) → 0 < 2 ^ b
some_power zero = omega arith
some_power (suc b) = omega (arith, twice b, some_power b)

-- the first property, and those that follow it
pub mask_both : (worth rest bit : ℕ) (form : Form) (forms : List Form) (option : Option Item) (options : List (Option Item)) → worth ≡ 2 ^ bit
    → suc (length forms) ≤ bit
    → ((b : ℕ) → worth / 2 ≡ 2 ^ b → length forms ≤ b → rest ≡ mask_of (from_bit b forms) options)
    → (if is_some option then worth else 0) + rest ≡ mask_of (from_bit bit (form ∷ forms)) (option ∷ options)
unfolding mask_of
mask_both worth rest zero form forms option options is few behind = absurd (omega (arith, few))
mask_both worth rest (suc b) form forms option options is few behind =
    let half : worth / 2 ≡ 2 ^ b = ap (λ (n : ℕ). n / 2) is ∙ halved b in
    ap₂ (λ (a c : ℕ). a + c) (worth_is worth option ∙ ap (λ (n : ℕ). worth_of n option) is) (behind b half (omega (arith, few)))

-- the bits below the first one hold all of it
pub mask_below : (bit : ℕ) (forms : List Form) (options : List (Option Item)) → length forms ≤ bit → mask_of (from_bit bit forms) options < 2 ^ suc bit
unfolding mask_of worth_of
mask_below bit [] options few = some_power (suc bit)
mask_below zero (form ∷ forms) options few = absurd (omega (arith, few))
mask_below (suc b) (form ∷ forms) [] few = some_power (suc (suc b))
mask_below (suc b) (form ∷ forms) (None ∷ options) few = omega (arith, twice (suc b), mask_below b forms options (omega (arith, few)))
mask_below (suc b) (form ∷ forms) (Some item ∷ options) few = omega (arith, twice (suc b), mask_below b forms options (omega (arith, few)))
