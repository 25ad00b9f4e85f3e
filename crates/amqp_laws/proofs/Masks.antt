-- The mask has the bit of each property that is set, and no other.
use Rattle.std.proofs.Common.{◌≡◌, ℕ, suc, ◌+◌, ◌*◌, ◌^◌, ◌<◌, Bool, false, List, [], ◌∷◌, length, map, reverse, refl, sym, ap, ap₂, subst}
use Rattle.std.proofs.Common.{◌∙◌, arith, Option, Some, None}
use Rattle.std.specs.Prelude.{is_some}
use Rattle.std.proofs.lemmas.List.{length-reverse, reverse-reverse}
use Rattle.amqp_types.specs.Flags.{flag_at, flags_from, bit_of, flags_byte}
use Rattle.amqp_types.specs.Slots.{Item}
use Rattle.amqp_types.specs.Properties.{Property, properties, later_properties}
use Rattle.amqp_types.specs.PropertyBytes.{worth_of, mask_of}
use Rattle.amqp_types.proofs.FormLaws.{flags_back, flags_byte_back, flags_byte_below}

-- which of the properties are set in a mask
abbrev pub set_flags : ℕ → List Property → List Bool
set_flags mask [] = []
set_flags mask (p ∷ ps) = flag_at mask p.bit ∷ set_flags mask ps

-- the mask of those that are set
abbrev pub flags_mask : List Property → List Bool → ℕ
flags_mask [] flags = 0
flags_mask (p ∷ ps) [] = 0
flags_mask (p ∷ ps) (flag ∷ flags) = bit_of flag * 2 ^ p.bit + flags_mask ps flags

pub set_flags-length : (mask : ℕ) (ps : List Property) → length (set_flags mask ps) ≡ length ps
set_flags-length mask [] = refl
set_flags-length mask (p ∷ ps) = ap suc (set_flags-length mask ps)

worth_is : (worth : ℕ) (option : Option Item) → worth_of worth option ≡ bit_of (is_some option) * worth
unfolding worth_of
worth_is worth None = omega arith
worth_is worth (Some item) = omega arith

-- The mask of properties depends only on which of them are set.
pub mask_of-flags : (ps : List Property) (options : List (Option Item)) → mask_of ps options ≡ flags_mask ps (map is_some options)
unfolding mask_of
mask_of-flags [] options = refl
mask_of-flags (p ∷ ps) [] = refl
mask_of-flags (p ∷ ps) (option ∷ options) = ap₂ (λ (a b : ℕ). a + b) (worth_is (2 ^ p.bit) option) (mask_of-flags ps options)

-- the 16 bits of a mask, from the lowest on
abbrev pub mask_flags : List Bool → List Bool
mask_flags flags = false ∷ false ∷ reverse flags

-- the fact on the table: its bits are 15 to 2, in this order
mask_is_byte : (flags : List Bool) → length flags ≡ 14 → flags_mask properties flags ≡ flags_byte (mask_flags flags)
unfolding properties later_properties
mask_is_byte (a ∷ b ∷ c ∷ d ∷ e ∷ f ∷ g ∷ h ∷ i ∷ j ∷ k ∷ l ∷ m ∷ n ∷ []) all = omega arith
mask_is_byte flags all = absurd (omega arith)

mask_bits : (mask : ℕ) → flags_from 16 0 mask ≡ flag_at mask 0 ∷ flag_at mask 1 ∷ reverse (set_flags mask properties)
unfolding properties later_properties
mask_bits mask = refl

bits_behind : (x y : Bool) (xs : List Bool) (u v : Bool) (ys : List Bool) → x ∷ y ∷ xs ≡ u ∷ v ∷ ys → (x ≡ u) × (y ≡ v) × (xs ≡ ys)
bits_behind x y xs u v ys h = (cc, cc, cc)

-- the mask of 14 flags
pub record IsMaskOf (mask : ℕ) (flags : List Bool) : Type 0 where
  pub fits : mask < 2 ^ 16
  pub lowest : flag_at mask 0 ≡ false
  pub second : flag_at mask 1 ≡ false
  pub set : set_flags mask properties ≡ flags

-- The mask of 14 flags has the bit of each property whose flag is set, and no other.
pub flags_mask_is : (flags : List Bool) → length flags ≡ 14 → IsMaskOf (flags_mask properties flags) flags
flags_mask_is flags all =
    let mask = flags_mask properties flags in
    let is : mask ≡ flags_byte (mask_flags flags) = mask_is_byte flags all in
    let long : length (mask_flags flags) ≡ 16 = omega (arith, all, length-reverse flags) in
    let P : ℕ → Type 0 = λ n. mask < 2 ^ n in
    let bits : flags_from 16 0 mask ≡ mask_flags flags =
    ap (flags_from 16 0) is ∙ ap (λ (n : ℕ). flags_from n 0 (flags_byte (mask_flags flags))) (sym long) ∙ flags_back (mask_flags flags) in
    let each = bits_behind _ _ _ _ _ _ (sym (mask_bits mask) ∙ bits) in
    record {
      fits = subst P long (let Q : ℕ → Type 0 = λ m. m < 2 ^ length (mask_flags flags) in subst Q (sym is) (flags_byte_below (mask_flags flags)));
      lowest = each.0;
      second = each.1;
      set = sym (reverse-reverse (set_flags mask properties)) ∙ ap reverse each.2 ∙ reverse-reverse flags;
    }

-- a mask is the mask of its flags
pub mask_is : (mask : ℕ) (flags : List Bool) → IsMaskOf mask flags → mask ≡ flags_mask properties flags
unfolding properties later_properties
mask_is mask flags h =
    let all : length flags ≡ 14 = ap length (sym h.set) in
    let two : flag_at mask 0 ∷ flag_at mask 1 ∷ reverse (set_flags mask properties) ≡ mask_flags flags = cc (h.lowest, h.second, h.set) in
    sym (flags_byte_back 16 mask h.fits) ∙ ap flags_byte (mask_bits mask ∙ two) ∙ sym (mask_is_byte flags all)
