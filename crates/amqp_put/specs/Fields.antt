-- The laws of single fields: their bytes stand in front of those of the fields that follow.
use Rattle.std.specs.Prelude.{◌≡◌, ℕ, Bool, false, List, [], ◌∷◌, ◌++◌, refl}
use Rattle.amqp_types.specs.Numbers.{NumberWidth, number_bytes}
use Rattle.amqp_types.specs.Flags.{flags_bytes}
use Rattle.amqp_types.specs.Strings.{short_string_bytes, with_length}
use Rattle.amqp_types.specs.Slots.{Item, number_item, flag_item, text_item, bytes_item}
use Rattle.amqp_types.specs.Slots.{number_form, flags_form, short_string_form}
use Rattle.amqp_types.specs.Slots.{long_string_form, Slot, kept_slot, reserved_slot}
use Rattle.amqp_types.specs.SlotBytes.{form_bytes, slots_bytes}

-- the canonical bytes of a field that gives these items, whatever fields follow it
abbrev pub AreFieldBytes : Slot → List Item → List ℕ → Type 0
AreFieldBytes slot items bytes =
    (slots : List Slot) (rest : List Item)
    → slots_bytes (slot ∷ slots) (items ++ rest) ≡ bytes ++ slots_bytes slots rest

-- a number is put as its bytes
pub number_spells : (width : NumberWidth) (n : ℕ)
    → AreFieldBytes (kept_slot (number_form width)) (number_item n ∷ []) (number_bytes width n)
unfolding slots_bytes form_bytes
number_spells width n slots rest = refl

-- a reserved number is put as its bytes
pub reserved_spells : (width : NumberWidth) (n : ℕ)
    → AreFieldBytes (reserved_slot (number_form width) (number_item n ∷ [])) []
    (number_bytes width n)
unfolding slots_bytes form_bytes
reserved_spells width n slots rest = refl

-- a reserved flag is put as a byte
pub reserved_flag_spells : AreFieldBytes (reserved_slot (flags_form 1) (flag_item false ∷ [])) []
    (flags_bytes (false ∷ []))
unfolding slots_bytes form_bytes
reserved_flag_spells slots rest = refl

-- a reserved short string is put as its length
pub reserved_text_spells : AreFieldBytes (reserved_slot short_string_form (text_item [] ∷ [])) []
    (short_string_bytes [])
unfolding slots_bytes form_bytes
reserved_text_spells slots rest = refl

-- a reserved long string is put as its length
pub reserved_bytes_spell : AreFieldBytes (reserved_slot long_string_form (bytes_item [] ∷ [])) []
    (with_length [])
unfolding slots_bytes form_bytes
reserved_bytes_spell slots rest = refl

-- a long string is put behind its length
pub long_spells : (content : List ℕ)
    → AreFieldBytes (kept_slot long_string_form) (bytes_item content ∷ []) (with_length content)
unfolding slots_bytes form_bytes
long_spells content slots rest = refl

-- one flag is put as a byte
pub flag_spells : (flag : Bool) → AreFieldBytes (kept_slot (flags_form 1)) (flag_item flag ∷ [])
    (flags_bytes (flag ∷ []))
unfolding slots_bytes form_bytes
flag_spells flag slots rest = refl

-- two flags share a byte
pub two_flags_spell : (first second : Bool)
    → AreFieldBytes (kept_slot (flags_form 2))
    (flag_item first ∷ flag_item second ∷ [])
    (flags_bytes (first ∷ second ∷ []))
unfolding slots_bytes form_bytes
two_flags_spell first second slots rest = refl

-- three flags share a byte
pub three_flags_spell : (first second third : Bool)
    → AreFieldBytes (kept_slot (flags_form 3))
    (flag_item first ∷ flag_item second ∷ flag_item third ∷ [])
    (flags_bytes (first ∷ second ∷ third ∷ []))
unfolding slots_bytes form_bytes
three_flags_spell first second third slots rest = refl

-- four flags share a byte
pub four_flags_spell : (first second third fourth : Bool)
    → AreFieldBytes (kept_slot (flags_form 4))
    (flag_item first ∷ flag_item second ∷ flag_item third ∷ flag_item fourth ∷ [])
    (flags_bytes (first ∷ second ∷ third ∷ fourth ∷ []))
unfolding slots_bytes form_bytes
four_flags_spell first second third fourth slots rest = refl

-- five flags share a byte
pub five_flags_spell : (first second third fourth fifth : Bool)
    → AreFieldBytes (kept_slot (flags_form 5))
    (flag_item first ∷ flag_item second ∷ flag_item third ∷ flag_item fourth ∷ flag_item fifth ∷ [])
    (flags_bytes (first ∷ second ∷ third ∷ fourth ∷ fifth ∷ []))
unfolding slots_bytes form_bytes
five_flags_spell first second third fourth fifth slots rest = refl

-- a short string is put behind its length
pub text_spells : (text : List ℕ)
    → AreFieldBytes (kept_slot short_string_form) (text_item text ∷ []) (short_string_bytes text)
unfolding slots_bytes form_bytes
text_spells text slots rest = refl

-- no fields have no bytes
pub none_spells : slots_bytes [] [] ≡ []
unfolding slots_bytes
none_spells = refl
