-- Properties of a message that are written, each where it is set.
use Rattle.std.specs.Prelude.{◌≡◌, ℕ, pred, ◌+◌, Bool, true, false, List, [], ◌∷◌, ◌++◌, length}
use Rattle.std.specs.Prelude.{Option, Some, None, option_map, Result, Ok, Err, refl, if◌then◌else◌}
use Rattle.std.proofs.Common.{ap₂}
use Rattle.amqp_types.specs.Numbers.{NumberWidth, bytes4, number_bytes}
use Rattle.amqp_types.specs.Strings.{short_string_bytes}
use Rattle.amqp_types.specs.Values.{Entry}
use Rattle.amqp_types.specs.ValueBytes.{table_bytes}
use Rattle.amqp_types.specs.Slots.{Item, number_item, text_item, entries_item, Form, number_form}
use Rattle.amqp_types.specs.Slots.{short_string_form, table_form}
use Rattle.amqp_types.specs.SlotBytes.{form_bytes}
use Rattle.amqp_types.specs.Properties.{Property, property}
use Rattle.amqp_types.specs.PropertyBytes.{optional_bytes, set_bytes}
use Rattle.amqp_entries.specs.declared.errors.PutError.{PutError}

-- properties of these forms, the first with this bit of the mask, and each other with the next
-- lower one
abbrev pub from_bit : ℕ → List Form → List Property
from_bit bit [] = []
from_bit bit (form ∷ forms) = property bit form ∷ from_bit (pred bit) forms

-- what is made of a value that is there, and else the other
abbrev pub where_some : {A B : Type 0} → B → (A → B) → Option A → B
where_some other made None = other
where_some other made (Some x) = made x

-- there where it is set
abbrev pub if_set : {A : Type 0} → Bool → A → Option A
if_set set x = if set then Some x else None

-- why it is not written where it is set
abbrev pub flaw_if : Bool → Option PutError → Option PutError
flaw_if set flaw = if set then flaw else None

-- its bytes where it is set
abbrev pub bytes_if : Bool → List ℕ → List ℕ
bytes_if set bytes = if set then bytes else []

-- a size with the bytes that were counted before, or why they are not written
abbrev pub size_after : ℕ → Option PutError → List ℕ → Result ℕ PutError
size_after before None bytes = Ok (before + length bytes)
size_after before (Some refusal) bytes = Err refusal

-- ---- the laws of single properties, and of one in front of others

-- a short string by itself
pub text_alone : (text : List ℕ) → form_bytes short_string_form (text_item text ∷ [])
    ≡ short_string_bytes text
unfolding form_bytes
text_alone text = refl

-- a number by itself
pub number_alone : (width : NumberWidth) (n : ℕ)
    → form_bytes (number_form width) (number_item n ∷ []) ≡ number_bytes width n
unfolding form_bytes
number_alone width n = refl

-- a table by itself
pub table_alone : (es : List Entry) → form_bytes table_form (entries_item es ∷ []) ≡ table_bytes es
unfolding form_bytes
table_alone es = refl

pub no_entries_alone : form_bytes table_form (entries_item [] ∷ []) ≡ number_bytes bytes4 0
unfolding form_bytes table_bytes
no_entries_alone = refl

-- a property that is set or not has the bytes of its option
pub some_spells : {A : Type 0} → (form : Form) (item : A → Item) (bytes : A → List ℕ)
    → ((x : A) → form_bytes form (item x ∷ []) ≡ bytes x) → (o : Option A)
    → optional_bytes form (option_map item o) ≡ where_some [] bytes o
unfolding optional_bytes
some_spells form item bytes alone None = refl
some_spells form item bytes alone (Some x) = alone x

-- a property that a mask says is set or not has the bytes of its option
pub masked_spells : (form : Form) (item : Item) (bytes : List ℕ)
    → form_bytes form (item ∷ []) ≡ bytes → (set : Bool)
    → optional_bytes form (if_set set item) ≡ bytes_if set bytes
unfolding optional_bytes
masked_spells form item bytes alone true = alone
masked_spells form item bytes alone false = refl

-- no properties have no bytes
pub none_are_set : (bit : ℕ) → set_bytes (from_bit bit []) [] ≡ []
unfolding set_bytes
none_are_set bit = refl

-- a property and those after it
pub both_spell : (bit : ℕ) (form : Form) (forms : List Form) (option : Option Item)
    (options : List (Option Item)) (first rest : List ℕ) → optional_bytes form option ≡ first
    → ((b : ℕ) → set_bytes (from_bit b forms) options ≡ rest)
    → set_bytes (from_bit bit (form ∷ forms)) (option ∷ options) ≡ first ++ rest
unfolding set_bytes
both_spell bit form forms option options first rest one others =
    ap₂ (λ (a b : List ℕ). a ++ b) one (others (pred bit))
