-- Whether what is decoded is canonical, but for the values in it: no unused bit is set, and what is
-- read and dropped holds its constant.
use Rattle.std.specs.Prelude.{◌≡◌, ℕ, ◌^◌, ◌==◌, ◌&&◌, Bool, true, false, List, [], ◌∷◌, ◌++◌, take}
use Rattle.std.specs.Prelude.{drop, nat_lt, Option, Some, None, not}
use Rattle.std.specs.Int.{w16, from_be_bytes}
use Rattle.amqp_types.specs.Levels.{tidy}
use Rattle.amqp_types.specs.Judging.{Judged, Judge, took, past, fault, IsBytes}
use Rattle.amqp_types.specs.Flags.{flag_at}
use Rattle.amqp_types.specs.Slots.{Form, flags_form, Slot, kept_slot, reserved_slot}
use Rattle.amqp_types.specs.SlotBytes.{form_bytes}
use Rattle.amqp_types.specs.SlotJudging.{judge_slot, judge_slots}
use Rattle.amqp_types.specs.SlotSpelling.{SpellsSlots}
use Rattle.amqp_types.specs.SlotLaws.{are_least}
use Rattle.amqp_types.specs.Rows.{slots_at}
use Rattle.amqp_types.specs.Methods.{judge_payload}
use Rattle.amqp_types.specs.MethodSpelling.{SpellsPayload}
use Rattle.amqp_types.specs.PropertyJudging.{judge_properties}
use Rattle.amqp_types.specs.PropertySpelling.{SpellsProperties}
use Rattle.amqp_types.specs.ContentHeaders.{header_slots, judge_content_header, SpellsContentHeader}

-- ---- tests of bytes that are decoded

-- how many bytes were taken
abbrev pub used_by : {A : Type 0} → Judged A → ℕ
used_by (took x n) = n
used_by past = 0
used_by (fault bad) = 0

-- the bytes begin with these
abbrev pub begins_with : List ℕ → List ℕ → Bool
begins_with [] bytes = true
begins_with (want ∷ wanted) [] = false
begins_with (want ∷ wanted) (byte ∷ bytes) = (byte == want) && begins_with wanted bytes

-- a test of a first thing, and one of what stands after it
abbrev pub test_both : {A : Type 0} → Judge A → (List ℕ → Bool) → (List ℕ → Bool) → List ℕ → Bool
test_both first one two bytes = one bytes && two (drop (used_by (first bytes)) bytes)

-- the unused bits, those above the flags, are zero
abbrev pub is_tidy_form : Form → List ℕ → Bool
is_tidy_form (flags_form count) (byte ∷ bytes) = nat_lt byte (2 ^ count)
is_tidy_form form bytes = true

-- a reserved field stands as its constant is written
abbrev pub is_tidy_slot : Slot → List ℕ → Bool
is_tidy_slot (kept_slot form) bytes = is_tidy_form form bytes
is_tidy_slot (reserved_slot form constant) bytes = begins_with (form_bytes form constant) bytes

-- fields one after another, each of which is tidy
unfoldable pub are_tidy_slots : List Slot → List ℕ → Bool
are_tidy_slots [] bytes = true
are_tidy_slots (slot ∷ slots) bytes =
    test_both (judge_slot slot) (is_tidy_slot slot) (are_tidy_slots slots) bytes

-- the fields of a method, where it is in the table
abbrev pub are_tidy_known : Option (List Slot) → List ℕ → Bool
are_tidy_known (Some slots) bytes = are_tidy_slots slots bytes
are_tidy_known None bytes = true

-- the number in the two bytes from a place on
abbrev pub short_at : ℕ → List ℕ → ℕ
short_at place bytes = from_be_bytes w16 (take 2 (drop place bytes))

-- after a class id and a method id, of two bytes each, the fields of that method
unfoldable pub is_tidy_payload : List ℕ → Bool
is_tidy_payload bytes =
    are_tidy_known (slots_at (short_at 0 bytes) (short_at 2 bytes)) (drop 4 bytes)

-- the unused bits of the mask in front, 1 and 0, are zero
unfoldable pub are_tidy_properties : List ℕ → Bool
are_tidy_properties bytes = not (flag_at (short_at 0 bytes) 1) && not (flag_at (short_at 0 bytes) 0)

-- the weight is zero, and so are the unused bits of the mask
unfoldable pub is_tidy_content_header : List ℕ → Bool
is_tidy_content_header =
    test_both (judge_slots header_slots) (are_tidy_slots header_slots) are_tidy_properties

-- ---- laws

-- A test decides whether bytes that are decoded encode what is decoded.
pub record IsDecidedBy {A : Type 0} (judge : Judge A)
    (Spells : List ℕ → A → Type 0) (test : List ℕ → Bool) : Type 0 where
  pub spelled : (bytes : List ℕ) (x : A) (n : ℕ) → IsBytes bytes
      → judge bytes ≡ took x n → test bytes ≡ true → Spells (take n bytes) x
  pub tested : (bytes rest : List ℕ) (x : A) → Spells bytes x → test (bytes ++ rest) ≡ true

-- The test of fields decides whether their encoding is tidy, where the constants of reserved
-- ones are least.
abbrev pub TidySlotsAreDecided : Type 0
TidySlotsAreDecided =
    (slots : List Slot) → are_least slots ≡ true
    → IsDecidedBy (judge_slots slots) (SpellsSlots tidy slots) (are_tidy_slots slots)

-- The test of a payload decides whether the encoding of a method is tidy.
abbrev pub TidyPayloadsAreDecided : Type 0
TidyPayloadsAreDecided = IsDecidedBy judge_payload (SpellsPayload tidy) is_tidy_payload

-- The test of the mask decides whether the encoding of properties is tidy.
abbrev pub TidyPropertiesAreDecided : Type 0
TidyPropertiesAreDecided = IsDecidedBy judge_properties (SpellsProperties tidy) are_tidy_properties

-- The test of the weight and of the mask decides whether the encoding of a content header is tidy.
abbrev pub TidyContentHeadersAreDecided : Type 0
TidyContentHeadersAreDecided =
    IsDecidedBy judge_content_header (SpellsContentHeader tidy) is_tidy_content_header
