-- How many fields a frame has, by the table of methods and by the mask of properties.
use Rattle.std.proofs.Common.{Bor, ◌≡◌, ℕ, ◌+◌, ◌<◌, ◌≤◌, true, false, List, [], ◌∷◌, length, get_or, drop, map, Option, Some, Ok, refl, sym, ap, ◌∙◌, arith}
use Rattle.std.specs.Prelude.{option_copied, option_map, unwrap_or}
use Rattle.amqp_fields.proofs.Names.{took, bytes2, judge_number, bit_of, flag_at, properties, slots_at, property_of, slot_of, slots_of, AMQPFrameType, Frame}
use Rattle.amqp_fields.proofs.Names.{outline_of, count_of, method_count, set_at, set_count, total, kept_count, fields_of, length-map}
use Rattle.amqp_canonical.specs.declared.shapes.Form.{Form as FormShape}
use Rattle.amqp_canonical.specs.declared.shapes.Slot.{Slot as SlotShape}
use Rattle.amqp_wire.specs.Verdicts.{decode_payload}
use Rattle.amqp_fields.proofs.Answering.{whole_found}
use Rattle.amqp_fields.proofs.Spans.{itself}
use Rattle.amqp_fields.proofs.PayloadsFound.{few_fields, fourteen}
use Rattle.amqp_fields.proofs.PayloadSteps.{method_is}

-- ---- what is counted

-- where no shapes are left, no fields are counted
pub total_none : (shapes : List SlotShape) → length shapes < 1 → total (slots_of shapes) ≡ 0
total_none [] h = refl
total_none (shape ∷ shapes) h = absurd (omega arith)

-- the fields of the first shape and those of the others are as many as all
pub total_more : (shapes : List SlotShape) (other : SlotShape) → 1 ≤ length shapes
    → kept_count (slot_of (get_or shapes 0 other)) + total (slots_of (drop 1 shapes)) ≡ total (slots_of shapes)
total_more [] other h = absurd (omega arith)
total_more (shape ∷ shapes) other h = refl

-- a method whose shapes were found has at most 255 fields
pub method_few : (class id : ℕ) (found : Option (Bor (List SlotShape))) (shapes : Bor (List SlotShape))
    → option_map slots_of (option_copied found) ≡ slots_at class id → found ≡ Some shapes → total (slots_of shapes.now) ≤ 255
method_few class id found shapes at is = few_fields class id (slots_of shapes.now) (method_is class id found shapes at is)

-- the shapes that were found for a method have as many fields as the method
pub method_total : (class id : ℕ) (found : Option (Bor (List SlotShape))) (shapes : Bor (List SlotShape))
    → option_map slots_of (option_copied found) ≡ slots_at class id → found ≡ Some shapes → total (slots_of shapes.now) ≡ method_count class id
method_total class id found shapes at is = ap (λ o. total (unwrap_or o [])) (sym (method_is class id found shapes at is))

-- where no shapes are left, no properties are set
pub set_none : (mask : ℕ) (shapes : List (ℕ × FormShape)) → length shapes < 1 → set_count mask (map property_of shapes) ≡ 0
set_none mask [] h = refl
set_none mask (shape ∷ shapes) h = absurd (omega arith)

-- where the mask has the bit of the first shape, one property more is set than among the others
pub set_on : (mask : ℕ) (shapes : List (ℕ × FormShape)) (other : ℕ × FormShape) → 1 ≤ length shapes → flag_at mask (get_or shapes 0 other).0 ≡ true
    → set_count mask (map property_of shapes) ≡ 1 + set_count mask (map property_of (drop 1 shapes))
set_on mask [] other h on = absurd (omega arith)
set_on mask (shape ∷ shapes) other h on = ap (λ b. bit_of b + set_count mask (map property_of shapes)) on

-- where the mask has no bit of the first shape, as many properties are set as among the others
pub set_off : (mask : ℕ) (shapes : List (ℕ × FormShape)) (other : ℕ × FormShape) → 1 ≤ length shapes
    → flag_at mask (get_or shapes 0 other).0 ≡ false → set_count mask (map property_of shapes) ≡ set_count mask (map property_of (drop 1 shapes))
set_off mask [] other h off = absurd (omega arith)
set_off mask (shape ∷ shapes) other h off = ap (λ b. bit_of b + set_count mask (map property_of shapes)) off ∙ omega arith

-- as many properties are set as the mask in front has
pub mask_there : (bytes : List ℕ) (mask n : ℕ) → judge_number bytes2 bytes ≡ took mask n → set_at (judge_number bytes2 bytes) ≡ set_count mask properties
mask_there bytes mask n is = ap set_at is

-- the shapes of all properties are 14
pub shapes_few : (shapes : List (ℕ × FormShape)) → map property_of shapes ≡ properties → length shapes ≡ 14
shapes_few shapes is = sym (length-map shapes property_of) ∙ ap length is ∙ fourteen

-- where less than 2 bytes are left, no properties are set
pub no_mask : (bytes : List ℕ) → length bytes < 2 → set_at (judge_number bytes2 bytes) ≡ 0
no_mask [] h = refl
no_mask (a ∷ []) h = refl
no_mask (a ∷ b ∷ bytes) h = absurd (omega arith)

-- a frame has as many fields as its outline says
pub frame_counted : (kind : AMQPFrameType) (channel : ℕ) (payload : List ℕ) (frame : Frame)
    → decode_payload kind channel payload ≡ Ok frame → count_of payload (outline_of frame) ≡ length (fields_of frame)
frame_counted kind channel payload frame h = sym (whole_found false payload (length payload) kind payload channel frame (itself payload) h).3.number
