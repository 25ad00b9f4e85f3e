-- Decoding a content header finds no faults but those of the inside of a payload.
use Rattle.std.proofs.Common.{ℕ, ◌+◌, Bool, true, false, List, [], ◌∷◌, drop, None}
use Rattle.amqp_types.specs.PayloadFaults.{FailsInside, ContentHeadersFailInside}
use Rattle.amqp_types.specs.Numbers.{bytes2, judge_number}
use Rattle.amqp_types.specs.Flags.{flag_at}
use Rattle.amqp_types.specs.Slots.{Form}
use Rattle.amqp_types.specs.SlotJudging.{judge_form, judge_slots}
use Rattle.amqp_types.specs.Properties.{Property, properties}
use Rattle.amqp_types.specs.PropertyJudging.{first_item, judge_optional, judge_set, judge_properties}
use Rattle.amqp_types.specs.ContentHeaders.{header_slots, header_of_parts, judge_content_header}
use Rattle.amqp_laws.proofs.PayloadFaults.{took_inside, bind_inside, map_inside, both_inside, number_inside, form_inside, slots_inside}

optional_inside : (present : Bool) (form : Form) → FailsInside (judge_optional present form)
unfolding judge_optional
optional_inside true form = map_inside first_item (judge_form form) (form_inside form)
optional_inside false form = λ bytes. took_inside None 0

set_inside : (mask : ℕ) (ps : List Property) → FailsInside (judge_set mask ps)
unfolding judge_set
set_inside mask [] = λ bytes. took_inside [] 0
set_inside mask (p ∷ ps) =
    both_inside (judge_optional (flag_at mask p.bit) p.form) (judge_set mask ps)
    (λ option options. option ∷ options) (optional_inside (flag_at mask p.bit) p.form) (set_inside mask ps)

properties_inside : FailsInside judge_properties
unfolding judge_properties
properties_inside bytes =
    bind_inside (judge_number bytes2 bytes) _ (number_inside bytes2 bytes) (λ mask.
    bind_inside (judge_set mask.0 properties (drop mask.1 bytes)) _
    (set_inside mask.0 properties (drop mask.1 bytes)) (λ set. took_inside set.0 (mask.1 + set.1)))

-- The payload of a content header is refused only for what stands inside it.
pub content_headers_inside : ContentHeadersFailInside
unfolding judge_content_header
content_headers_inside = both_inside (judge_slots header_slots) judge_properties header_of_parts (slots_inside header_slots) properties_inside
