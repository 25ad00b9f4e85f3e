-- The laws of content headers.
use Rattle.std.proofs.Common.{◌≡◌, ℕ, true, false, List, [], ◌∷◌, ◌++◌, Option, refl, sym, ap, ap₂, subst, ◌∙◌}
use Rattle.amqp_types.specs.Levels.{plain, strict}
use Rattle.amqp_types.specs.Slots.{Item, number_item}
use Rattle.amqp_types.specs.SlotJudging.{judge_slots}
use Rattle.amqp_types.specs.SlotBytes.{slots_bytes}
use Rattle.amqp_types.specs.SlotSpelling.{SpellsSlots}
use Rattle.amqp_types.specs.SlotLaws.{are_least}
use Rattle.amqp_types.specs.PropertyJudging.{judge_properties}
use Rattle.amqp_types.specs.PropertyBytes.{properties_bytes, any_deep_option, any_long_option}
use Rattle.amqp_types.specs.PropertySpelling.{SpellsProperties}
use Rattle.amqp_types.specs.ContentHeaders.{ContentHeader, header_slots, header_items, header_of_parts, judge_content_header, SpellsContentHeader}
use Rattle.amqp_types.specs.ContentHeaders.{content_header_bytes, content_header_size, ContentHeadersAreLawful, SpelledContentHeadersAreBounded, IsHeaderHeld}
use Rattle.amqp_types.specs.ContentHeaders.{HeldContentHeadersAreReadBack}
use Rattle.amqp_types.proofs.Lawful.{both_lawful}
use Rattle.amqp_laws.proofs.SlotLaws.{slots_lawful}
use Rattle.amqp_laws.proofs.SlotsHeld.{slots_held}
use Rattle.amqp_laws.proofs.ValueLaws.{sized}
use Rattle.amqp_laws.proofs.PropertyLaws.{properties_lawful, properties_bounded, properties_held}

-- The constant of the weight, the reserved field of a content header, is its least encoding.
pub least : are_least header_slots ≡ true
unfolding header_slots
least = refl

-- what the fields in front give: a class id and a body size
pub record GivesParts (items : List Item) : Type 0 where
  pub class_id : ℕ
  pub body_size : ℕ
  pub items_are : items ≡ number_item class_id ∷ number_item body_size ∷ []

parts_given : (bytes : List ℕ) (items : List Item) → SpellsSlots plain header_slots bytes items → GivesParts items
unfolding header_slots
parts_given bytes items h =
    let class = h.first_is in
    let rest = h.second_is in
    let weight = rest.first_is in
    let last = rest.second_is in
    let size = last.first_is in
    record {
      class_id = class.thing;
      body_size = size.thing;
      items_are =
          h.joined
          ∙ ap₂ (λ xs ys. xs ++ ys) class.made
          (rest.joined ∙ ap₂ (λ xs ys. xs ++ ys) weight.none (last.joined ∙ ap₂ (λ xs ys. xs ++ ys) size.made last.second_is.1));
    }

header_bytes_are : (bytes : List ℕ) (items : List Item) (options : List (Option Item)) → SpellsSlots plain header_slots bytes items
    → content_header_bytes (header_of_parts items options) ≡ slots_bytes header_slots items ++ properties_bytes options
unfolding content_header_bytes
header_bytes_are bytes items options h =
    let parts = parts_given bytes items h in
    let P : List Item → Type 0 = λ xs. content_header_bytes (header_of_parts xs options) ≡ slots_bytes header_slots xs ++ properties_bytes options in
    subst P (sym parts.items_are) refl

-- The laws of a form of bytes hold of content headers.
pub content_headers_lawful : ContentHeadersAreLawful
unfolding judge_content_header
content_headers_lawful =
    both_lawful (judge_slots header_slots) judge_properties header_of_parts (λ level. SpellsSlots level header_slots) SpellsProperties
    (slots_bytes header_slots) properties_bytes content_header_bytes (slots_lawful header_slots least) properties_lawful header_bytes_are

-- A content header that is made of its fields and its properties has these properties.
pub options_are : (items : List Item) (set : List (Option Item)) → (header_of_parts items set).options ≡ set
options_are (number_item class ∷ number_item size ∷ []) set = refl
options_are items set = refl

-- A content header that is encoded is neither long nor too deep.
pub content_headers_bounded : SpelledContentHeadersAreBounded
content_headers_bounded level bytes header h =
    let b = properties_bounded level h.behind h.two h.second_is in
    let are : header.options ≡ h.two = ap (λ (x : ContentHeader). x.options) h.joined ∙ options_are h.one h.two in
    (ap any_deep_option are ∙ b.0, ap any_long_option are ∙ b.1)

slots_are_held : (header : ContentHeader) → IsHeaderHeld header
    → SpellsSlots strict header_slots (slots_bytes header_slots (header_items header)) (header_items header)
unfolding header_slots
slots_are_held header h = slots_held header_slots (header_items header) refl (h.class_fits, (h.size_fits, refl)) refl refl

-- what programs hold is encoded strictly by its canonical bytes
pub header_held : (header : ContentHeader) → IsHeaderHeld header → any_deep_option header.options ≡ false
    → any_long_option header.options ≡ false → SpellsContentHeader strict (content_header_bytes header) header
unfolding content_header_bytes
header_held header h shallow short = record {
  front = slots_bytes header_slots (header_items header);
  behind = properties_bytes header.options;
  one = header_items header;
  two = header.options;
  bytes_are = refl;
  first_is = slots_are_held header h;
  second_is = properties_held header.options h.held shallow short;
  joined = refl;
}

-- Canonical bytes of a content header that is neither long nor too deep are read back, whatever follows.
pub content_headers_read_back : HeldContentHeadersAreReadBack
unfolding content_header_size
content_headers_read_back header rest h size =
    let bytes = content_header_bytes header in
    let ok = sized (any_deep_option header.options) (any_long_option header.options) bytes size in
    let law = content_headers_lawful in
    law.exact.taken bytes rest header (law.tidy_is_plain bytes header (law.strict_is_tidy bytes header (header_held header h ok.0 ok.1)))
