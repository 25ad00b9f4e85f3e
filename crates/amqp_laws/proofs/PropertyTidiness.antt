-- Which properties, and which content headers, are tidy.
use Rattle.std.proofs.Common.{◌≡◌, ℕ, ◌&&◌, Bool, true, false, List, [], ◌∷◌, ◌++◌, Option, refl, sym, ap, ◌∙◌, append_assoc}
use Rattle.std.specs.Prelude.{not}
use Rattle.std.proofs.lemmas.Bool.{and_from, and_parts}
use Rattle.amqp_types.specs.Levels.{Level, plain, tidy}
use Rattle.amqp_types.specs.Numbers.{bytes2, number_bytes}
use Rattle.amqp_types.specs.Flags.{flag_at}
use Rattle.amqp_types.specs.Slots.{Item, Form, number_form, flags_form, short_string_form, long_string_form, table_form}
use Rattle.amqp_types.specs.SlotJudging.{judge_slots}
use Rattle.amqp_types.specs.SlotSpelling.{SpellsForm, SpellsSlots}
use Rattle.amqp_types.specs.Properties.{Property, properties}
use Rattle.amqp_types.specs.PropertyJudging.{judge_properties}
use Rattle.amqp_types.specs.PropertySpelling.{SpellsOptional, SpellsSet, SpellsProperties}
use Rattle.amqp_types.specs.PropertyLaws.{gives_one, give_one}
use Rattle.amqp_types.specs.ContentHeaders.{header_slots, header_of_parts, judge_content_header, SpellsContentHeader}
use Rattle.amqp_types.specs.Tidiness.{short_at, are_tidy_slots, are_tidy_properties, is_tidy_content_header}
use Rattle.amqp_types.specs.Tidiness.{TidyPropertiesAreDecided, TidyContentHeadersAreDecided}
use Rattle.amqp_types.proofs.Deciding.{IsTest, decides, both_test}
use Rattle.amqp_laws.proofs.SlotLaws.{slots_lawful}
use Rattle.amqp_laws.proofs.PlainValues.{field_table_plain_is_tidy}
use Rattle.amqp_laws.proofs.Tidiness.{short_at_front, slots_test}
use Rattle.amqp_laws.proofs.PropertyLaws.{one_each, properties_lawful}
use Rattle.amqp_laws.proofs.HeaderLaws.{least, content_headers_lawful}

-- ---- a form that gives one item holds no unused bit, and so what is plain is tidy

form_plain_is_tidy : (form : Form) → gives_one form ≡ true → (bytes : List ℕ) (items : List Item)
    → SpellsForm plain form bytes items → SpellsForm tidy form bytes items
form_plain_is_tidy (number_form width) one bytes items h = h
form_plain_is_tidy (flags_form count) one bytes items h = absurd cc
form_plain_is_tidy short_string_form one bytes items h = h
form_plain_is_tidy long_string_form one bytes items h = h
form_plain_is_tidy table_form one bytes items h = record { thing = h.thing; spelled = field_table_plain_is_tidy bytes h.thing h.spelled; made = h.made }

optional_plain_is_tidy : (present : Bool) (form : Form) → gives_one form ≡ true → (bytes : List ℕ) (option : Option Item)
    → SpellsOptional plain present form bytes option → SpellsOptional tidy present form bytes option
optional_plain_is_tidy true form one bytes option h = record { thing = h.thing; spelled = form_plain_is_tidy form one bytes h.thing h.spelled; made = h.made }
optional_plain_is_tidy false form one bytes option h = h

set_plain_is_tidy : (mask : ℕ) (ps : List Property) → give_one ps ≡ true → (bytes : List ℕ) (options : List (Option Item))
    → SpellsSet plain mask ps bytes options → SpellsSet tidy mask ps bytes options
set_plain_is_tidy mask [] one bytes options h = h
set_plain_is_tidy mask (p ∷ ps) one bytes options h =
    let b = and_parts (gives_one p.form) (give_one ps) one in
    record {
      front = h.front;
      behind = h.behind;
      one = h.one;
      two = h.two;
      bytes_are = h.bytes_are;
      first_is = optional_plain_is_tidy (flag_at mask p.bit) p.form b.0 h.front h.one h.first_is;
      second_is = set_plain_is_tidy mask ps b.1 h.behind h.two h.second_is;
      joined = h.joined;
    }

-- ---- properties

is_unset : (flag : Bool) → not flag ≡ true → flag ≡ false
is_unset true h = absurd cc
is_unset false h = refl

-- the test reads the mask
mask_tested : (level : Level) (bytes rest : List ℕ) (options : List (Option Item)) (h : SpellsProperties level bytes options)
    → are_tidy_properties (bytes ++ rest) ≡ (not (flag_at h.mask 1) && not (flag_at h.mask 0))
unfolding are_tidy_properties
mask_tested level bytes rest options h =
    let front = number_bytes bytes2 h.mask in
    let all : bytes ++ rest ≡ front ++ (h.behind ++ rest) = ap (λ bs. bs ++ rest) h.bytes_are ∙ append_assoc front h.behind rest in
    let mask : short_at 0 (front ++ (h.behind ++ rest)) ≡ h.mask =
    short_at_front front (h.behind ++ rest) h.mask (record { fits = h.fits; bytes_are = refl }) in
    ap are_tidy_properties all ∙ ap (λ m. not (flag_at m 1) && not (flag_at m 0)) mask

properties_tidied : (bytes rest : List ℕ) (options : List (Option Item)) → SpellsProperties plain bytes options
    → are_tidy_properties (bytes ++ rest) ≡ true → SpellsProperties tidy bytes options
properties_tidied bytes rest options h right =
    let unset = and_parts (not (flag_at h.mask 1)) (not (flag_at h.mask 0)) (sym (mask_tested plain bytes rest options h) ∙ right) in
    record {
      mask = h.mask;
      behind = h.behind;
      fits = h.fits;
      bytes_are = h.bytes_are;
      set = set_plain_is_tidy h.mask properties one_each h.behind options h.set;
      unused = (is_unset (flag_at h.mask 1) unset.0, is_unset (flag_at h.mask 0) unset.1);
    }

properties_tested : (bytes rest : List ℕ) (options : List (Option Item)) → SpellsProperties tidy bytes options → are_tidy_properties (bytes ++ rest) ≡ true
properties_tested bytes rest options h =
    mask_tested tidy bytes rest options h ∙ and_from (not (flag_at h.mask 1)) (not (flag_at h.mask 0)) (ap not h.unused.0) (ap not h.unused.1)

properties_test : IsTest SpellsProperties are_tidy_properties
properties_test = record { tidied = properties_tidied; tested = properties_tested }

-- The test of the mask decides whether the encoding of properties is tidy.
pub properties_decided : TidyPropertiesAreDecided
properties_decided = decides judge_properties SpellsProperties are_tidy_properties properties_lawful.exact properties_test

-- ---- content headers

-- The test of the weight and of the mask decides whether the encoding of a content header is tidy.
pub content_headers_decided : TidyContentHeadersAreDecided
unfolding is_tidy_content_header
content_headers_decided =
    let law = slots_lawful header_slots least in
    decides judge_content_header SpellsContentHeader is_tidy_content_header content_headers_lawful.exact
    (both_test (judge_slots header_slots) header_of_parts (λ level. SpellsSlots level header_slots) SpellsProperties
    (are_tidy_slots header_slots) are_tidy_properties law.exact law.tidy_is_plain (slots_test header_slots least) properties_test)
