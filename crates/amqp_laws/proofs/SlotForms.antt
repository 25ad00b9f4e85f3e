-- The laws of the forms of fields, and what they give.
use Rattle.std.proofs.Common.{◌≡◌, ℕ, suc, ◌≤◌, nat_lt, Bool, false, List, [], ◌∷◌, length, map, refl, sym, ap, subst, ◌∙◌, arith}
use Rattle.std.proofs.lemmas.Bool.Decides.{nat_tests}
use Rattle.amqp_types.specs.Levels.{plain}
use Rattle.amqp_types.specs.Numbers.{number_bytes, judge_number, SpellsNumber}
use Rattle.amqp_types.specs.Flags.{flags_bytes, judge_flags, SpellsFlags}
use Rattle.amqp_types.specs.Strings.{short_string_bytes, with_length, judge_short_string, judge_long_string, SpellsShortString, SpellsLongString}
use Rattle.amqp_types.specs.Values.{table_value, entries_of, depth}
use Rattle.amqp_types.specs.ValueBytes.{table_bytes, is_deep_table, is_long_table}
use Rattle.amqp_types.specs.ValueJudging.{judge_field_table}
use Rattle.amqp_types.specs.ValueSpelling.{SpellsValue, SpellsFieldTable}
use Rattle.amqp_types.specs.Slots.{Item, number_item, flag_item, text_item, bytes_item, entries_item, Form, number_form, flags_form}
use Rattle.amqp_types.specs.Slots.{short_string_form, long_string_form, table_form}
use Rattle.amqp_types.specs.SlotJudging.{judge_form}
use Rattle.amqp_types.specs.SlotBytes.{item_count, flags_of, form_bytes, any_deep, any_long}
use Rattle.amqp_types.specs.SlotSpelling.{SpellsForm}
use Rattle.amqp_types.specs.SlotLaws.{FormsAreLawful}
use Rattle.amqp_types.proofs.FlagBytes.{flags_from_length}
use Rattle.amqp_types.proofs.FormLaws.{numbers_lawful, short_strings_lawful, long_strings_lawful, flags_lawful}
use Rattle.amqp_types.proofs.Lawful.{mapped_lawful}
use Rattle.amqp_laws.proofs.Bounded.{value_bounded, table_bounded, neither, below_limit}
use Rattle.amqp_laws.proofs.ValueLaws.{tables_lawful}

-- The flags of the items that are made of flags are these flags.
pub flags_of-map : (flags : List Bool) → flags_of (map flag_item flags) ≡ flags
flags_of-map [] = refl
flags_of-map (flag ∷ flags) = ap (λ (fs : List Bool). flag ∷ fs) (flags_of-map flags)

-- The laws of a form of bytes hold of each form of a field.
pub forms_lawful : FormsAreLawful
unfolding judge_form form_bytes
forms_lawful (number_form width) =
    mapped_lawful (λ n. number_item n ∷ []) (judge_number width) (λ level. SpellsNumber width)
    (number_bytes width) (form_bytes (number_form width)) (numbers_lawful width) (λ n. refl)
forms_lawful (flags_form count) =
    mapped_lawful (map flag_item) (judge_flags count) (λ level. SpellsFlags level count) flags_bytes
    (form_bytes (flags_form count)) (flags_lawful count) (λ flags. ap flags_bytes (flags_of-map flags))
forms_lawful short_string_form =
    mapped_lawful (λ text. text_item text ∷ []) judge_short_string (λ level. SpellsShortString) short_string_bytes
    (form_bytes short_string_form) short_strings_lawful (λ text. refl)
forms_lawful long_string_form =
    mapped_lawful (λ bytes. bytes_item bytes ∷ []) judge_long_string (λ level. SpellsLongString) with_length
    (form_bytes long_string_form) long_strings_lawful (λ bytes. refl)
forms_lawful table_form =
    mapped_lawful (λ es. entries_item es ∷ []) judge_field_table SpellsFieldTable table_bytes (form_bytes table_form) tables_lawful (λ es. refl)

-- what a form gives: as many items, none of them long or too deep
pub record Gives (form : Form) (items : List Item) : Type 0 where
  pub count : length items ≡ item_count form
  pub not_deep : any_deep items ≡ false
  pub not_long : any_long items ≡ false

flags_length : (flags : List Bool) → length (map flag_item flags) ≡ length flags
flags_length [] = refl
flags_length (flag ∷ flags) = ap suc (flags_length flags)

flags_not_deep : (flags : List Bool) → any_deep (map flag_item flags) ≡ false
flags_not_deep [] = refl
flags_not_deep (flag ∷ flags) = flags_not_deep flags

flags_not_long : (flags : List Bool) → any_long (map flag_item flags) ≡ false
flags_not_long [] = refl
flags_not_long (flag ∷ flags) = flags_not_long flags

low : (n : ℕ) → n ≤ 64 → nat_lt 64 n ≡ false
low n h = grind (arith, nat_tests)

-- A form that is encoded gives as many items as it counts, and none of them is long or too deep.
pub form_gives : (form : Form) (bytes : List ℕ) (items : List Item) → SpellsForm plain form bytes items → Gives form items
unfolding is_deep_table is_long_table
form_gives (number_form width) bytes items h = subst (Gives (number_form width)) (sym h.made) (record { count = refl; not_deep = refl; not_long = refl })
form_gives (flags_form count) bytes items h =
    let byte = h.spelled in
    subst (Gives (flags_form count)) (sym h.made) (record {
      count = flags_length h.thing ∙ ap length byte.flags_are ∙ flags_from_length count 0 byte.byte;
      not_deep = flags_not_deep h.thing;
      not_long = flags_not_long h.thing;
    })
form_gives short_string_form bytes items h = subst (Gives short_string_form) (sym h.made) (record { count = refl; not_deep = refl; not_long = refl })
form_gives long_string_form bytes items h =
    subst (Gives long_string_form) (sym h.made)
    (record { count = refl; not_deep = refl; not_long = neither _ false (below_limit (length h.thing) h.spelled.fits) refl })
form_gives table_form bytes items h =
    let b = table_bounded 63 (SpellsValue plain 63) (value_bounded 63) bytes h.thing h.spelled in
    subst (Gives table_form) (sym h.made) (record {
      count = refl;
      not_deep = neither _ false (low (depth (table_value (entries_of h.thing))) b.not_deep) refl;
      not_long = neither _ false b.not_long refl;
    })
