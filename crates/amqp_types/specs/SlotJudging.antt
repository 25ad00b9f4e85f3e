-- Reading fields from the left out of one payload.
use Rattle.std.specs.Prelude.{◌≡◌, ℕ, ◌-◌, List, [], ◌∷◌, ◌++◌, length, drop, map, Result, Ok, Err}
use Rattle.amqp_types.specs.Judging.{Judge, took}
use Rattle.amqp_types.specs.Answers.{Refuses}
use Rattle.amqp_types.specs.Sequences.{judge_map, judge_both}
use Rattle.amqp_types.specs.Numbers.{judge_number}
use Rattle.amqp_types.specs.Flags.{judge_flags}
use Rattle.amqp_types.specs.Strings.{judge_short_string, judge_long_string}
use Rattle.amqp_types.specs.ValueJudging.{judge_field_table}
use Rattle.amqp_types.specs.Slots.{Item, number_item, flag_item, text_item, bytes_item}
use Rattle.amqp_types.specs.Slots.{entries_item, Form, number_form, flags_form, short_string_form}
use Rattle.amqp_types.specs.Slots.{long_string_form, table_form, Slot, kept_slot, reserved_slot}
use Rattle.amqp_types.specs.declared.errors.ParserError.{ParserError}

-- what a form gives
unfoldable pub judge_form : Form → Judge (List Item)
judge_form (number_form width) = judge_map (λ n. number_item n ∷ []) (judge_number width)
judge_form (flags_form count) = judge_map (map flag_item) (judge_flags count)
judge_form short_string_form = judge_map (λ text. text_item text ∷ []) judge_short_string
judge_form long_string_form = judge_map (λ bytes. bytes_item bytes ∷ []) judge_long_string
judge_form table_form = judge_map (λ es. entries_item es ∷ []) judge_field_table

-- a form that is read and dropped
unfoldable pub judge_dropped : Form → Judge (List Item)
judge_dropped form = judge_map (λ items. []) (judge_form form)

-- a field that is kept gives its items, and one that is reserved gives none, whether or not it
-- holds its constant
abbrev pub judge_slot : Slot → Judge (List Item)
judge_slot (kept_slot form) = judge_form form
judge_slot (reserved_slot form constant) = judge_dropped form

-- fields, one after another
unfoldable pub judge_slots : List Slot → Judge (List Item)
judge_slots [] bytes = took [] 0
judge_slots (slot ∷ slots) bytes =
    judge_both (judge_slot slot) (judge_slots slots) (λ xs ys. xs ++ ys) bytes

-- A step of a reader, whose bytes left were old and are new: what its result stands for was
-- taken, or it refused.
abbrev pub Steps : {X Y : Type 0} → (X → Y)
    → Result X ParserError → List ℕ → List ℕ → Judge Y → Type 0
Steps view (Ok x) old new judge =
    (judge old ≡ took (view x) (length old - length new))
    × (new ≡ drop (length old - length new) old)
Steps view (Err error) old new judge = Refuses error (judge old)
