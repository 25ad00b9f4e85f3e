-- Reading properties: the mask, and those that it says are set.
use Rattle.std.specs.Prelude.{ℕ, ◌+◌, List, [], ◌∷◌, drop, Bool, true, false, Option, Some, None}
use Rattle.amqp_types.specs.Judging.{Judge, took, ◌>>=◌}
use Rattle.amqp_types.specs.Sequences.{judge_map, judge_both}
use Rattle.amqp_types.specs.Numbers.{bytes2, judge_number}
use Rattle.amqp_types.specs.Flags.{flag_at}
use Rattle.amqp_types.specs.Slots.{Item, Form}
use Rattle.amqp_types.specs.SlotJudging.{judge_form}
use Rattle.amqp_types.specs.Properties.{Property, properties}

-- the first item, where there is one; the form of a property gives just one
abbrev pub first_item : List Item → Option Item
first_item [] = None
first_item (item ∷ items) = Some item

-- a form that is there or not
unfoldable pub judge_optional : Bool → Form → Judge (Option Item)
judge_optional true form bytes = judge_map first_item (judge_form form) bytes
judge_optional false form bytes = took None 0

-- the properties whose bits are set in the mask, one after another
unfoldable pub judge_set : ℕ → List Property → Judge (List (Option Item))
judge_set mask [] bytes = took [] 0
judge_set mask (p ∷ ps) bytes =
    judge_both (judge_optional (flag_at mask p.bit) p.form)
    (judge_set mask ps) (λ option options. option ∷ options) bytes

-- a mask of two bytes, and the properties that it says are set; its unused bits, 1
-- and 0, are ignored
unfoldable pub judge_properties : Judge (List (Option Item))
judge_properties bytes = do
  mask ← judge_number bytes2 bytes
  set ← judge_set mask.0 properties (drop mask.1 bytes)
  took set.0 (mask.1 + set.1)
