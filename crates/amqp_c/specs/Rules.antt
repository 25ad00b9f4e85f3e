-- Rules by numbers.
use Rattle.std.specs.Prelude.{◌≡◌, ◌==◌, ℕ, nat_le, Bool, true, false, if◌then◌else◌, List, map}
use Rattle.std.specs.Prelude.{Option, Some, None, is_some, unwrap_or}
use Rattle.std.specs.Option.{option_and_then, option_map}
use Rattle.std.specs.List.{AllByRecursion, filter_map, list_all}
use Rattle.amqp_types.specs.Flags.{bit_of}
use Rattle.amqp_wire.specs.declared.frame_type.AMQPFrameType.{AMQPFrameType}
use Rattle.amqp_wire.specs.declared.frame_type.AMQPFrameType.TheVariants as kinds
use Rattle.amqp_wire.specs.declared.outline.FrameOutline.{FrameOutline}
use Rattle.amqp_wire.specs.declared.outline.FrameOutline.TheVariants as outlines
use Rattle.amqp_wire.specs.HeaderScan.{type_of}
use Rattle.amqp_wire.specs.Spelling.{byte_of}
use Rattle.amqp_select.specs.declared.rule.Rule.{Rule}
use Rattle.amqp_select.specs.declared.rule.Span.{Span}
use Rattle.amqp_select.specs.declared.rule.Span.TheVariants as spans
use Rattle.amqp_select.specs.Covering.{ends}
use Rattle.amqp_select.specs.Matching.{decides}
use Rattle.amqp_select.specs.Rules.{IsRule}
use Rattle.amqp_c.specs.declared.rules.FrameRule.{FrameRule}
use Rattle.amqp_c.specs.Statuses.{bad_argument}

-- no rule
abbrev pub no_rule : FrameRule
no_rule = record {
  first_channel = 0;
  last_channel = 0;
  class_id = 0;
  method_id = 0;
  keep = 0;
  has_channels = 0;
  frame_type = 0;
  has_class = 0;
  has_method = 0;
  status = bad_argument;
}

-- the first and the last channel of a part, 0 and 0 where there is none
abbrev pub ends_of : Option Span → ℕ × ℕ
ends_of None = (0, 0)
ends_of (Some span) = ends span

-- the first byte of frames of a type, 0 for any
abbrev pub type_byte : Option AMQPFrameType → ℕ
type_byte None = 0
type_byte (Some kind) = byte_of kind

-- the numbers of a rule
abbrev pub numbers_of : Rule → FrameRule
numbers_of rule = record {
  first_channel = (ends_of rule.channel).0;
  last_channel = (ends_of rule.channel).1;
  class_id = unwrap_or rule.class_id 0;
  method_id = unwrap_or rule.method_id 0;
  keep = bit_of rule.keep;
  has_channels = bit_of (is_some rule.channel);
  frame_type = type_byte rule.kind;
  has_class = bit_of (is_some rule.class_id);
  has_method = bit_of (is_some rule.method_id);
  status = 0;
}

-- what 0 and 1 say
abbrev pub flag_at : ℕ → Option Bool
flag_at byte = if byte == 0 then Some false else (if byte == 1 then Some true else None)

-- a part that is there where a flag says so
abbrev pub where_set : {A : Type 0} → Option Bool → Option A → Option (Option A)
where_set None part = None
where_set (Some false) part = Some None
where_set (Some true) None = None
where_set (Some true) (Some part) = Some (Some part)

-- the part on an id
abbrev pub part_in : ℕ → ℕ → Option (Option ℕ)
part_in has id = where_set (flag_at has) (Some id)

-- the part on channels; a range ends no lower than it begins
abbrev pub span_in : ℕ → ℕ → ℕ → Option (Option Span)
span_in has first last =
    where_set (flag_at has) (if nat_le first last then Some (spans.Range first last) else None)

-- the part on the type
abbrev pub kind_in : ℕ → Option (Option AMQPFrameType)
kind_in byte = if byte == 0 then Some None else option_map (λ kind. Some kind) (type_of byte)

-- a rule of these parts
abbrev pub rule_with : Bool → Option Span → Option AMQPFrameType → Option ℕ → Option ℕ → Rule
rule_with keep channel kind class method =
    record { keep = keep; channel = channel; kind = kind; class_id = class; method_id = method }

-- the rule that has these numbers
abbrev pub rule_in : FrameRule → Option Rule
rule_in n =
    if n.status == 0 then
    option_and_then (λ keep.
    option_and_then (λ channel.
    option_and_then (λ kind.
    option_and_then (λ class. option_map (λ method. rule_with keep channel kind class method)
    (part_in n.has_method n.method_id)) (part_in n.has_class n.class_id)) (kind_in n.frame_type))
    (span_in n.has_channels n.first_channel n.last_channel))
    (flag_at n.keep)
    else None

-- the outline of a frame by its numbers; no rule asks for its sizes
abbrev pub outline_on : AMQPFrameType → ℕ → ℕ → ℕ → FrameOutline
outline_on kinds.ProtocolHeader channel class method = outlines.ProtocolHeader
outline_on kinds.Method channel class method = outlines.Method channel class method
outline_on kinds.Header channel class method = outlines.Header channel class 0
outline_on kinds.Body channel class method = outlines.Body channel 0
outline_on kinds.Heartbeat channel class method = outlines.Heartbeat channel

-- what rules decide of a frame, where each of them is one
abbrev pub decision : List FrameRule → FrameOutline → ℕ
decision rules outline =
    if list_all (λ n. is_some (rule_in n)) rules
    then bit_of (decides (filter_map rule_in rules) outline) else bad_argument

-- the same after a type; a byte that names none comes first
abbrev pub decided_after : List FrameRule → Option AMQPFrameType → ℕ → ℕ → ℕ → ℕ
decided_after rules None channel class method = 10
decided_after rules (Some kind) channel class method =
    decision rules (outline_on kind channel class method)

-- Rules by their numbers decide as the rules do.
abbrev pub NumbersDecideAlike : Type 0
NumbersDecideAlike =
    (rules : List Rule) (outline : FrameOutline) → AllByRecursion IsRule rules
    → decision (map numbers_of rules) outline ≡ bit_of (decides rules outline)
