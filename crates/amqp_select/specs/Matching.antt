-- Which frames rules keep.
use Rattle.std.specs.Prelude.{ℕ, List, [], ◌∷◌, Bool, true, false, ◌&&◌, ◌==◌, nat_le, Option, Some}
use Rattle.std.specs.Prelude.{None, is_none, find, filter, if◌then◌else◌}
use Rattle.amqp_wire.specs.declared.frame_type.AMQPFrameType.{AMQPFrameType}
use Rattle.amqp_wire.specs.declared.frame_type.AMQPFrameType.TheVariants as kinds
use Rattle.amqp_wire.specs.declared.outline.FrameOutline.{FrameOutline}
use Rattle.amqp_wire.specs.declared.outline.FrameOutline.TheVariants as outlines
use Rattle.amqp_wire.specs.Frames.{Frame}
use Rattle.amqp_wire.specs.Outlines.{outline_channel, outline_of}
use Rattle.amqp_select.specs.declared.rule.Span.{Span}
use Rattle.amqp_select.specs.declared.rule.Span.TheVariants as spans
use Rattle.amqp_select.specs.declared.rule.Rule.{Rule}

-- the channel is in the range
abbrev pub contains : Span → ℕ → Bool
contains (spans.One only) channel = channel == only
contains (spans.Range first last) channel = nat_le first channel && nat_le channel last

-- the frame is of this kind; each heartbeat is one, whatever its channel
abbrev pub is_of_kind : AMQPFrameType → FrameOutline → Bool
is_of_kind kinds.ProtocolHeader outlines.ProtocolHeader = true
is_of_kind kinds.Method (outlines.Method channel class method) = true
is_of_kind kinds.Header (outlines.Header channel class size) = true
is_of_kind kinds.Body (outlines.Body channel count) = true
is_of_kind kinds.Heartbeat (outlines.Heartbeat channel) = true
is_of_kind kind outline = false

-- the frame is a method or a content header with this class id
abbrev pub has_class : ℕ → FrameOutline → Bool
has_class id (outlines.Method channel class method) = class == id
has_class id (outlines.Header channel class size) = class == id
has_class id outline = false

-- the frame is a method with this method id
abbrev pub has_method : ℕ → FrameOutline → Bool
has_method id (outlines.Method channel class method) = method == id
has_method id outline = false

-- a part that is not there holds of every frame
abbrev pub holds : {A : Type 0} → (A → Bool) → Option A → Bool
holds test None = true
holds test (Some part) = test part

-- each part of the rule holds of the frame
abbrev pub matches : Rule → FrameOutline → Bool
matches rule outline =
    holds (λ span. contains span (outline_channel outline)) rule.channel
    && holds (λ kind. is_of_kind kind outline) rule.kind
    && holds (λ id. has_class id outline) rule.class_id
    && holds (λ id. has_method id outline) rule.method_id

-- the rule has no part, so that it matches every frame
abbrev pub is_bare : Rule → Bool
is_bare rule =
    is_none rule.channel && is_none rule.kind && is_none rule.class_id && is_none rule.method_id

-- the first rule that matches the frame
abbrev pub first_match : List Rule → FrameOutline → Option Rule
first_match rules outline = find (λ rule. matches rule outline) rules

-- a first matching rule is there, and says keep
abbrev pub keeps : Option Rule → Bool
keeps None = false
keeps (Some rule) = rule.keep

-- the frame is kept: its first matching rule says so
abbrev pub decides : List Rule → FrameOutline → Bool
decides rules outline = keeps (first_match rules outline)

-- what a first rule without a part decides of every frame
abbrev pub decided_of_all : List Rule → Option Bool
decided_of_all [] = None
decided_of_all (rule ∷ rules) = if is_bare rule then Some rule.keep else None

-- the frames that are kept, in order
abbrev pub kept : List Rule → List Frame → List Frame
kept rules frames = filter (λ frame. decides rules (outline_of frame)) frames
