-- Which rules can never be the first to match.
use Rattle.std.specs.Prelude.{ℕ, List, Bool, true, false, ◌&&◌, ◌==◌, nat_le, Option, Some, None}
use Rattle.std.specs.Prelude.{take, slice_get, position, is_none, if◌then◌else◌}
use Rattle.std.specs.Option.{option_and_then}
use Rattle.std.specs.List.{filter_map, enumerate_from}
use Rattle.amqp_wire.specs.declared.frame_type.AMQPFrameType.{AMQPFrameType}
use Rattle.amqp_wire.specs.declared.frame_type.AMQPFrameType.TheVariants as kinds
use Rattle.amqp_select.specs.declared.rule.Span.{Span}
use Rattle.amqp_select.specs.declared.rule.Span.TheVariants as spans
use Rattle.amqp_select.specs.declared.rule.Rule.{Rule}

-- the first and the last channel of a range
abbrev pub ends : Span → ℕ × ℕ
ends (spans.One only) = (only, only)
ends (spans.Range first last) = (first, last)

-- the second range lies in the first
abbrev pub includes : Span → Span → Bool
includes a b = nat_le (ends a).0 (ends b).0 && nat_le (ends b).1 (ends a).1

-- both kinds are the same
abbrev pub is_same_kind : AMQPFrameType → AMQPFrameType → Bool
is_same_kind kinds.ProtocolHeader kinds.ProtocolHeader = true
is_same_kind kinds.Method kinds.Method = true
is_same_kind kinds.Header kinds.Header = true
is_same_kind kinds.Body kinds.Body = true
is_same_kind kinds.Heartbeat kinds.Heartbeat = true
is_same_kind a b = false

-- a part, where the first rule has it, stands in the second too
abbrev pub stands : {A : Type 0} → (A → A → Bool) → Option A → Option A → Bool
stands same None part = true
stands same (Some a) None = false
stands same (Some a) (Some b) = same a b

-- Each part of the first rule stands in the second too: so all that the second matches
-- the first does.
abbrev pub covers : Rule → Rule → Bool
covers j k =
    stands includes j.channel k.channel
    && stands is_same_kind j.kind k.kind
    && stands (λ a b. a == b) j.class_id k.class_id
    && stands (λ a b. a == b) j.method_id k.method_id

-- the first of the earlier rules that covers rule k
abbrev pub covered : List Rule → ℕ → Option ℕ
covered rules k =
    option_and_then (λ rule. position (λ earlier. covers earlier rule) (take k rules))
    (slice_get rules k)

-- the rule at a place, unless an earlier one covers it
abbrev pub uncovered_at : List Rule → ℕ × Rule → Option Rule
uncovered_at rules place = if is_none (covered rules place.0) then Some place.1 else None

-- the rules that no earlier one covers, in order
abbrev pub uncovered : List Rule → List Rule
uncovered rules = filter_map (uncovered_at rules) (enumerate_from 0 rules)
