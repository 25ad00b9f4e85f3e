-- Rules, and the one word that stands for each.
use Rattle.std.specs.Prelude.{ℕ, ◌≤◌, List, [], ◌++◌, Bool, true, false}
use Rattle.std.specs.Prelude.{Option, Some, None, codes, IfSome}
use Rattle.std.specs.Fmt.{decimal}
use Rattle.amqp_wire.specs.declared.frame_type.AMQPFrameType.{AMQPFrameType}
use Rattle.amqp_wire.specs.declared.frame_type.AMQPFrameType.TheVariants as kinds
use Rattle.amqp_select.specs.declared.rule.Span.{Span}
use Rattle.amqp_select.specs.declared.rule.Span.TheVariants as spans
use Rattle.amqp_select.specs.declared.rule.Rule.{Rule}

-- what numbers channels and ids are
abbrev pub IsNumber : ℕ → Type 0
IsNumber n = n ≤ 65535

-- a channel, or a range that ends no lower than it begins
abbrev pub IsSpanOfNumbers : Span → Type 0
IsSpanOfNumbers (spans.One only) = IsNumber only
IsSpanOfNumbers (spans.Range first last) = (first ≤ last) × IsNumber last

-- the rules that a word can stand for
pub record IsRule (rule : Rule) : Type 0 where
  pub channel : IfSome rule.channel IsSpanOfNumbers
  pub class_id : IfSome rule.class_id IsNumber
  pub method_id : IfSome rule.method_id IsNumber

-- the word for keeping or dropping
abbrev pub verb_text : Bool → List ℕ
verb_text true = codes "keep"
verb_text false = codes "drop"

-- a channel, or a range with a dash between its ends
abbrev pub span_text : Span → List ℕ
span_text (spans.One only) = decimal only
span_text (spans.Range first last) = decimal first ++ (codes "-" ++ decimal last)

-- the word for a kind of frames
abbrev pub type_text : AMQPFrameType → List ℕ
type_text kinds.ProtocolHeader = codes "proto"
type_text kinds.Method = codes "method"
type_text kinds.Header = codes "header"
type_text kinds.Body = codes "body"
type_text kinds.Heartbeat = codes "beat"

-- a part with its name in front, where it is there
abbrev pub part_text : {A : Type 0} → List ℕ → (A → List ℕ) → Option A → List ℕ
part_text name text None = []
part_text name text (Some part) = name ++ text part

-- the one word that is the rule
abbrev pub spelled : Rule → List ℕ
spelled rule =
    verb_text rule.keep
    ++ (part_text (codes ",channel=") span_text rule.channel
    ++ (part_text (codes ",kind=") type_text rule.kind
    ++ (part_text (codes ",class=") decimal rule.class_id
    ++ part_text (codes ",method=") decimal rule.method_id)))
