-- What is read of a word, from the left.
use Rattle.std.specs.Prelude.{◌≡◌, ℕ, List, [], ◌∷◌, length, take, drop, Bool, true, false, nat_le}
use Rattle.std.specs.Prelude.{Option, Some, None, codes, if◌then◌else◌}
use Rattle.std.specs.Char.{is_ascii_digit}
use Rattle.std.specs.List.{prefix_len}
use Rattle.std.specs.Option.{option_map}
use Rattle.std.specs.Str.{bytes_eq}
use Rattle.amqp_types.specs.Numerals.{number_named}
use Rattle.amqp_types.specs.Reading.{Reading, ◌>>=◌}
use Rattle.amqp_wire.specs.declared.frame_type.AMQPFrameType.{AMQPFrameType}
use Rattle.amqp_wire.specs.declared.frame_type.AMQPFrameType.TheVariants as kinds
use Rattle.amqp_select.specs.declared.rule.Span.{Span}
use Rattle.amqp_select.specs.declared.rule.Span.TheVariants as spans
use Rattle.amqp_select.specs.declared.rule.Rule.{Rule}

-- a call gives what is read; the bytes after it are borrowed
abbrev pub Gives : {A R : Type 0} → (R → List ℕ) → Option (A × R) → Reading A → Type 0
Gives bytes_of result read = option_map (λ found. (found.0, bytes_of found.1)) result ≡ read

-- the bytes after this text, where it stands in front
abbrev pub after : List ℕ → List ℕ → Option (List ℕ)
after text bytes =
    if bytes_eq (take (length text) bytes) text then Some (drop (length text) bytes) else None

-- one of several things, each by its text
abbrev pub or_else : {A : Type 0} → Option (List ℕ) → A → Reading A → Reading A
or_else None a others = others
or_else (Some rest) a others = Some (a, rest)

-- whether to keep or to drop
abbrev pub read_verb : List ℕ → Reading Bool
read_verb bytes =
    or_else (after (codes "keep") bytes) true (or_else (after (codes "drop") bytes) false None)

-- the number of digits in front
abbrev pub digits_in_front : List ℕ → ℕ
digits_in_front bytes = prefix_len is_ascii_digit bytes

-- the number up to 65535 that the digits in front name, without a leading zero
abbrev pub read_count : List ℕ → Reading ℕ
read_count bytes =
    option_map (λ n. (n, drop (digits_in_front bytes) bytes))
    (number_named 65535 (take (digits_in_front bytes) bytes))

-- a range up to the number that was read, which is no less than its first
abbrev pub range_to : ℕ → Reading ℕ → Reading Span
range_to first None = None
range_to first (Some last) =
    if nat_le first last.0 then Some (spans.Range first last.0, last.1) else None

-- a channel alone, or the first of a range where a dash follows
abbrev pub span_from : ℕ × List ℕ → Option (List ℕ) → Reading Span
span_from first None = Some (spans.One first.0, first.1)
span_from first (Some rest) = range_to first.0 (read_count rest)

-- a channel or a range of channels
abbrev pub read_span : List ℕ → Reading Span
read_span bytes = do
  first ← read_count bytes
  span_from first (after (codes "-") first.1)

-- the kind of a frame
abbrev pub read_kind : List ℕ → Reading AMQPFrameType
read_kind bytes =
    or_else (after (codes "proto") bytes) kinds.ProtocolHeader
    (or_else (after (codes "method") bytes) kinds.Method
    (or_else (after (codes "header") bytes) kinds.Header
    (or_else (after (codes "body") bytes) kinds.Body
    (or_else (after (codes "beat") bytes) kinds.Heartbeat None))))

-- a part, where bytes are left for it
abbrev pub part_at : {A : Type 0} → (List ℕ → Reading A)
    → List ℕ → Option (List ℕ) → Reading (Option A)
part_at read bytes None = Some (None, bytes)
part_at read bytes (Some rest) = option_map (λ part. (Some part.0, part.1)) (read rest)

-- a part, where its name stands in front
abbrev pub read_part : {A : Type 0} → List ℕ → (List ℕ → Reading A) → List ℕ → Reading (Option A)
read_part name read bytes = part_at read bytes (after name bytes)

-- the rule, where nothing comes after it
abbrev pub at_end : Rule → List ℕ → Option Rule
at_end rule [] = Some rule
at_end rule (byte ∷ rest) = None

-- the rule that the whole word is
abbrev pub read_rule : List ℕ → Option Rule
read_rule word = do
  verb ← read_verb word
  channel ← read_part (codes ",channel=") read_span verb.1
  kind ← read_part (codes ",kind=") read_kind channel.1
  class ← read_part (codes ",class=") read_count kind.1
  method ← read_part (codes ",method=") read_count class.1
  at_end
      (record {
        keep = verb.0;
        channel = channel.0;
        kind = kind.0;
        class_id = class.0;
        method_id = method.0;
      })
      method.1
