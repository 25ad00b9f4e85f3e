-- Which faults stand inside a payload, whatever its bytes are.
use Rattle.std.specs.Prelude.{◌≡◌, ℕ, List}
use Rattle.amqp_types.specs.Judging.{Fault, Judge, fault, unknown_class, unknown_method}
use Rattle.amqp_types.specs.Judging.{short_payload, not_utf8, unknown_tag, too_deep}
use Rattle.amqp_types.specs.Methods.{judge_payload}
use Rattle.amqp_types.specs.ContentHeaders.{judge_content_header}

-- a fault of what stands inside a payload, and not of the frame around it
abbrev pub IsInside : Fault → Type 0
IsInside unknown_class = Unit {0}
IsInside unknown_method = Unit {0}
IsInside short_payload = Unit {0}
IsInside not_utf8 = Unit {0}
IsInside unknown_tag = Unit {0}
IsInside too_deep = Unit {0}
IsInside bad = ⊥

-- decoding finds no other faults
abbrev pub FailsInside : {A : Type 0} → Judge A → Type 0
FailsInside judge = (bytes : List ℕ) (bad : Fault) → judge bytes ≡ fault bad → IsInside bad

-- the payload of a method is refused for what stands inside it alone: never for its frame, for
-- trailing bytes or as not tidy
abbrev pub PayloadsFailInside : Type 0
PayloadsFailInside = FailsInside judge_payload

-- the same of the payload of a content header
abbrev pub ContentHeadersFailInside : Type 0
ContentHeadersFailInside = FailsInside judge_content_header
