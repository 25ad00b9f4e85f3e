-- The payloads of methods and content headers, by their parts.
use Rattle.std.specs.Prelude.{ℕ, List, ◌∷◌, ◌++◌}
use Rattle.amqp_types.specs.ContentHeaders.{judge_content_header, content_header_bytes}
use Rattle.amqp_types.specs.Methods.{judge_payload, payload_bytes}
use Rattle.amqp_types.specs.Numbers.{bytes2, bytes8, number_bytes}
use Rattle.amqp_canonical.specs.Writes.{canonical_of}

-- the payload of a method: the ids of its class and of the method, and its fields (AMQP
-- 0-9-1, section 4.2.4)
abbrev pub method_payload : ℕ → ℕ → List ℕ → List ℕ
method_payload class id slots = number_bytes bytes2 class ++ (number_bytes bytes2 id ++ slots)

-- the payload of a content header: class id, weight, body size, and the properties from their mask
-- on (section 4.2.6.1)
abbrev pub header_payload : ℕ → ℕ → List ℕ → List ℕ
header_payload class size properties =
    number_bytes bytes2 class ++ (0 ∷ 0 ∷ (number_bytes bytes8 size ++ properties))

-- the canonical bytes of the method that a payload was decoded to
abbrev pub canonical_method : List ℕ → List ℕ
canonical_method payload = canonical_of payload_bytes (judge_payload payload)

-- the canonical bytes of the content header that a payload was decoded to
abbrev pub canonical_header : List ℕ → List ℕ
canonical_header payload = canonical_of content_header_bytes (judge_content_header payload)
