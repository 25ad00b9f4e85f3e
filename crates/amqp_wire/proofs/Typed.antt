-- The payloads of methods and content headers.
use Rattle.std.proofs.Common.{ℕ, Bool, List}
use Rattle.amqp_types.specs.Levels.{Level}
use Rattle.amqp_types.specs.Methods.{Method, judge_payload, payload_bytes}
use Rattle.amqp_types.specs.MethodSpelling.{SpellsPayload}
use Rattle.amqp_types.specs.ContentHeaders.{ContentHeader, judge_content_header, SpellsContentHeader, content_header_bytes}
use Rattle.amqp_types.specs.Tidiness.{is_tidy_payload, is_tidy_content_header}
use Rattle.amqp_laws.proofs.MethodLaws.{payloads_lawful}
use Rattle.amqp_laws.proofs.Tidiness.{payloads_decided}
use Rattle.amqp_laws.proofs.HeaderLaws.{content_headers_lawful}
use Rattle.amqp_laws.proofs.PropertyTidiness.{content_headers_decided}
use Rattle.amqp_wire.proofs.Payloads.{AreSpelled, AreWhole, AreAt, spells_at, whole_spells, spelled_whole, spelled_at}

-- whether the payload of a method is encoded at a level, once it is known to be decoded
abbrev pub method_at : Level → List ℕ → Method → Bool
method_at = spells_at payload_bytes is_tidy_payload

-- A payload that is decoded whole to a method, and has the level, encodes the method at that level; and what encodes one is such a payload.
pub method_spells : AreSpelled judge_payload SpellsPayload method_at
method_spells = whole_spells judge_payload SpellsPayload payload_bytes is_tidy_payload payloads_lawful payloads_decided

pub method_whole : AreWhole judge_payload SpellsPayload
method_whole = spelled_whole judge_payload SpellsPayload payload_bytes is_tidy_payload payloads_lawful payloads_decided

pub method_is_at : AreAt SpellsPayload method_at
method_is_at = spelled_at judge_payload SpellsPayload payload_bytes is_tidy_payload payloads_lawful payloads_decided

-- whether the payload of a content header is encoded at a level, once it is known to be decoded
abbrev pub header_at : Level → List ℕ → ContentHeader → Bool
header_at = spells_at content_header_bytes is_tidy_content_header

-- A payload that is decoded whole to a content header, and has the level, encodes it at that level; and what encodes one is such a payload.
pub header_spells : AreSpelled judge_content_header SpellsContentHeader header_at
header_spells =
    whole_spells judge_content_header SpellsContentHeader content_header_bytes is_tidy_content_header content_headers_lawful content_headers_decided

pub header_whole : AreWhole judge_content_header SpellsContentHeader
header_whole =
    spelled_whole judge_content_header SpellsContentHeader content_header_bytes is_tidy_content_header content_headers_lawful content_headers_decided

pub header_is_at : AreAt SpellsContentHeader header_at
header_is_at =
    spelled_at judge_content_header SpellsContentHeader content_header_bytes is_tidy_content_header content_headers_lawful content_headers_decided
