-- What is reported of a payload is the same on each channel.
use Rattle.amqp_wire.specs.Verdicts.{is_at, all_of, decode_raw, decode_payload}
use Rattle.std.proofs.Common.{arith, ◌≡◌, ℕ, ◌≤◌, List, length, Some, Result, Ok, Err, refl}
use Rattle.std.proofs.lemmas.Bool.{le-ltb}
use Rattle.amqp_types.specs.Judging.{Fault}
use Rattle.amqp_types.specs.Methods.{Method, judge_payload}
use Rattle.amqp_types.specs.ContentHeaders.{ContentHeader, judge_content_header}
use Rattle.amqp_wire.specs.declared.frame_type.AMQPFrameType.{AMQPFrameType}
use Rattle.amqp_wire.specs.declared.frame_type.AMQPFrameType.TheVariants as kinds
use Rattle.amqp_wire.specs.Frames.{raw_as}
use Rattle.amqp_wire.specs.HeaderScan.{type_of}
use Rattle.amqp_c.specs.declared.check.PayloadSummary.{PayloadSummary}
use Rattle.amqp_c.specs.Checks.{raw_after, summary_at, summary_of}
use Rattle.amqp_fields.specs.Meaning.{fields_of}

-- a payload is summed up alike on two channels
abbrev SumsAlike : AMQPFrameType → ℕ → ℕ → List ℕ → Type 0
SumsAlike kind a b payload =
    summary_at (raw_as kind a payload) (decode_raw (raw_as kind a payload)) ≡ summary_at (raw_as kind b payload) (decode_raw (raw_as kind b payload))

method_alike : (a b : ℕ) (payload : List ℕ) (read : Result Method Fault) → all_of judge_payload payload ≡ read → SumsAlike kinds.Method a b payload
unfolding decode_payload fields_of
method_alike a b payload (Ok m) e = rw (e, e, is_at) refl
method_alike a b payload (Err bad) e = rw e refl

header_alike : (a b : ℕ) (payload : List ℕ) (read : Result ContentHeader Fault)
    → all_of judge_content_header payload ≡ read → SumsAlike kinds.Header a b payload
unfolding decode_payload fields_of
header_alike a b payload read e = grind arith

all_alike : (kind : AMQPFrameType) (a b : ℕ) (payload : List ℕ) → SumsAlike kind a b payload
unfolding decode_payload fields_of
all_alike kind a b payload = grind (arith, method_alike, header_alike)

-- A payload of fewer than 2^32 bytes after a type byte that is known is a frame of this type on the channel.
pub raw-known : (byte channel : ℕ) (kind : AMQPFrameType) (payload : List ℕ) → type_of byte ≡ Some kind
    → length payload ≤ 4294967295 → raw_after byte channel payload ≡ Ok (raw_as kind channel payload)
raw-known byte channel kind payload e few = rw (e, le-ltb 4294967295 (length payload) few) refl

-- what is reported of a payload after a type byte, on any channel
pub summary_known : (byte channel : ℕ) (kind : AMQPFrameType) (payload : List ℕ) (summary : PayloadSummary) → type_of byte ≡ Some kind
    → length payload ≤ 4294967295 → summary ≡ summary_at (raw_as kind 0 payload) (decode_raw (raw_as kind 0 payload))
    → summary ≡ summary_of (raw_after byte channel payload)
summary_known byte channel kind payload summary e few is = grind (arith, all_alike, raw-known)
