-- The header scan by its parts.
use Rattle.std.proofs.Common.{◌≡◌, ℕ, List, [], ◌∷◌, Some, None, Option, refl, ap, ◌∙◌}
use Rattle.amqp_types.specs.Judging.{Fault, took, fault}
use Rattle.amqp_wire.specs.declared.frame_type.AMQPFrameType.{AMQPFrameType}
use Rattle.amqp_wire.specs.declared.frame_type.AMQPFrameType.TheVariants as kinds
use Rattle.amqp_wire.specs.HeaderScan.{type_of, known_type, judge_frame_type, behind_type, scan}
use Rattle.amqp_wire.specs.Laws.{HeaderScanIsItsParts, behind_first}
use Rattle.amqp_wire.proofs.HeaderScan.{scan-none, scan-behind, raw_behind}

type_known : (o : Option AMQPFrameType) (kind : AMQPFrameType) (n : ℕ) → known_type o ≡ took kind n → o ≡ Some kind
type_known None kind n e = absurd cc
type_known (Some other) kind n e = let same : other ≡ kind = cc in ap Some same

type_unknown : (bytes : List ℕ) (bad : Fault) → judge_frame_type bytes ≡ fault bad → scan None bytes ≡ fault bad
unfolding scan
type_unknown [] bad e = absurd cc
type_unknown (b ∷ bytes) bad e = rw e refl

-- The header scan without a limit is put together of its parts.
pub scan_parts : HeaderScanIsItsParts
unfolding behind_type
scan_parts = record {
  none = scan-none None;
  unknown = type_unknown;
  version = λ byte bytes e. scan-behind None kinds.ProtocolHeader byte bytes (type_known (type_of byte) kinds.ProtocolHeader 1 e);
  framed = λ byte bytes kind other e.
      scan-behind None kind byte bytes (type_known (type_of byte) kind 1 e) ∙ ap behind_first (raw_behind None kind bytes other);
}
