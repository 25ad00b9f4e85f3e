-- `payloads_begin_with_ids`: what it ensures.
use Rattle.std.proofs.Common.{refl}
use Rattle.amqp_types.specs.Methods.{method_bytes, payload_bytes}
use Rattle.amqp_protocol.proofs.laws.payloads_begin_with_ids.Goals as goal

pub returns : goal.returns
unfolding method_bytes payload_bytes
returns c = λ m. refl
