-- `spelled_payloads_are_bounded`: what it ensures.
use Rattle.amqp_laws.proofs.MethodLaws.{payloads_bounded}
use Rattle.amqp_values.proofs.method_laws.spelled_payloads_are_bounded.Goals as goal

pub returns : goal.returns
returns c = payloads_bounded
