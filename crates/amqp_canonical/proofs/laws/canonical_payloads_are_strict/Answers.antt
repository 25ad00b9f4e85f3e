-- `canonical_payloads_are_strict`: what it ensures.
use Rattle.amqp_laws.proofs.MethodLaws.{payloads_lawful}
use Rattle.amqp_canonical.proofs.Strict.{lawful_strict}
use Rattle.amqp_canonical.proofs.laws.canonical_payloads_are_strict.Goals as goal

pub returns : goal.returns
returns c = lawful_strict payloads_lawful
