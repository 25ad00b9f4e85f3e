-- `canonical_slots_are_strict`: what it ensures.
use Rattle.amqp_laws.proofs.SlotLaws.{slots_lawful}
use Rattle.amqp_canonical.proofs.Strict.{lawful_strict}
use Rattle.amqp_canonical.proofs.laws.canonical_slots_are_strict.Goals as goal

pub returns : goal.returns
returns c = λ slots least. lawful_strict (slots_lawful slots least)
