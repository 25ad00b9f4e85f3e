-- `flags_are_lawful`: what it ensures.
use Rattle.amqp_types.proofs.FormLaws.{flags_lawful}
use Rattle.amqp_types.proofs.form_laws.flags_are_lawful.Goals as goal

pub returns : goal.returns
returns c = flags_lawful
