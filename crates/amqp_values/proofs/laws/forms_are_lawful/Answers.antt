-- `forms_are_lawful`: what it ensures.
use Rattle.amqp_laws.proofs.SlotForms.{forms_lawful}
use Rattle.amqp_values.proofs.laws.forms_are_lawful.Goals as goal

pub returns : goal.returns
returns c = forms_lawful
