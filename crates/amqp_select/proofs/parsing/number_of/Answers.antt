-- `number_of`: what it ensures.
use Rattle.amqp_select.proofs.Numerals.{text_of_digits}
use Rattle.amqp_select.proofs.parsing.number_of.Goals as goal

pub returns-in_default : goal.returns-in_default
returns-in_default c = absurd (c.in_default.ensures.cases.0 (text_of_digits c.args.digits.now c.requires))
