-- `classes_are_named`: what it ensures.
use Rattle.amqp_named_lines.proofs.ClassNames.{class_named}
use Rattle.amqp_named_lines.proofs.laws.classes_are_named.Goals as goal

pub returns : goal.returns
returns c = class_named
