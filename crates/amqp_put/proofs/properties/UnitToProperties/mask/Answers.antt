-- None is set.
use Rattle.amqp_put.proofs.Masks.{mask_none}
use Rattle.amqp_put.proofs.properties.UnitToProperties.mask.Goals as goal

pub returns-clause-bits : goal.returns-clause-bits
returns-clause-bits c = λ bit is few. mask_none bit
