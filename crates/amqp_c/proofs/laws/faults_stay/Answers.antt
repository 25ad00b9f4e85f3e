-- `faults_stay`: what it ensures.
use Rattle.amqp_c.proofs.Feeding.{faults_stay}
use Rattle.amqp_c.proofs.laws.faults_stay.Goals as goal

pub returns : goal.returns
returns c = faults_stay
