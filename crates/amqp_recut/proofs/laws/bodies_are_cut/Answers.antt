-- `bodies_are_cut`: clauses `cut` and `stay`.
use Rattle.amqp_recut.proofs
use proofs.LawsOnce.{bodies_are_cut}
use proofs.LawsAgain.{cut_bodies_stay}
use proofs.laws.bodies_are_cut.Goals as goal

pub returns-clause-cut : goal.returns-clause-cut
returns-clause-cut c = bodies_are_cut

pub returns-clause-stay : goal.returns-clause-stay
returns-clause-stay c = cut_bodies_stay
