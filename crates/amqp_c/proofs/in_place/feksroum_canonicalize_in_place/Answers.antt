-- `feksroum_canonicalize_in_place`: clause `enough`.
use Rattle.amqp_c.proofs.InPlace.{enough_room}
use Rattle.amqp_c.proofs.in_place.feksroum_canonicalize_in_place.Goals as goal

pub returns-in-Some-clause-enough : goal.returns-in-Some-clause-enough
returns-in-Some-clause-enough c = λ enough status. enough_room enough (c.canonicalize_within_on_stack.ensures.stops status).next

pub returns-in-Some-2-clause-enough : goal.returns-in-Some-2-clause-enough
returns-in-Some-2-clause-enough c = λ enough status. enough_room enough (c.canonicalize_within.ensures.stops status).next
