-- `last_size_counts`: clauses `twice` and `last`.
use Rattle.amqp_recut.proofs.LawsAgain.{twice_is_once, last_size_counts}
use Rattle.amqp_recut.proofs.laws.last_size_counts.Goals as goal

pub returns-clause-twice : goal.returns-clause-twice
returns-clause-twice c = twice_is_once

pub returns-clause-last : goal.returns-clause-last
returns-clause-last c = last_size_counts
