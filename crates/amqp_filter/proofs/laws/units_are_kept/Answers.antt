-- `units_are_kept`: clauses `units`, `others`, `turn` and `messages`.
use Rattle.amqp_filter.proofs.LawsMessages.{left_in_turn, messages_are_kept}
use Rattle.amqp_filter.proofs.LawsStates.{others_are_kept}
use Rattle.amqp_filter.proofs.LawsUnits.{units_are_kept}
use Rattle.amqp_filter.proofs.laws.units_are_kept.Goals as goal

pub returns-clause-units : goal.returns-clause-units
returns-clause-units c = units_are_kept

pub returns-clause-others : goal.returns-clause-others
returns-clause-others c = others_are_kept

pub returns-clause-turn : goal.returns-clause-turn
returns-clause-turn c = left_in_turn

pub returns-clause-messages : goal.returns-clause-messages
returns-clause-messages c = messages_are_kept
