-- `messages_stay`: clauses `turn` and `messages`.
use Rattle.amqp_recut.proofs.LawsOnce.{stays_in_turn, messages_stay}
use Rattle.amqp_recut.proofs.laws.messages_stay.Goals as goal

pub returns-clause-turn : goal.returns-clause-turn
returns-clause-turn c = stays_in_turn

pub returns-clause-messages : goal.returns-clause-messages
returns-clause-messages c = messages_stay
