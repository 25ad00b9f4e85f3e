-- What is appended in order is canonical.
use Rattle.amqp_entries.proofs.Appended.{appended_in_order, appended_values}
use Rattle.amqp_entries.proofs.laws.appended_in_order_is_canonical.Goals as goal

pub returns : goal.returns
returns c = record { entries = appended_in_order; values = appended_values }
