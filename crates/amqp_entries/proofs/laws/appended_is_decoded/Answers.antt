-- What is appended is decoded.
use Rattle.amqp_entries.proofs.Appended.{appended_entry, appended_value}
use Rattle.amqp_entries.proofs.laws.appended_is_decoded.Goals as goal

pub returns : goal.returns
returns c = record { entry = appended_entry; value = appended_value }
