-- `fields_held`, which calls itself: what falls with each iteration or call.
use Rattle.std.proofs.Common.{length}
use Rattle.amqp_values.proofs.held_values.+fields_held.Given as goal

abbrev pub decreases-fields_held : goal.decreases-fields_held
decreases-fields_held l = length l.fields.now
