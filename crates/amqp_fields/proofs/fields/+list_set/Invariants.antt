-- `list_set`, which calls itself: what falls with each iteration or call.
use Rattle.amqp_fields.proofs.fields.+list_set.Given as goal

abbrev pub decreases-list_set : goal.decreases-list_set
decreases-list_set l = l.mask
