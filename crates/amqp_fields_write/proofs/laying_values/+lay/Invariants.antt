-- the calls of cycle `lay`: what the loop keeps, and what falls with each iteration or call.
use Rattle.amqp_fields_write.proofs
use proofs.Names.{◌+◌, ◌*◌, length, made_item}
use Rattle.amqp_fields_write.specs.Made.{made_each}
use proofs.Quick.{Leads}
use proofs.laying_values.+lay.Given as goal

abbrev pub decreases-lay_after_tag : goal.decreases-lay_after_tag
decreases-lay_after_tag g l = 4 * l.depth_left

abbrev pub decreases-lay_value : goal.decreases-lay_value
decreases-lay_value g l = 4 * l.depth_left + 1

abbrev pub decreases-lay_each : goal.decreases-lay_each
decreases-lay_each g l = 4 * l.depth_left + 2

abbrev pub decreases-lay_group : goal.decreases-lay_group
decreases-lay_group g l = 4 * l.depth_left + 3

abbrev pub decreases-lay_each-loop-group : goal.decreases-lay_each-loop-group
decreases-lay_each-loop-group g l = length l.rest

abbrev pub invariant-lay_each-loop-group : goal.invariant-lay_each-loop-group
invariant-lay_each-loop-group g l =
    Leads g.S.Sink.tests g.S.Sink.puts l.limit (made_each (made_item l.entries l.pool l.depth_left) l.end 0 l.nodes)
    (made_each (made_item l.entries l.pool l.depth_left) l.end 0 l.rest) l.fn.buf l.buf l.at l.place
