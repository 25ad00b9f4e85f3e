-- the calls of cycle `measure`: what the loop keeps, and what falls with each iteration or call.
use Rattle.amqp_fields_write.proofs
use proofs.Names.{◌+◌, ◌*◌, length, made_item}
use Rattle.amqp_fields_write.specs.Made.{made_each}
use proofs.Combined.{Onward}
use proofs.measuring_values.+measure.Given as goal

abbrev pub decreases-measure_behind : goal.decreases-measure_behind
decreases-measure_behind l = 5 * l.depth_left

abbrev pub decreases-measure_value : goal.decreases-measure_value
decreases-measure_value l = 5 * l.depth_left + 1

abbrev pub decreases-measure_item : goal.decreases-measure_item
decreases-measure_item l = 5 * l.depth_left + 2

abbrev pub decreases-measure_each : goal.decreases-measure_each
decreases-measure_each l = 5 * l.depth_left + 3

abbrev pub decreases-measure_group : goal.decreases-measure_group
decreases-measure_group l = 5 * l.depth_left + 4

abbrev pub decreases-measure_each-loop-group : goal.decreases-measure_each-loop-group
decreases-measure_each-loop-group l = length l.rest

abbrev pub invariant-measure_each-loop-group : goal.invariant-measure_each-loop-group
invariant-measure_each-loop-group l =
    Onward (made_each (made_item l.entries l.pool l.depth_left) l.end 0 l.nodes) (made_each (made_item l.entries l.pool l.depth_left) l.end 0 l.rest) l.count
