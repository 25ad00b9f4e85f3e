-- the calls of cycle `read`: what loops keep and what falls with each iteration or call.
use Rattle.amqp_lines.proofs
use proofs.Names.{◌+◌, ◌*◌, closing, inside, listed, or_comma, read_item, read_value}
use proofs.ReadSteps.{ReadsOn}
use proofs.reading.values.+read.Given as goal

abbrev pub decreases-read_list : goal.decreases-read_list
decreases-read_list l = 5 * l.depth_left

abbrev pub decreases-read_after_tag : goal.decreases-read_after_tag
decreases-read_after_tag l = 5 * l.depth_left + 1

abbrev pub decreases-read_value : goal.decreases-read_value
decreases-read_value l = 5 * l.depth_left + 2

abbrev pub decreases-read_item : goal.decreases-read_item
decreases-read_item l = 5 * l.depth_left + 3

abbrev pub decreases-read_items : goal.decreases-read_items
decreases-read_items l = 5 * l.depth_left + 4

abbrev pub decreases-read_items-items : goal.decreases-read_items-items
decreases-read_items-items l = l.left

abbrev pub invariant-read_items-items : goal.invariant-read_items-items
invariant-read_items-items l =
    let item = or_comma (read_item (read_value l.depth_left) l.keyed) in
    ReadsOn (inside item (closing l.keyed) l.i) (listed item (closing l.keyed) l.left l.rest) l.fn.out.items l.out.items
