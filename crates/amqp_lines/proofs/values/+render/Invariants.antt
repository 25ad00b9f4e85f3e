-- the calls of cycle `render`: what loops keep and what falls with each iteration or call.
use Rattle.amqp_lines.proofs
use proofs.Names.{◌+◌, ◌*◌, length, strict, SpellsEntry, SpellsValue, value_text, entry_text}
use proofs.Rendered.{GoesOn}
use proofs.values.+render.Given as goal

abbrev pub decreases-write_after_tag : goal.decreases-write_after_tag
decreases-write_after_tag l = 5 * l.depth_left

abbrev pub decreases-write_value : goal.decreases-write_value
decreases-write_value l = 5 * l.depth_left + 1

abbrev pub decreases-write_entry : goal.decreases-write_entry
decreases-write_entry l = 5 * l.depth_left + 2

abbrev pub decreases-write_values : goal.decreases-write_values
decreases-write_values l = 5 * l.depth_left + 3

abbrev pub decreases-write_entries : goal.decreases-write_entries
decreases-write_entries l = 5 * l.depth_left + 3

abbrev pub decreases-write_array : goal.decreases-write_array
decreases-write_array l = 5 * l.depth_left + 4

abbrev pub decreases-write_table : goal.decreases-write_table
decreases-write_table l = 5 * l.depth_left + 4

abbrev pub decreases-write_values-loop-rest : goal.decreases-write_values-loop-rest
decreases-write_values-loop-rest l = length l.rest

abbrev pub decreases-write_entries-loop-rest : goal.decreases-write_entries-loop-rest
decreases-write_entries-loop-rest l = length l.rest

abbrev pub invariant-write_values-loop-rest : goal.invariant-write_values-loop-rest
invariant-write_values-loop-rest l = GoesOn (SpellsValue strict l.depth_left) value_text l.content l.fn.out.items l.rest l.out.items

abbrev pub invariant-write_entries-loop-rest : goal.invariant-write_entries-loop-rest
invariant-write_entries-loop-rest l = GoesOn (SpellsEntry (SpellsValue strict l.depth_left)) entry_text l.content l.fn.out.items l.rest l.out.items
