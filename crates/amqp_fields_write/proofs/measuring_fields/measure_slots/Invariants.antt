-- `measure_slots`: what the loop keeps.
use Rattle.amqp_fields_write.proofs
use proofs.Names.{drop, slots_of, made_slots}
use proofs.Combined.{Onward}
use proofs.measuring_fields.measure_slots.Given as goal

abbrev pub invariant-loop-shape : goal.invariant-loop-shape
invariant-loop-shape l =
    Onward (made_slots l.pool l.end 0 (slots_of l.shapes) l.nodes) (made_slots l.pool l.end l.place (slots_of (drop l.shape-index l.shapes)) l.rest) l.count
