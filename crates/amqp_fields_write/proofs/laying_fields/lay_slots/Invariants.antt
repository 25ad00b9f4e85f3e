-- `lay_slots`: what the loop keeps.
use Rattle.amqp_fields_write.proofs
use proofs.Names.{drop, slots_of, made_slots}
use proofs.Quick.{Leads}
use proofs.laying_fields.lay_slots.Given as goal

abbrev pub invariant-loop-shape : goal.invariant-loop-shape
invariant-loop-shape g l =
    Leads g.S.Sink.tests g.S.Sink.puts l.limit (made_slots l.pool l.end 0 (slots_of l.shapes) l.nodes)
    (made_slots l.pool l.end l.place (slots_of (drop l.shape-index l.shapes)) l.rest) l.fn.buf l.buf l.at l.made
