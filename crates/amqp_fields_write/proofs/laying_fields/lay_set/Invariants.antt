-- `lay_set`: what the loop keeps, and what falls with each iteration.
use Rattle.amqp_fields_write.proofs
use proofs.Names.{◌≡◌, ◌≤◌, ◌+◌, length}
use proofs.PropertiesMade.{bits_from, set_from}
use proofs.Quick.{Leads}
use proofs.laying_fields.lay_set.Given as goal

abbrev pub decreases-loop-found : goal.decreases-loop-found
decreases-loop-found g l = length l.rest

abbrev pub invariant-loop-found : goal.invariant-loop-found
invariant-loop-found g l = record {
  few : l.place ≤ 14;
  leads : Leads g.S.Sink.tests g.S.Sink.puts l.limit (set_from l.pool l.end 0 l.nodes) (set_from l.pool l.end l.place l.rest) l.fn.buf l.buf l.at l.made;
  mask_is : l.mask + bits_from l.place l.rest ≡ bits_from 0 l.nodes;
}
