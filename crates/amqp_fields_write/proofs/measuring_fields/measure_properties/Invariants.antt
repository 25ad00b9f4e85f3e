-- `measure_properties`: what the loop keeps, and what falls with each iteration.
use Rattle.amqp_fields_write.proofs
use proofs.Names.{◌≤◌, length}
use proofs.Combined.{Onward}
use proofs.PropertiesMade.{set_from}
use proofs.measuring_fields.measure_properties.Given as goal

abbrev pub decreases-loop-found : goal.decreases-loop-found
decreases-loop-found l = length l.rest

abbrev pub invariant-loop-found : goal.invariant-loop-found
invariant-loop-found l = record { few : l.place ≤ 14; onward : Onward (set_from l.pool l.end 0 l.nodes) (set_from l.pool l.end l.place l.rest) l.count }
