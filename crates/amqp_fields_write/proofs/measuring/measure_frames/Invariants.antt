-- `measure_frames`: what the loop keeps.
use Rattle.amqp_fields_write.proofs
use proofs.Names.{drop, made_frames}
use proofs.Combined.{Onward}
use proofs.measuring.measure_frames.Given as goal

abbrev pub invariant-loop-place : goal.invariant-loop-place
invariant-loop-place l =
    Onward (made_frames l.pool l.nodes l.max_payload 0 l.heads) (made_frames l.pool l.nodes l.max_payload l.place (drop l.place l.heads)) l.count
