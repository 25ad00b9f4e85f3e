-- `given_length`: what the loop keeps.
use Rattle.amqp_fields_write.proofs
use proofs.Names.{◌≡◌, ◌<◌, ◌^◌, ◌+◌, drop, given_length, cut_long}
use proofs.measuring_frames.given_length.Given as goal

abbrev pub invariant-loop-node : goal.invariant-loop-node
invariant-loop-node l = (l.count < 2 ^ 64) × (cut_long (given_length l.nodes) ≡ cut_long (l.count + given_length (drop l.node-index l.nodes)))
