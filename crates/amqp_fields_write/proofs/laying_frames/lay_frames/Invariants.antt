-- `lay_frames`: what the loop keeps.
use Rattle.amqp_fields_write.proofs
use proofs.Names.{drop, made_frames}
use Rattle.amqp_fields_write.specs.Quick.{nowhere}
use proofs.Quick.{Leads}
use proofs.laying_frames.lay_frames.Given as goal

abbrev pub invariant-loop-head : goal.invariant-loop-head
invariant-loop-head g l =
    Leads g.S.Sink.tests g.S.Sink.puts nowhere (made_frames l.pool l.nodes l.max_payload 0 l.heads)
    (made_frames l.pool l.nodes l.max_payload l.head-index (drop l.head-index l.heads)) l.fn.buf l.buf 0 l.made
