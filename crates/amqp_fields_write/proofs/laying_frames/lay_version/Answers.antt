-- `lay_version`: what it ensures.
use Rattle.amqp_fields_write.proofs
use proofs.Names.{sym, ap, numbers, made_slots}
use proofs.FramesMade.{own_nodes, version_parts}
use proofs.Quick.{laid_after, laid_as}
use proofs.laying_frames.lay_version.Goals as goal

pub returns : goal.returns
returns g c =
    laid_as (version_parts _ _ _ c.args.head.now _ (own_nodes _ c.args.head.now _ c.in-Some.own c.nodes_of.ensures c.in-Some.is)
    c.nodes_end-end.ensures (grind numbers)
    (grind numbers))
    (laid_after c.lay-mark.ensures (laid_as
    (ap (λ slots. made_slots c.args.pool.now c.nodes_end-end.result 0 slots c.in-Some.own.now) (sym c.version_shapes.ensures.slots)) c.lay_slots.ensures))
