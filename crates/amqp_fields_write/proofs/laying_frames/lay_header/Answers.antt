-- `lay_header`: what it ensures.
use Rattle.amqp_fields_write.proofs
use proofs.FramesMade.{header_parts, own_nodes}
use proofs.Quick.{laid_after, laid_as, laid_until}
use proofs.laying_frames.lay_header.Goals as goal

pub returns : goal.returns
returns g c =
    laid_as (header_parts _ _ _ c.args.head.now _ (own_nodes _ c.args.head.now _ c.in-Some.own c.nodes_of.ensures c.in-Some.is)
    c.nodes_end-end.ensures c.if-head-ne0.false)
    (laid_after (laid_until c.lay_front-front.ensures) c.lay_properties.ensures)
