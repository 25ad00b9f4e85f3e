-- `lay_method`: what it ensures.
use Rattle.amqp_fields_write.proofs
use proofs.FramesMade.{known_slots, method_parts, own_nodes}
use proofs.Quick.{bytes_as, laid_after, laid_as, laid_until}
use proofs.laying_frames.lay_method.Goals as goal

pub returns : goal.returns
returns g c =
    let known = known_slots _ _ _ c.in-Some.shapes c.shapes_of.ensures.slots c.in-Some.is in
    laid_as (method_parts _ _ _ c.args.head.now _ (own_nodes _ c.args.head.now _ c.in-Some-nodes_of.own c.nodes_of.ensures c.in-Some-nodes_of.is)
    c.nodes_end-end.ensures _ known c.if-head-ne0.false)
    (laid_after (laid_until (bytes_as c.id_bytes.ensures c.lay-front.ensures)) c.lay_slots.ensures)
