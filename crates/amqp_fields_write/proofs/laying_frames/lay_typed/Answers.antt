-- `lay_typed`: what it ensures.
use Rattle.amqp_fields_write.proofs
use proofs.QuickFrames.{enclosed, typed_laid}
use proofs.laying_frames.lay_typed.Goals as goal

pub returns : goal.returns
returns g c =
    typed_laid _ _ _ c.args.head.now c.if-head-eq-PROTOCOL_BYTE.false
    (enclosed _ _ c.args.head.now c.lay_payload-end.ensures c.plus-start.ensures c.plus-limit.ensures c.enclose.ensures)
