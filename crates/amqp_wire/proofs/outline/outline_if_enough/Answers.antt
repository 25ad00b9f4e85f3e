-- `outline_if_enough`: clause `whole`.
use Rattle.std.proofs.Common.{refl, Some, ap, sym, subst, ◌∙◌, arith}
use Rattle.std.specs.Prelude.{IsOk}
use Rattle.amqp_wire.specs.Verdicts.{decode_payload}
use Rattle.amqp_wire.proofs.Outlined.{enough_whole, outlined}
use Rattle.amqp_wire.proofs.outline.outline_if_enough.Goals as goal

pub returns-then-is_enough-clause-whole : goal.returns-then-is_enough-clause-whole
returns-then-is_enough-clause-whole c = λ frame h.
    ap Some
    (c.outline_at.ensures ∙ (outlined c.args.frame_type c.args.channel_id c.args.payload.now frame (λ i. omega (arith, c.type_inv.payload i)) h).outline_is)

pub returns-else-is_enough-clause-whole : goal.returns-else-is_enough-clause-whole
returns-else-is_enough-clause-whole c = λ frame h.
    let read = decode_payload c.args.frame_type c.args.channel_id c.args.payload.now in
    let enough =
    enough_whole c.args.frame_type c.args.channel_id c.args.payload.now read (λ i. omega (arith, c.type_inv.payload i)) refl (subst IsOk (sym h) refl) in
    absurd (let yes-is = c.is_enough.ensures.1 enough in let no-is = c.if-is_enough.false in cc)
