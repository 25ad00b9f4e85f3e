-- `outline_whole`: clause `frame`, and what calls require.
use Rattle.std.proofs.Common.{refl, ◌∙◌, arith}
use Rattle.amqp_wire.specs.Verdicts.{decode_payload}
use Rattle.amqp_wire.proofs.Outlined.{enough_whole, outlined}
use Rattle.amqp_wire.proofs.outline.outline_whole.Goals as goal

pub outline_at-requires : goal.outline_at-requires
outline_at-requires c =
    let read = decode_payload c.args.frame_type c.args.channel_id c.args.payload.now in
    enough_whole c.args.frame_type c.args.channel_id c.args.payload.now read (λ i. omega (arith, c.type_inv.payload i)) refl c.requires

pub returns-clause-frame : goal.returns-clause-frame
returns-clause-frame c = λ frame h.
    c.outline_at.ensures ∙ (outlined c.args.frame_type c.args.channel_id c.args.payload.now frame (λ i. omega (arith, c.type_inv.payload i)) h).outline_is
