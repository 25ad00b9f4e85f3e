-- `put_by_mask`: each property is set where the mask has its bit, and numbers have no flaw.
use Rattle.std.proofs.Common.{rules, ◌<◌, ◌^◌}
use Rattle.amqp_put.proofs.HeaderFlaws.{masked_mask, masked_made}
use Rattle.amqp_put.proofs.headers.put_by_mask.Goals as goal

pub put_header-requires-clause-mask : goal.put_header-requires-clause-mask
put_header-requires-clause-mask g c =
    let fits : c.args.properties.now.mask < 2 ^ 16 = search rules in
    masked_mask c.args.properties.now (g.T.ToItem.item c.args.headers)
    _ _ _ _ _ _ _ _ _ _ _ _ _ _ _ _ _ _ _ _ _ _ _ _
    fits c.requires.header.second c.requires.header.lowest
    c.text-2.ensures.set c.text-2.ensures.field
    c.rare_text-6.ensures.set c.rare_text-6.ensures.field
    c.has_bit-2.ensures
    c.has_bit-3.ensures
    c.has_bit-4.ensures
    c.text-3.ensures.set c.text-3.ensures.field
    c.text-4.ensures.set c.text-4.ensures.field
    c.rare_text.ensures.set c.rare_text.ensures.field
    c.text.ensures.set c.text.ensures.field
    c.has_bit.ensures
    c.rare_text-2.ensures.set c.rare_text-2.ensures.field
    c.rare_text-3.ensures.set c.rare_text-3.ensures.field
    c.rare_text-4.ensures.set c.rare_text-4.ensures.field
    c.rare_text-5.ensures.set c.rare_text-5.ensures.field

pub returns : goal.returns
returns g c =
    masked_made c.args.properties.now c.args.out.now c.put_header.new.out c.args.max_payload c.args.channel c.args.class c.args.body_size
    (g.T.ToItem.item c.args.headers) (g.T.ToSlot.flaw c.args.headers) c.put_header.result
    _ _ _ _ _ _ _ _ _ _ _ _ _ _ _ _ _ _ _ _ _ _ _ _
    c.text-2.ensures.set c.text-2.ensures.field
    c.rare_text-6.ensures.set c.rare_text-6.ensures.field
    c.has_bit-2.ensures
    c.has_bit-3.ensures
    c.has_bit-4.ensures
    c.text-3.ensures.set c.text-3.ensures.field
    c.text-4.ensures.set c.text-4.ensures.field
    c.rare_text.ensures.set c.rare_text.ensures.field
    c.text.ensures.set c.text.ensures.field
    c.has_bit.ensures
    c.rare_text-2.ensures.set c.rare_text-2.ensures.field
    c.rare_text-3.ensures.set c.rare_text-3.ensures.field
    c.rare_text-4.ensures.set c.rare_text-4.ensures.field
    c.rare_text-5.ensures.set c.rare_text-5.ensures.field
    c.put_header.ensures
