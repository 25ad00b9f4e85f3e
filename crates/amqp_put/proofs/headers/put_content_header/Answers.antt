-- `put_content_header`: two bytes hold the mask, and numbers have no flaw.
use Rattle.std.proofs.Common.{rules, arith}
use Rattle.amqp_types.specs.Properties.{properties, later_properties}
use Rattle.amqp_put.specs.Headers.{options_of}
use Rattle.amqp_put.proofs.HeadersMade.{mask_fits}
use Rattle.amqp_put.proofs.HeaderFlaws.{given_made}
use Rattle.amqp_put.proofs.headers.put_content_header.Goals as goal

pub overflow_cast-mask : goal.overflow_cast-mask
unfolding properties later_properties
overflow_cast-mask c =
    let below = mask_fits c.mask-mask.result (options_of c.args.properties.now) (c.mask-mask.ensures.bits 15 (omega arith) (omega arith)) in
    search rules

pub put_header-requires-clause-mask : goal.put_header-requires-clause-mask
unfolding properties later_properties
put_header-requires-clause-mask c = c.mask-mask.ensures.bits 15 (omega arith) (omega arith)

pub returns : goal.returns
returns c =
    given_made c.args.properties.now c.args.out.now c.put_header.new.out c.args.max_payload c.args.channel c.args.class c.args.body_size c.put_header.result
    c.put_header.ensures
