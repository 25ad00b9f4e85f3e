-- `decode`: what a method ensures.
use Rattle.std.proofs.Common.{Ok, sym, subst}
use Rattle.amqp_fields.proofs.Names.{AMQPFrameType, Counts, listed_payload}
use Rattle.amqp_wire.specs.declared.frame_type.AMQPFrameType.TheVariants as kinds
use Rattle.amqp_wire.proofs.Judged.{judged_as, method_frame}
use Rattle.amqp_fields.proofs.decoding.decode.Goals as goal

pub returns-in-Some : goal.returns-in-Some
unfolding listed_payload
returns-in-Some g c =
    let raw = c.args.raw in
    let found = c.in-Some.found in
    let P : AMQPFrameType → Type 0 =
    λ kind. Counts (listed_payload kind c.args.deep c.args.end raw.payload.now) c.args.nodes.now c.args.count c.decode_method.new.nodes found.count in (
      judged_as raw.frame_type kinds.Method raw.channel_id raw.payload.now (Ok found.judged) c.in-Method.is
          (method_frame raw.channel_id raw.payload.now (Ok found.judged) c.in-Some.ensures.judged),
      subst P (sym c.in-Method.is) c.in-Some.ensures.counts,
    )
