-- `lent_as`: clauses `same` and `within` and what calls require.
use Rattle.std.proofs.Common.{[], length, sym, ap, subst, ◌∙◌, arith}
use Rattle.std.specs.Prelude.{IsOk}
use Rattle.amqp_wire.specs.declared.frame_type.AMQPFrameType.{AMQPFrameType}
use Rattle.amqp_wire.specs.declared.frame_type.AMQPFrameType.TheVariants as kinds
use Rattle.amqp_wire.specs.Frames.{Raw}
use Rattle.amqp_wire.specs.Verdicts.{decode_raw, decode_payload}
use Rattle.amqp_lent.proofs.Standing.{beat_any, header_long, method_long, ok_is, version_any, version_long}
use Rattle.amqp_lent.proofs.frame.lent_as.Goals as goal

pub version_in-requires : goal.version_in-requires
version_in-requires c =
    let P : AMQPFrameType → Type 0 = λ k. IsOk (decode_payload k c.args.channel c.args.payload.now) in
    let one = ok_is (decode_payload kinds.ProtocolHeader c.args.channel c.args.payload.now) (subst P c.in-ProtocolHeader.is c.requires.whole) in
    version_long c.args.channel c.args.payload.now one.0 one.1

pub method_in-requires : goal.method_in-requires
method_in-requires c =
    let P : AMQPFrameType → Type 0 = λ k. IsOk (decode_payload k c.args.channel c.args.payload.now) in
    let one = ok_is (decode_payload kinds.Method c.args.channel c.args.payload.now) (subst P c.in-Method.is c.requires.whole) in
    method_long c.args.channel c.args.payload.now one.0 one.1

pub header_in-requires : goal.header_in-requires
header_in-requires c =
    let P : AMQPFrameType → Type 0 = λ k. IsOk (decode_payload k c.args.channel c.args.payload.now) in
    let one = ok_is (decode_payload kinds.Header c.args.channel c.args.payload.now) (subst P c.in-Header.is c.requires.whole) in
    header_long c.args.channel c.args.payload.now one.0 one.1

pub returns-in-ProtocolHeader-clause-same : goal.returns-in-ProtocolHeader-clause-same
returns-in-ProtocolHeader-clause-same c =
    ap (λ (r : Raw). decode_raw r) c.version_in.ensures ∙ version_any 0 c.args.channel c.args.payload.now
    ∙ sym (ap (λ k. decode_payload k c.args.channel c.args.payload.now) c.in-ProtocolHeader.is)

pub returns-in-Method-clause-same : goal.returns-in-Method-clause-same
returns-in-Method-clause-same c =
    ap (λ (r : Raw). decode_raw r) c.method_in.ensures ∙ sym (ap (λ k. decode_payload k c.args.channel c.args.payload.now) c.in-Method.is)

pub returns-in-Header-clause-same : goal.returns-in-Header-clause-same
returns-in-Header-clause-same c = c.header_in.ensures.same ∙ sym (ap (λ k. decode_payload k c.args.channel c.args.payload.now) c.in-Header.is)

pub returns-in-Body-clause-same : goal.returns-in-Body-clause-same
returns-in-Body-clause-same c = sym (ap (λ k. decode_payload k c.args.channel c.args.payload.now) c.in-Body.is)

pub returns-in-Heartbeat-clause-same : goal.returns-in-Heartbeat-clause-same
returns-in-Heartbeat-clause-same c =
    ap (λ (r : Raw). decode_raw r) c.heartbeat_on.ensures ∙ beat_any c.args.channel [] c.args.payload.now
    ∙ sym (ap (λ k. decode_payload k c.args.channel c.args.payload.now) c.in-Heartbeat.is)

pub returns-in-ProtocolHeader-clause-within : goal.returns-in-ProtocolHeader-clause-within
returns-in-ProtocolHeader-clause-within c = omega (arith, ap (λ (r : Raw). length r.payload) c.version_in.ensures)

pub returns-in-Method-clause-within : goal.returns-in-Method-clause-within
returns-in-Method-clause-within c = omega (arith, ap (λ (r : Raw). length r.payload) c.method_in.ensures)

pub returns-in-Header-clause-within : goal.returns-in-Header-clause-within
returns-in-Header-clause-within c = omega (arith, c.header_in.ensures.as_many)

pub returns-in-Heartbeat-clause-within : goal.returns-in-Heartbeat-clause-within
returns-in-Heartbeat-clause-within c = omega (arith, ap (λ (r : Raw). length r.payload) c.heartbeat_on.ensures)
