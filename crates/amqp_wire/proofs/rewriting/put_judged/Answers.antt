-- `put_judged`: clauses `puts` and `within` and what calls require.
use Rattle.std.proofs.Common.{length, ap, arith}
use Rattle.amqp_types.specs.Methods.{judge_payload, payload_bytes}
use Rattle.amqp_types.specs.ContentHeaders.{judge_content_header, content_header_bytes}
use Rattle.amqp_canonical.specs.Writes.{canonical_of}
use Rattle.amqp_wire.proofs.Rewritten.{method_judged, header_judged, put_standing, put_rewritten, body_put, beat_put, version_room, version_put, version_within}
use Rattle.amqp_wire.proofs.Sizes.{framed_length}
use Rattle.amqp_wire.specs.Frames.{raw_as, length_around}
use Rattle.amqp_wire.proofs.rewriting.put_judged.Goals as goal

pub put_method-requires-clause-read : goal.put_method-requires-clause-read
put_method-requires-clause-read c = (method_judged c.requires.whole c.in-Method.is (λ k. omega (arith, c.type_inv.payload k))).read

pub put_header-requires-clause-read : goal.put_header-requires-clause-read
put_header-requires-clause-read c = (header_judged c.requires.whole c.in-Header.is (λ k. omega (arith, c.type_inv.payload k))).read

pub put_bytes-requires : goal.put_bytes-requires
put_bytes-requires c = record { room = version_room c.requires.whole c.in-ProtocolHeader.is c.requires.room c.put_bytes-at.ensures }

pub returns-in-ProtocolHeader-clause-puts : goal.returns-in-ProtocolHeader-clause-puts
returns-in-ProtocolHeader-clause-puts c =
    version_put c.requires.whole c.in-ProtocolHeader.is c.requires.room c.put_bytes-at.ensures c.put_bytes.ensures

pub returns-in-ProtocolHeader-clause-within : goal.returns-in-ProtocolHeader-clause-within
returns-in-ProtocolHeader-clause-within c =
    version_within c.requires.whole c.in-ProtocolHeader.is c.requires.room c.put_bytes-at.ensures c.put_bytes.ensures

pub returns-in-Method-clause-puts : goal.returns-in-Method-clause-puts
returns-in-Method-clause-puts c =
    put_standing c.requires.whole (method_judged c.requires.whole c.in-Method.is (λ k. omega (arith, c.type_inv.payload k)))
    c.if-judged.true c.put_framed.ensures

pub returns-in-Method-2-clause-puts : goal.returns-in-Method-2-clause-puts
returns-in-Method-2-clause-puts c =
    put_rewritten c.requires.whole (method_judged c.requires.whole c.in-Method.is (λ k. omega (arith, c.type_inv.payload k))) c.put_method.ensures

pub returns-in-Method-2-clause-within : goal.returns-in-Method-2-clause-within
returns-in-Method-2-clause-within c =
    let q = method_judged c.requires.whole c.in-Method.is (λ k. omega (arith, c.type_inv.payload k)) in
    let around = ap (λ kind. length_around kind (length c.args.payload.now)) c.in-Method.is in
    let size = framed_length 1 c.args.channel_id (canonical_of payload_bytes (judge_payload c.args.payload.now)) in
    omega (arith, c.put_method.ensures.behind, size, q.shorter, around)

pub returns-in-Header-clause-puts : goal.returns-in-Header-clause-puts
returns-in-Header-clause-puts c =
    put_standing c.requires.whole (header_judged c.requires.whole c.in-Header.is (λ k. omega (arith, c.type_inv.payload k)))
    c.if-judged-2.true c.put_framed-in-Header.ensures

pub returns-in-Header-2-clause-puts : goal.returns-in-Header-2-clause-puts
returns-in-Header-2-clause-puts c =
    put_rewritten c.requires.whole (header_judged c.requires.whole c.in-Header.is (λ k. omega (arith, c.type_inv.payload k))) c.put_header.ensures

pub returns-in-Header-2-clause-within : goal.returns-in-Header-2-clause-within
returns-in-Header-2-clause-within c =
    let q = header_judged c.requires.whole c.in-Header.is (λ k. omega (arith, c.type_inv.payload k)) in
    let around = ap (λ kind. length_around kind (length c.args.payload.now)) c.in-Header.is in
    let size = framed_length 2 c.args.channel_id (canonical_of content_header_bytes (judge_content_header c.args.payload.now)) in
    omega (arith, c.put_header.ensures.behind, size, q.shorter, around)

pub returns-in-Body-clause-puts : goal.returns-in-Body-clause-puts
returns-in-Body-clause-puts c = body_put (raw_as c.args.frame_type c.args.channel_id c.args.payload.now) c.in-Body.is c.put_framed-in-Body.ensures

pub returns-in-Heartbeat-clause-puts : goal.returns-in-Heartbeat-clause-puts
returns-in-Heartbeat-clause-puts c =
    beat_put (raw_as c.args.frame_type c.args.channel_id c.args.payload.now)
    c.in-Heartbeat.is c.heartbeat_bytes.ensures c.put_bytes-in-Heartbeat.ensures
