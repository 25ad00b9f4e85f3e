-- `put_lent`: what it ensures and what calls require.
use Rattle.std.proofs.Common.{◌<◌, ◌^◌, length, ap, subst, ◌∙◌, arith}
use Rattle.amqp_lent.specs.declared.frame.LentFrame.{LentFrame}
use Rattle.amqp_lent.specs.Frames.{IsFrame, StandsFor, payload_of}
use Rattle.amqp_canonical.specs.Payloads.{header_payload, method_payload}
use Rattle.amqp_canonical.proofs.Putting.{same_put, tested_room}
use Rattle.amqp_lent.proofs.Standing.{beat_canon, body_canon, header_canon, method_canon, version_canon}
use Rattle.amqp_lent.proofs.writing.put_lent.Goals as goal

pub put_method_frame-requires : goal.put_method_frame-requires
put_method_frame-requires c =
    let P : LentFrame → Type 0 = λ f. IsFrame f in
    let Q : LentFrame → Type 0 = λ f. length (payload_of f) < 2 ^ 32 in
    let stands = subst P c.in-Method.is c.requires.stands in
    let one = method_canon c.in-Method.channel (method_payload c.in-Method.class_id c.in-Method.method_id c.in-Method.slots.now) stands.0 stands.1 in
    record { read = one.0; few = subst Q c.in-Method.is c.requires.few }

pub put_header_frame-requires : goal.put_header_frame-requires
put_header_frame-requires c =
    let P : LentFrame → Type 0 = λ f. IsFrame f in
    let Q : LentFrame → Type 0 = λ f. length (payload_of f) < 2 ^ 32 in
    let stands = subst P c.in-Header.is c.requires.stands in
    let one = header_canon c.in-Header.channel (header_payload c.in-Header.class_id c.in-Header.body_size c.in-Header.properties.now) stands.0 stands.1 in
    record { read = one.0; few = subst Q c.in-Header.is c.requires.few }

pub put_body_frame-requires : goal.put_body_frame-requires
put_body_frame-requires c = let Q : LentFrame → Type 0 = λ f. length (payload_of f) < 2 ^ 32 in record { few = subst Q c.in-Body.is c.requires.few }

pub put_if_room-requires : goal.put_if_room-requires
put_if_room-requires c = record { room = tested_room (omega (arith, ap length c.header_bytes.ensures)) }

pub put_if_room-requires-in-Heartbeat : goal.put_if_room-requires-in-Heartbeat
put_if_room-requires-in-Heartbeat c = record { room = tested_room (omega (arith, ap length c.heartbeat_bytes.ensures)) }

pub put_if_room-requires-in-InvalidHeartbeat : goal.put_if_room-requires-in-InvalidHeartbeat
put_if_room-requires-in-InvalidHeartbeat c = record { room = tested_room (omega (arith, ap length c.heartbeat_bytes-in-InvalidHeartbeat.ensures)) }

pub returns-in-Method : goal.returns-in-Method
returns-in-Method c = λ read stands.
    let R : LentFrame → Type 0 = λ f. StandsFor f read in
    let one =
    method_canon c.in-Method.channel (method_payload c.in-Method.class_id c.in-Method.method_id c.in-Method.slots.now) read (subst R c.in-Method.is stands) in
    same_put one.1 c.put_method_frame.ensures

pub returns-in-Header : goal.returns-in-Header
returns-in-Header c = λ read stands.
    let R : LentFrame → Type 0 = λ f. StandsFor f read in
    let one =
    header_canon c.in-Header.channel (header_payload c.in-Header.class_id c.in-Header.body_size c.in-Header.properties.now) read
    (subst R c.in-Header.is stands) in
    same_put one.1 c.put_header_frame.ensures

pub returns-in-Body : goal.returns-in-Body
returns-in-Body c = λ read stands.
    let R : LentFrame → Type 0 = λ f. StandsFor f read in
    let one = body_canon c.in-Body.channel c.in-Body.content.now read (subst R c.in-Body.is stands) in
    same_put one c.put_body_frame.ensures

pub returns-in-ProtocolHeader : goal.returns-in-ProtocolHeader
returns-in-ProtocolHeader c = λ read stands.
    let R : LentFrame → Type 0 = λ f. StandsFor f read in
    let v = c.in-ProtocolHeader.version in
    same_put (c.header_bytes.ensures ∙ version_canon 0 v.major v.minor v.revision read (subst R c.in-ProtocolHeader.is stands)) c.put_if_room.ensures

pub returns-in-Heartbeat : goal.returns-in-Heartbeat
returns-in-Heartbeat c = λ read stands.
    let R : LentFrame → Type 0 = λ f. StandsFor f read in
    same_put (c.heartbeat_bytes.ensures ∙ beat_canon 0 read (subst R c.in-Heartbeat.is stands)) c.put_if_room-in-Heartbeat.ensures

pub returns-in-InvalidHeartbeat : goal.returns-in-InvalidHeartbeat
returns-in-InvalidHeartbeat c = λ read stands.
    let R : LentFrame → Type 0 = λ f. StandsFor f read in
    same_put (c.heartbeat_bytes-in-InvalidHeartbeat.ensures ∙ beat_canon c.in-InvalidHeartbeat.channel read (subst R c.in-InvalidHeartbeat.is stands))
    c.put_if_room-in-InvalidHeartbeat.ensures
