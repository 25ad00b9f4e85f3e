-- `judge_as`: what it ensures.
use Rattle.std.proofs.Common.{true, Ok, Err, ap}
use Rattle.amqp_wire.specs.declared.frame_type.AMQPFrameType.TheVariants as kinds
use Rattle.amqp_wire.proofs.Judged.{method_frame, header_frame, body_frame, beat_frame, proto_frame, judged_as}
use Rattle.amqp_wire.proofs.judging.judge_as.Goals as goal

pub returns-in-Err : goal.returns-in-Err
returns-in-Err c =
    judged_as c.args.frame_type kinds.ProtocolHeader c.args.channel_id c.args.payload.now (Err c.in-Err.error) c.in-ProtocolHeader.is
    ((c.in-Err.ensures.inside, λ e. c.in-Err.ensures.memory (ap Err e)), c.in-Err.ensures.whole c.args.channel_id)

pub returns-in-Ok : goal.returns-in-Ok
returns-in-Ok c =
    judged_as c.args.frame_type kinds.ProtocolHeader c.args.channel_id c.args.payload.now (Ok (record { canonical = true; tidy = true })) c.in-ProtocolHeader.is
    (proto_frame c.args.channel_id c.args.payload.now c.in-Ok.field-0 (c.in-Ok.ensures.whole c.args.channel_id))

pub returns-in-Method : goal.returns-in-Method
returns-in-Method c = rw c.in-Method.is (method_frame c.args.channel_id c.args.payload.now c.judge_method.result c.judge_method.ensures)

pub returns-in-Header : goal.returns-in-Header
returns-in-Header c = rw c.in-Header.is (header_frame c.args.channel_id c.args.payload.now c.judge_header.result c.judge_header.ensures)

pub returns-in-Body : goal.returns-in-Body
returns-in-Body c = rw c.in-Body.is (body_frame c.args.channel_id c.args.payload.now)

pub returns-in-Heartbeat : goal.returns-in-Heartbeat
returns-in-Heartbeat c =
    rw c.in-Heartbeat.is (beat_frame c.args.channel_id c.args.payload.now c.is_empty-empty.result c.is_empty-empty.ensures)
