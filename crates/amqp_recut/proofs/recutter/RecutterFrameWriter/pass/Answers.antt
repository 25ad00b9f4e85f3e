-- `RecutterFrameWriter::pass`: clause `passes`.
use Rattle.amqp_recut.proofs
use Rattle.std.proofs.Common.{true, refl, inl, inr}
use Rattle.amqp_wire.specs.Frames.{raw_of}
use proofs.Stepping.{outside_passed}
use Rattle.amqp_recut.specs.Stepping.{recutting}
use Rattle.amqp_in_turn.proofs.Judging.{judged_takes}
use proofs.Writing.{body_kept}
use proofs.recutter.RecutterFrameWriter.pass.Goals as goal

pub returns-in-Ok : goal.returns-in-Ok
returns-in-Ok c =
    let passed = outside_passed c.args.self.now (raw_of c.args.raw) (inl c.in-ProtocolHeader.is) in
    record { passes = judged_takes recutting refl refl _ _ _ true _ c.in-Ok.decision refl passed c.in-Ok.ensures }

pub returns-in-Ok-judge : goal.returns-in-Ok-judge
returns-in-Ok-judge c =
    let passed = outside_passed c.args.self.now (raw_of c.args.raw) (inr c.in-Heartbeat.is) in
    record { passes = judged_takes recutting refl refl _ _ _ true _ c.in-Ok-judge.decision refl passed c.in-Ok-judge.ensures }

pub returns-then-pass_body : goal.returns-then-pass_body
returns-then-pass_body c = record { passes = body_kept _ _ (raw_of c.args.raw) c.in-Body.is (c.pass_body.ensures.taken c.if-pass_body.true) }
