-- `SelectorFrameDecider::decide`: clause `decides`.
use Rattle.amqp_wire.specs.Frames.{raw_of}
use Rattle.amqp_select.proofs.Selected.{keeps_frame, drops_frame}
use Rattle.amqp_select.proofs.selecting.SelectorFrameDecider.decide.Goals as goal

pub returns-in-Ok : goal.returns-in-Ok
returns-in-Ok c = record {
  decides = keeps_frame c.args.self.now (raw_of c.args.raw) c.keeps-keeps.result c.in-Ok.ensures c.keeps-keeps.ensures c.if-keeps.true;
}

pub returns-in-Ok-2 : goal.returns-in-Ok-2
returns-in-Ok-2 c = record {
  decides = drops_frame c.args.self.now (raw_of c.args.raw) c.keeps-keeps.result c.in-Ok-2.ensures c.keeps-keeps.ensures c.if-keeps.false;
}
