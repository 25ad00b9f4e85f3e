-- `MessageFilter::take`: what it ensures of a frame that is kept, or is not.
use Rattle.std.proofs.Common.{refl, true}
use Rattle.amqp_wire.specs.Frames.{raw_of}
use Rattle.amqp_stream.specs.declared.decision.Decision.TheVariants as decisions
use Rattle.amqp_filter.specs.Stepping.{filtering}
use Rattle.amqp_in_turn.proofs.Judging.{judged_takes}
use Rattle.amqp_filter.proofs.message_filter.MessageFilter.take.Goals as goal

pub returns-in-Ok-keep : goal.returns-in-Ok-keep
returns-in-Ok-keep g c =
    judged_takes filtering refl refl c.args.self.now c.keep.new.self c.keep.new.self c.in-Ok-keep.kept
    (raw_of c.args.raw) c.decision_of.result refl c.in-Ok-keep.ensures (c.decision_of.ensures (raw_of c.args.raw) c.in-Ok.ensures)

pub returns-then-keeps_alone : goal.returns-then-keeps_alone
returns-then-keeps_alone g c =
    judged_takes filtering refl refl c.args.self.now c.args.self.now c.args.self.now true (raw_of c.args.raw)
    (decisions.Kept c.in-Ok.judged) refl (c.keeps_alone.ensures c.if-keeps_alone.true) (refl, c.in-Ok.ensures)
