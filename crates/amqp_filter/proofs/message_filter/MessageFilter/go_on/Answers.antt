-- `MessageFilter::go_on`: what it ensures.
use Rattle.std.proofs.Common.{Ok, sym, ap, ◌∙◌}
use Rattle.amqp_filter.specs.Held.{OpenByChannel, set_at}
use Rattle.amqp_in_turn.specs.Judging.{given}
use Rattle.amqp_filter.proofs.message_filter.MessageFilter.go_on.Goals as goal

pub returns : goal.returns
returns c =
    let same = c.replace.ensures ∙ ap (λ h. set_at c.args.self.now.messages c.args.raw.channel_id h) c.message_with.ensures in
    λ frame h. c.requires.steps frame h ∙ ap (λ (m : OpenByChannel). Ok (given c.args.kept frame, record c.args.self.now { messages = m })) (sym same)
