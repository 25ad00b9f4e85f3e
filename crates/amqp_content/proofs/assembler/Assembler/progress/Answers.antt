-- `Assembler::progress`: what it ensures.
use Rattle.std.proofs.Common.{ap, ◌∙◌, Some}
use Rattle.amqp_turns.specs.Outcomes.{kept_progress}
use Rattle.amqp_content.proofs.Entries.{found_is}
use Rattle.amqp_content.proofs.assembler.Assembler.progress.Goals as goal

pub returns-in-Some : goal.returns-in-Some
returns-in-Some c =
    ap (λ p. Some p) c.progress.ensures ∙ ap kept_progress (found_is c.self.inside.channels c.args.self.now c.self.view_is c.args.channel_id c.in-Some.ensures)

pub returns-in-None : goal.returns-in-None
returns-in-None c = ap kept_progress (found_is c.self.inside.channels c.args.self.now c.self.view_is c.args.channel_id c.in-None.ensures)
