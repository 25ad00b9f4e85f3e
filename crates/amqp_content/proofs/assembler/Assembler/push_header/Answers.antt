-- `Assembler::push_header`: clause `takes`.
use Rattle.std.proofs.Common.{sym, subst, ◌∙◌}
use Rattle.amqp_frame.specs.Frames.{Head, header_of}
use Rattle.amqp_turns.specs.declared.mark.Mark.{Mark}
use Rattle.amqp_turns.specs.Stands.{kept_at}
use Rattle.amqp_content.specs.Outcomes.{TakesIn, outcome_of}
use Rattle.amqp_turns.proofs.Telling.{header_taken}
use Rattle.amqp_content.proofs.assembler.Assembler.push_header.Goals as goal

pub returns-in_default-clause-takes : goal.returns-in_default-clause-takes
returns-in_default-clause-takes c =
    let header = header_of c.args.header in
    let taken =
    header_taken c.args.self.now.max_body (kept_at c.args.self.now.channels c.args.channel_id) c.args.channel_id header
    (λ bad e. c.in_default.not-Fault bad (c.mark.ensures ∙ e)) in
    subst (λ (m : Mark). TakesIn c.args.self.now c.take_header.new.self (Head c.args.channel_id header) m (outcome_of c.take_header.result))
    (sym taken.mark_is) c.take_header.ensures.takes
