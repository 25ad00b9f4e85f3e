-- `Assembler::set_header`: clauses `kept` and `others`.
use Rattle.std.proofs.Common.{sym, ap, ◌∙◌}
use Rattle.amqp_turns.specs.Stands.{kept_at}
use Rattle.amqp_turns.specs.Outcomes.{with_header}
use Rattle.amqp_frame.specs.Frames.{header_of}
use Rattle.amqp_content.proofs.Entries.{found_is, here, written}
use Rattle.amqp_content.proofs.assembler.Assembler.set_header.Goals as goal

pub returns-in_default-clause-kept : goal.returns-in_default-clause-kept
returns-in_default-clause-kept c =
    here c.get_mut.follows.lender-at-none c.args.channel_id
    (ap (λ es. kept_at es c.args.channel_id) c.get_mut.follows.holds-at-none ∙ sym c.in_default.ensures.value)
    ∙ ap (λ k. with_header k (header_of c.args.header))
    (found_is c.self.inside.channels c.args.self.now c.self.view_is c.args.channel_id c.in_default.ensures.value)

pub returns-clause-kept : goal.returns-clause-kept
returns-clause-kept c =
    (written c.self.inside.channels c.args.self.now c.self.view_is c.args.channel_id _ _
    c.set_header.new.self c.in-Some.ensures.value (c.get_mut.follows.holds c.set_header.new.self)).kept
    ∙ c.set_header.ensures
    ∙ ap (λ k. with_header k (header_of c.args.header))
    (found_is c.self.inside.channels c.args.self.now c.self.view_is c.args.channel_id c.in-Some.ensures.value)

pub returns-clause-others : goal.returns-clause-others
returns-clause-others c =
    (written c.self.inside.channels c.args.self.now c.self.view_is c.args.channel_id _ _
    c.set_header.new.self c.in-Some.ensures.value (c.get_mut.follows.holds c.set_header.new.self)).others
