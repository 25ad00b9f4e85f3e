-- `Assembler::append`: clauses `kept`, `others` and `err`.
use Rattle.std.proofs.Common.{sym, ap, ◌∙◌}
use Rattle.amqp_turns.specs.Stands.{kept_at}
use Rattle.amqp_turns.specs.Outcomes.{with_bytes}
use Rattle.amqp_turns.proofs.Errors.{on_err}
use Rattle.amqp_content.proofs.Entries.{found_is, here, written}
use Rattle.amqp_content.proofs.assembler.Assembler.append.Goals as goal

pub returns-in_default-clause-kept : goal.returns-in_default-clause-kept
returns-in_default-clause-kept c =
    here c.get_mut.follows.lender-at-none c.args.channel_id
    (ap (λ es. kept_at es c.args.channel_id) c.get_mut.follows.holds-at-none ∙ sym c.in_default.ensures.value)
    ∙ ap (λ k. with_bytes k c.args.bytes.now) (found_is c.self.inside.channels c.args.self.now c.self.view_is c.args.channel_id c.in_default.ensures.value)

pub returns-in_err-append-clause-others : goal.returns-in_err-append-clause-others
returns-in_err-append-clause-others c =
    (written c.self.inside.channels c.args.self.now c.self.view_is c.args.channel_id _ _
    c.append.new.self c.in-Some.ensures.value (c.get_mut.follows.holds c.append.new.self)).others

pub returns-in_err-append-clause-err : goal.returns-in_err-append-clause-err
returns-in_err-append-clause-err c =
    on_err c.from_residual.result
    ((written c.self.inside.channels c.args.self.now c.self.view_is c.args.channel_id _ _
    c.append.new.self c.in-Some.ensures.value (c.get_mut.follows.holds c.append.new.self)).same
    c.in_err-append.ensures.err)

pub returns-clause-kept : goal.returns-clause-kept
returns-clause-kept c =
    (written c.self.inside.channels c.args.self.now c.self.view_is c.args.channel_id _ _
    c.append.new.self c.in-Some.ensures.value (c.get_mut.follows.holds c.append.new.self)).kept
    ∙ c.in_ok-append.ensures.ok
    ∙ ap (λ k. with_bytes k c.args.bytes.now) (found_is c.self.inside.channels c.args.self.now c.self.view_is c.args.channel_id c.in-Some.ensures.value)

pub returns-clause-others : goal.returns-clause-others
returns-clause-others c =
    (written c.self.inside.channels c.args.self.now c.self.view_is c.args.channel_id _ _
    c.append.new.self c.in-Some.ensures.value (c.get_mut.follows.holds c.append.new.self)).others
