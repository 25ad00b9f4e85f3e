-- `Assembler::complete`: clauses `outcome`, `kept` and `others` and what calls require.
use Rattle.std.proofs.Common.{sym, ap, ◌∙◌, subst}
use Rattle.amqp_turns.specs.Outcomes.{IsHeadedThere, whole_kept}
use Rattle.amqp_content.proofs.Entries.{found_is, here, others}
use Rattle.amqp_content.proofs.assembler.Assembler.complete.Goals as goal

pub unreachable-requires : goal.unreachable-requires
unreachable-requires c =
    subst IsHeadedThere (sym (found_is c.self.inside.channels c.args.self.now c.self.view_is c.args.channel_id c.in_default.ensures.value)) c.requires

pub into_outcome-requires : goal.into_outcome-requires
into_outcome-requires c =
    subst IsHeadedThere (sym (found_is c.self.inside.channels c.args.self.now c.self.view_is c.args.channel_id c.in-Some.ensures.value)) c.requires

pub returns-clause-outcome : goal.returns-clause-outcome
returns-clause-outcome c =
    c.into_outcome.ensures
    ∙ ap (whole_kept c.args.channel_id) (found_is c.self.inside.channels c.args.self.now c.self.view_is c.args.channel_id c.in-Some.ensures.value)

pub returns-clause-kept : goal.returns-clause-kept
returns-clause-kept c = here c.remove.new.self c.args.channel_id c.in-Some.ensures.kept

pub returns-clause-others : goal.returns-clause-others
returns-clause-others c = others c.self.inside.channels c.args.self.now c.self.view_is c.args.channel_id c.remove.new.self c.in-Some.ensures.others
