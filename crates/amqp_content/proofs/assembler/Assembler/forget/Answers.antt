-- `Assembler::forget`: clauses `none`, `stands` and `others`.
use Rattle.amqp_turns.proofs.Apart.{nothing_stands}
use Rattle.amqp_content.proofs.Entries.{here, others}
use Rattle.amqp_content.proofs.assembler.Assembler.forget.Goals as goal

pub returns-clause-none : goal.returns-clause-none
returns-clause-none c = here c.forget.new.self c.args.channel_id c.forget.ensures.kept

pub returns-clause-stands : goal.returns-clause-stands
returns-clause-stands c = nothing_stands c.args.self.now.max_body _ (here c.forget.new.self c.args.channel_id c.forget.ensures.kept)

pub returns-clause-others : goal.returns-clause-others
returns-clause-others c = others c.self.inside.channels c.args.self.now c.self.view_is c.args.channel_id c.forget.new.self c.forget.ensures.others
