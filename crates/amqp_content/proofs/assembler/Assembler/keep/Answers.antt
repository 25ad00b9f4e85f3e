-- `Assembler::keep`: clauses `kept`, `others` and `absent`.
use Rattle.amqp_content.proofs.Entries.{here_if, others, absent_if}
use Rattle.amqp_content.proofs.assembler.Assembler.keep.Goals as goal

pub returns-clause-kept : goal.returns-clause-kept
returns-clause-kept c = here_if c.insert.result c.insert.new.self c.args.channel_id c.args.pending c.insert.ensures.kept

pub returns-clause-others : goal.returns-clause-others
returns-clause-others c = others c.self.inside.channels c.args.self.now c.self.view_is c.args.channel_id c.insert.new.self c.insert.ensures.others

pub returns-clause-absent : goal.returns-clause-absent
returns-clause-absent c = absent_if c.self.inside.channels c.args.self.now c.self.view_is c.insert.result c.args.channel_id c.insert.ensures.absent
