-- `Assembler::held_of`: what it ensures.
use Rattle.std.proofs.Common.{ap, ◌∙◌}
use Rattle.amqp_content.specs.Bounds.{body_bytes}
use Rattle.amqp_content.proofs.Entries.{found_is}
use Rattle.amqp_content.proofs.assembler.Assembler.held_of.Goals as goal

pub returns-in-Some : goal.returns-in-Some
returns-in-Some c = c.held.ensures ∙ ap body_bytes (found_is c.self.inside.channels c.args.self.now c.self.view_is c.args.channel_id c.in-Some.ensures)

pub returns-in-None : goal.returns-in-None
returns-in-None c = ap body_bytes (found_is c.self.inside.channels c.args.self.now c.self.view_is c.args.channel_id c.in-None.ensures)
