-- `Assembler::open`: clause `stands`.
use Rattle.std.proofs.Common.{ap, map}
use Rattle.amqp_turns.proofs.Apart.{none_stand}
use Rattle.amqp_content.specs.Outcomes.{entry_kept}
use Rattle.amqp_content.proofs.assembler.Assembler.open.Goals as goal

pub returns-clause-stands : goal.returns-clause-stands
returns-clause-stands c = none_stand c.args.max_body (map entry_kept c.new.result) (ap (map entry_kept) c.new.ensures)
