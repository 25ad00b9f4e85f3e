-- `undump_undoes_dump`: what it ensures.
use Rattle.amqp_lines.proofs
use proofs.TextLaws.{undump_undoes}
use proofs.laws.undump_undoes_dump.Goals as goal

pub returns : goal.returns
returns c = undump_undoes
