-- `dumped_text_is_read_back`: what it ensures.
use Rattle.amqp_lines.proofs
use proofs.TextLaws.{dumped_back}
use proofs.laws.dumped_text_is_read_back.Goals as goal

pub returns : goal.returns
returns c = dumped_back
