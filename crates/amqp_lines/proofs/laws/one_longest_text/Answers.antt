-- `one_longest_text`: what it ensures.
use Rattle.amqp_lines.proofs
use proofs.TextLaws.{one_longest}
use proofs.laws.one_longest_text.Goals as goal

pub returns : goal.returns
returns c = one_longest
