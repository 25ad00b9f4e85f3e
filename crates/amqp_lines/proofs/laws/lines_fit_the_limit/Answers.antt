-- `lines_fit_the_limit`: what it ensures.
use Rattle.amqp_lines.proofs
use proofs.LongLines.{line_fits}
use proofs.laws.lines_fit_the_limit.Goals as goal

pub returns : goal.returns
returns c = line_fits
