-- `read_signs`, which calls itself: what falls with each iteration or call.
use Rattle.amqp_lines.proofs.reading.words.+read_signs.Given as goal

abbrev pub decreases-read_signs : goal.decreases-read_signs
decreases-read_signs l = l.count
