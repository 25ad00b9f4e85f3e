-- `fours_are_ascii`: bytes whose first and last ones are ASCII.
use Rattle.amqp_canonical.proofs.HighBits.{ascii_both}
use Rattle.amqp_canonical.proofs.ascii.fours_are_ascii.Goals as goal

pub returns-then-four_are_ascii : goal.returns-then-four_are_ascii
returns-then-four_are_ascii c = λ test.
    let first = c.four_are_ascii.ensures c.if-four_are_ascii.true in
    ascii_both 4 c.args.bytes.now c.requires.many c.requires.few first (c.four_are_ascii-then-four_are_ascii.ensures test)
