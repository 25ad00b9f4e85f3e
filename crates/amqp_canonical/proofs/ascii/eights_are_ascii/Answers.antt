-- `eights_are_ascii`: bytes whose first and last ones are ASCII.
use Rattle.amqp_canonical.proofs.HighBits.{ascii_both}
use Rattle.amqp_canonical.proofs.ascii.eights_are_ascii.Goals as goal

pub returns-then-eight_are_ascii : goal.returns-then-eight_are_ascii
returns-then-eight_are_ascii c = λ test.
    let first = c.eight_are_ascii.ensures c.if-eight_are_ascii.true in
    ascii_both 8 c.args.bytes.now c.requires.many c.requires.few first (c.eight_are_ascii-then-eight_are_ascii.ensures test)
