-- `has_bit`: what it ensures.
use Rattle.std.proofs.Common.{sym, ◌∙◌, arith}
use Rattle.std.proofs.lemmas.Bool.Decides.{nat_tests}
use Rattle.amqp_canonical.proofs.Properties.{bit_beyond}
use Rattle.amqp_canonical.proofs.headers.has_bit.Goals as goal

pub returns-else-bit-lt16 : goal.returns-else-bit-lt16
returns-else-bit-lt16 c =
    let far = c.if-bit-lt16.false in
    let none = bit_beyond c.args.mask c.args.bit (omega (arith, c.ranges.mask.fits)) far in
    grind (arith, nat_tests) ∙ sym none
