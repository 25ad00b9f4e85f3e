-- `four_are_ascii`: no highest bit is set.
use Rattle.std.proofs.Common.{arith}
use Rattle.amqp_canonical.proofs.HighBits.{ascii_first, word_of_four}
use Rattle.amqp_canonical.proofs.ascii.four_are_ascii.Goals as goal

pub returns : goal.returns
returns c =
    let bytes = c.args.bytes.now in
    ascii_first 4 bytes _ c.requires (λ k. omega (arith, c.type_inv.bytes k)) (omega (arith, c.from_le_bytes.ensures, word_of_four bytes c.requires))
