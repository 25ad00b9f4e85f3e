-- `fits_flags`: what it ensures.
use Rattle.std.proofs.Common.{arith}
use Rattle.std.proofs.lemmas.Bool.{le-leb}
use Rattle.amqp_canonical.proofs.OneSlot.{fits_where, fits_decided}
use Rattle.amqp_canonical.proofs.slots.fits_flags.Goals as goal

pub returns-then-count-ge8 : goal.returns-then-count-ge8
returns-then-count-ge8 c =
    (λ t. fits_where c.args.count c.args.byte (omega (arith, c.ranges.byte.fits)) c.if-count-ge8.true, λ h. le-leb 8 c.args.count c.if-count-ge8.true)

pub returns-else-count-ge8 : goal.returns-else-count-ge8
returns-else-count-ge8 c = fits_decided c.args.count c.args.byte
