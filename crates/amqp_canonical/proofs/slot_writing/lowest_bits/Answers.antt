-- `lowest_bits`: what it ensures.
use Rattle.std.proofs.Common.{◌≡◌, ◌*◌, ◌^◌, ◌%◌, sym, ap, ◌∙◌, arith}
use Rattle.std.proofs.lemmas.Nat.{pow_below}
use Rattle.amqp_types.proofs.FormLaws.{flags_byte_back}
use Rattle.amqp_canonical.proofs.OneSlot.{fits_where}
use Rattle.amqp_canonical.proofs.SlotParts.{lowest_flags}
use Rattle.amqp_canonical.proofs.slot_writing.lowest_bits.Goals as goal

pub returns-then-count-lt8 : goal.returns-then-count-lt8
returns-then-count-lt8 c =
    let below = pow_below c.args.count 8 c.if-count-lt8.true in
    let power : (1 * 2 ^ c.args.count) % 256 ≡ 2 ^ c.args.count = omega (arith, below) in
    ap (λ m. c.args.byte % m) power ∙ lowest_flags c.args.count c.args.byte

pub returns-else-count-lt8 : goal.returns-else-count-lt8
returns-else-count-lt8 c = sym (flags_byte_back c.args.count c.args.byte (fits_where c.args.count c.args.byte (omega arith) c.if-count-lt8.false))
