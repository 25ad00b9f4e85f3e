-- `quick_text_size`: short ASCII has no flaw.
use Rattle.std.proofs.Common.{arith}
use Rattle.amqp_entries.proofs.Sizes.{short_is_size}
use Rattle.amqp_entries.proofs.few.quick_text_size.Goals as goal

pub returns-then-is_short_ascii-clause-size : goal.returns-then-is_short_ascii-clause-size
returns-then-is_short_ascii-clause-size c =
    let few = c.is_short_ascii.ensures.few c.if-is_short_ascii.true in
    short_is_size c.args.text.now (omega (arith, few)) (c.is_short_ascii.ensures.ascii c.if-is_short_ascii.true)
