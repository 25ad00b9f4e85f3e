-- `text_size`: what has no size is too long, or else not UTF-8.
use Rattle.std.proofs.Common.{arith}
use Rattle.amqp_types.specs.Strings.{short_string_bytes}
use Rattle.amqp_entries.proofs.Sizes.{bad_refused, known_size, long_refused}
use Rattle.amqp_entries.proofs.few.text_size.Goals as goal

pub returns-then-size-le256-clause-size : goal.returns-then-size-le256-clause-size
returns-then-size-le256-clause-size c = known_size _ _ _ c.quick_text_size-size.ensures.size (omega (arith, c.if-size-le256.true))

pub returns-then-text-gt255-clause-size : goal.returns-then-text-gt255-clause-size
returns-then-text-gt255-clause-size c = long_refused c.args.text.now (short_string_bytes c.args.text.now) c.if-text-gt255.true

pub returns-clause-size : goal.returns-clause-size
returns-clause-size c = bad_refused c.args.text.now _ c.quick_text_size-size.ensures.size (omega (arith, c.if-text-gt255.false))
    (omega (arith, c.if-size-le256.false))
