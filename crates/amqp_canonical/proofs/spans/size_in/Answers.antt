-- `size_in`: clause `used`.
use Rattle.std.proofs.Common.{◌∙◌, sym, arith}
use Rattle.amqp_types.specs.ValueJudging.{nested}
use Rattle.amqp_canonical.proofs.Sizes.{fixed_taken, used_taken, boolean_used, long_at}
use Rattle.amqp_canonical.proofs.spans.size_in.Goals as goal

pub returns-in-Fixed-clause-used : goal.returns-in-Fixed-clause-used
returns-in-Fixed-clause-used c = λ room tag is read.
    used_taken _ _ _ (fixed_taken (nested room) tag c.args.i.now _ (λ k. omega (arith, c.type_inv.i k)) (is ∙ c.in-Fixed.is) read).1

pub returns-in-OneBoolean-clause-used : goal.returns-in-OneBoolean-clause-used
returns-in-OneBoolean-clause-used c = λ room tag is read. boolean_used (nested room) tag c.args.i.now (is ∙ c.in-OneBoolean.is) read

pub returns-in-Counted-clause-used : goal.returns-in-Counted-clause-used
returns-in-Counted-clause-used c = λ room tag is read.
    let long = long_at (nested room) tag c.args.i.now c.args.layout (sym is) c.in-Counted.is read in
    c.long_size.ensures.used long.read ∙ long.used
