-- `span_after`: clauses `used` and `copied`.
use Rattle.std.proofs.Common.{inl, inr, ◌∙◌, sym, arith}
use Rattle.amqp_types.specs.ValueJudging.{nested}
use Rattle.amqp_canonical.proofs.Sizes.{fixed_taken, used_taken, boolean_used, long_at}
use Rattle.amqp_canonical.proofs.PutParts.{fixed_copied, counted_copied, boolean_copied}
use Rattle.amqp_canonical.proofs.spans.span_after.Goals as goal

pub returns-in-Fixed-clause-used : goal.returns-in-Fixed-clause-used
returns-in-Fixed-clause-used c = λ room t is read.
    used_taken _ _ _ (fixed_taken (nested room) t c.args.i.now _ (λ k. omega (arith, c.type_inv.i k)) (is ∙ c.in-Fixed.is) read).1

pub returns-in-Fixed-clause-copied : goal.returns-in-Fixed-clause-copied
returns-in-Fixed-clause-copied c = λ set room t is read.
    let one = fixed_taken (nested room) t c.args.i.now c.in-Fixed.n (λ k. omega (arith, c.type_inv.i k)) (is ∙ c.in-Fixed.is) read in
    fixed_copied _ t _ _ c.in-Fixed.n (λ k. omega (arith, c.type_inv.i k)) (is ∙ c.in-Fixed.is) read (used_taken _ _ _ one.1)

pub returns-in-Counted-clause-used : goal.returns-in-Counted-clause-used
returns-in-Counted-clause-used c = λ room t is read.
    let long = long_at (nested room) t c.args.i.now c.args.tag.layout (sym is) (inl c.in-Counted.is) read in
    c.long_size.ensures.used long.read ∙ long.used

pub returns-in-Counted-clause-copied : goal.returns-in-Counted-clause-copied
returns-in-Counted-clause-copied c = λ set room t is read.
    let long = long_at (nested room) t c.args.i.now c.args.tag.layout (sym is) (inl c.in-Counted.is) read in
    counted_copied _ t _ c.long_size.result (λ k. omega (arith, c.type_inv.i k))
    (is ∙ c.in-Counted.is) read (c.long_size.ensures.used long.read ∙ long.used)

pub returns-in-OneBoolean-clause-used : goal.returns-in-OneBoolean-clause-used
returns-in-OneBoolean-clause-used c = λ room t is read. boolean_used _ t _ (is ∙ c.in-OneBoolean.is) read

pub returns-in-OneBoolean-clause-copied : goal.returns-in-OneBoolean-clause-copied
returns-in-OneBoolean-clause-copied c = λ set room t is read.
    boolean_copied _ t _ (is ∙ c.in-OneBoolean.is) (c.is_truth_copied.ensures.low set) read

pub returns-in-Values-clause-used : goal.returns-in-Values-clause-used
returns-in-Values-clause-used c = λ room t is read.
    let long = long_at (nested room) t c.args.i.now c.args.tag.layout (sym is) (inr c.in-Values.is) read in
    c.long_size-in-Values.ensures.used long.read ∙ long.used
