-- `move_down`: what loops keep.
use Rattle.std.proofs.Common.{◌∙◌, arith}
use Rattle.std.proofs.lemmas.List.Sorted.{IsPermutation-trans}
use Rattle.amqp_canonical.proofs.marks.move_down.Goals as goal

pub loop-k-preserved : goal.loop-k-preserved
loop-k-preserved c =
    let l = c.loop-k in (
      c.swap.ensures.len ∙ l.invariant.0,
      omega (arith, l.invariant.1, c.swap.ensures.len),
      IsPermutation-trans _ _ _ l.invariant.2 c.swap.ensures.permutation,
    )
