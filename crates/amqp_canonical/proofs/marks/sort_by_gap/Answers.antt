-- `sort_by_gap`: what loops keep.
use Rattle.std.proofs.lemmas.List.Sorted.{IsPermutation-trans}
use Rattle.amqp_canonical.proofs.marks.sort_by_gap.Goals as goal

pub loop-k-preserved : goal.loop-k-preserved
loop-k-preserved c = IsPermutation-trans _ _ _ c.loop-k.invariant c.move_down.ensures
