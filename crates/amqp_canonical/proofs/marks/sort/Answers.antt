-- `sort`: what it ensures.
use Rattle.std.proofs.lemmas.List.Sorted.{IsPermutation-trans}
use Rattle.amqp_canonical.proofs.marks.sort.Goals as goal

pub returns : goal.returns
returns c =
    IsPermutation-trans _ _ _ (IsPermutation-trans _ _ _ c.sort_by_gap.ensures c.sort_by_gap-2.ensures)
    (IsPermutation-trans _ _ _ c.sort_by_gap-3.ensures c.sort_by_gap-4.ensures)
