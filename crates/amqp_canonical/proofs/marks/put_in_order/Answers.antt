-- `put_in_order`: clause `order` and what calls require.
use Rattle.std.proofs.Common.{inl}
use Rattle.std.proofs.lemmas.List.Sorted.{All-permutation}
use Rattle.amqp_canonical.specs.Marks.{IsMarkOf}
use Rattle.amqp_canonical.proofs.marks.put_in_order.Goals as goal

pub are_ascending-requires : goal.are_ascending-requires
are_ascending-requires c = All-permutation (IsMarkOf c.args.content.now) _ _ c.sort.ensures c.requires

pub are_in_order-requires : goal.are_in_order-requires
are_in_order-requires c = All-permutation (IsMarkOf c.args.content.now) _ _ c.sort.ensures c.requires

pub returns-then-are_ascending-clause-order : goal.returns-then-are_ascending-clause-order
returns-then-are_ascending-clause-order c = λ k more. inl (c.are_ascending.ensures c.if-are_ascending.true k more)
