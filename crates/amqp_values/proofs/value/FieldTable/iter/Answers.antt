-- `FieldTable::iter`: clause `rising`.
use Rattle.std.proofs.Common.{sym, ap, ◌∙◌, subst, List, ℕ}
use Rattle.std.specs.Map.{keys_of}
use Rattle.std.specs.List.Sorted.{IsStrictlySortedBy}
use Rattle.std.specs.Ordering.{nat_cmp}
use Rattle.std.specs.Cmp.Lexicographic.{slice_cmp}
use Rattle.amqp_values.proofs.Pairs.{keys_of-entries}
use Rattle.amqp_values.proofs.value.FieldTable.iter.Goals as goal

pub returns-clause-rising : goal.returns-clause-rising
returns-clause-rising c =
    let P : List (List ℕ) → Type 0 = λ ks. IsStrictlySortedBy (slice_cmp nat_cmp) ks in
    subst P (sym (keys_of-entries c.self.inside.entries.entries) ∙ ap keys_of c.self.view_is) c.self.invariant
