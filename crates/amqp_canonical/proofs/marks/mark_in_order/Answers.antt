-- `mark_in_order`: clauses `table`, `apart` and `each`.
use Rattle.std.proofs.Common.{◌≤◌, ◌++◌, ℕ, List, length, take, drop, sym, subst, arith}
use Rattle.std.proofs.lemmas.List.{take_at, length-take-le}
use Rattle.std.proofs.lemmas.List.Sorted.{All-permutation, length_permutation}
use Rattle.std.specs.Prelude.{All}
use Rattle.std.specs.List.Sorted.{IsPermutation}
use Rattle.amqp_canonical.specs.Marks.{AreAscending, AreOfTable, IsMarkOf}
use Rattle.amqp_canonical.specs.declared.marks.EntryMark.{EntryMark}
use Rattle.amqp_canonical.proofs.InOrder.{marks_of_table}
use Rattle.amqp_canonical.proofs.marks.mark_in_order.Goals as goal

-- what is said of the first marks in order is said of as many of all
first_are : (P : List EntryMark → Type 0) (count : ℕ) (marks new : List EntryMark) → count ≤ length marks
    → IsPermutation (take count marks) new → P new → P (take count (new ++ drop count marks))
first_are P count marks new within moved h =
    let long = length_permutation (take count marks) new moved in
    subst P (sym (take_at new (drop count marks) count (omega (arith, long, length-take-le count marks within)))) h

pub returns-clause-table : goal.returns-clause-table
returns-clause-table c = λ room read.
    let moved = c.put_in_order.ensures.permuted in
    first_are (λ ms. AreOfTable room c.args.content.now ms) _ _ _ c.in_ok-count.ensures.within moved
    (marks_of_table room c.args.content.now _ _ (c.in_ok-count.ensures.marked room read) moved c.in_ok-apart.ensures.order)

pub returns-clause-each : goal.returns-clause-each
returns-clause-each c =
    let moved = c.put_in_order.ensures.permuted in
    let IsMark = IsMarkOf c.args.content.now in
    first_are (λ ms. All IsMark ms) _ _ _ c.in_ok-count.ensures.within moved (All-permutation IsMark _ _ moved c.in_ok-count.ensures.each)

pub returns-clause-apart : goal.returns-clause-apart
returns-clause-apart c = λ apart.
    first_are (λ ms. AreAscending c.args.content.now ms) _ _ _
    c.in_ok-count.ensures.within c.put_in_order.ensures.permuted (c.in_ok-apart.ensures.apart apart)
