-- `FieldTable::get`: what it ensures and what loops keep.
use Rattle.std.proofs.Common.{sym, ap, ◌∙◌, bytes_eq}
use Rattle.std.proofs.lemmas.Map.Text.{is_eq-slice_cmp}
use Rattle.std.specs.Ordering.{nat_cmp}
use Rattle.std.specs.Cmp.Lexicographic.{slice_cmp}
use Rattle.std.specs.BTreeMap.{is_at}
use Rattle.amqp_values.proofs.Pairs.{lookup_here, lookup_later}
use Rattle.amqp_values.proofs.value.FieldTable.get.Goals as goal

pub returns-then-eq : goal.returns-then-eq
returns-then-eq c =
    let at = is_eq-slice_cmp c.args.key.now c.in-Some.held.now ∙ ap (bytes_eq c.args.key.now) (sym c.as_str.ensures.value) ∙ sym c.eq.ensures ∙ c.if-eq.true in
    lookup_here (is_at (slice_cmp nat_cmp c.args.key.now)) (c.in-Some.held.now, c.in-Some.value.now) _ _ _ c.in-Some.ensures.steps at c.loop-held.invariant

pub loop-held-preserved : goal.loop-held-preserved
loop-held-preserved c =
    let at = is_eq-slice_cmp c.args.key.now c.in-Some.held.now ∙ ap (bytes_eq c.args.key.now) (sym c.as_str.ensures.value) ∙ sym c.eq.ensures ∙ c.if-eq.false in
    lookup_later (is_at (slice_cmp nat_cmp c.args.key.now)) (c.in-Some.held.now, c.in-Some.value.now) _ _ _ c.in-Some.ensures.steps at c.loop-held.invariant
