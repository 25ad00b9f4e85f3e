-- the calls of cycle `judge`: what they ensure and what loops keep.
use Rattle.std.proofs.Common.{ℕ, ◌≡◌, ◌≤◌, true, false, List, Bor, length, drop, refl, sym, ◌∙◌, arith}
use Rattle.std.proofs.lemmas.List.{length-drop, take_rest}
use Rattle.amqp_types.specs.Settling.{settled}
use Rattle.amqp_types.specs.ValueJudging.{judge_entry, judge_array, judge_table}
use Rattle.amqp_laws.proofs.Filling.{refused_at, RefusesWhole-map}
use Rattle.amqp_canonical.proofs.Refusing.{fully, fails_next, fails_whole, err_judged, entry_err, refused_inside}
use Rattle.amqp_canonical.proofs.Children.{values_next, values_end, entries_none, entries_next, entries_read, entries_end}
use Rattle.amqp_canonical.proofs.AfterTag.{fixed_past, fixed_took, taken, counted_took, counted_fails, boolean_behind, array_behind, table_behind, array_deep}
use Rattle.amqp_canonical.proofs.AfterTag.{table_deep, value_empty, value_unknown, judged_tag, value_took_at, entry_took}
use Rattle.amqp_canonical.proofs.TagBytes.{no_tag, some_tag}
use Rattle.amqp_canonical.proofs.Filled.{array_took, table_took}
use Rattle.amqp_canonical.proofs.Above.{none_leads}
use Rattle.amqp_canonical.proofs.values.+judge.Goals as goal
use Rattle.amqp_canonical.proofs.values.+judge.Goals.{judge_entries-then-loop-canonical-test+else-at-content, judge_entries-else-loop-canonical-test}

pub judge_array-returns-in_err-n-clause-judged : goal.judge_array-returns-in_err-n-clause-judged
unfolding judge_array
judge_array-returns-in_err-n-clause-judged t c =
    err_judged _ _ _ c.in_err-n.field-0.0 _ c.from_residual.ensures.1
    (fails_next _ _ _ (fully {A = Bor (List ℕ)} (λ b. b.now) _ _ c.in_err-n.ensures.judged))

pub judge_array-returns-in_err-canonical-clause-judged : goal.judge_array-returns-in_err-canonical-clause-judged
unfolding judge_array
judge_array-returns-in_err-canonical-clause-judged t c =
    err_judged _ _ _ c.in_err-canonical.field-0.0 _ c.from_residual-in_err-canonical.ensures.1
    (rw c.in_ok-n.ensures.judged (fails_whole _ _ _ c.in_err-canonical.ensures))

pub judge_array-returns-clause-judged : goal.judge_array-returns-clause-judged
judge_array-returns-clause-judged t c =
    array_took _ _ _ _ _ (λ k. omega (arith, c.type_inv.i k)) c.in_ok-n.ensures.judged c.in_ok-canonical.ensures

pub judge_table-returns-in_err-n-clause-judged : goal.judge_table-returns-in_err-n-clause-judged
unfolding judge_table
judge_table-returns-in_err-n-clause-judged t c =
    err_judged _ _ _ c.in_err-n.field-0.0 _ c.from_residual.ensures.1
    (fails_next _ _ _ (fully {A = Bor (List ℕ)} (λ b. b.now) _ _ c.in_err-n.ensures.judged))

pub judge_table-returns-in_err-canonical-clause-judged : goal.judge_table-returns-in_err-canonical-clause-judged
unfolding judge_table
judge_table-returns-in_err-canonical-clause-judged t c =
    let failed = c.in_err-canonical.ensures in
    err_judged _ _ _ c.in_err-canonical.field-0.0 _ c.from_residual-in_err-canonical.ensures.1
    (rw c.in_ok-n.ensures.judged (fails_whole _ _ _ (failed.0, RefusesWhole-map c.in_err-canonical.field-0.0 settled _ failed.1)))

pub judge_table-returns-clause-judged : goal.judge_table-returns-clause-judged
judge_table-returns-clause-judged t c =
    table_took _ _ _ _ _ (λ k. omega (arith, c.type_inv.i k)) c.in_ok-n.ensures.judged c.in_ok-canonical.ensures

pub judge_after_tag-returns-then-i-n-clause-judged : goal.judge_after_tag-returns-then-i-n-clause-judged
judge_after_tag-returns-then-i-n-clause-judged t c =
    λ tag is. (λ e. cc, fixed_past _ tag _ _ (is ∙ c.in-Fixed.is) c.if-i-n.true)

pub judge_after_tag-returns-else-i-n-clause-judged : goal.judge_after_tag-returns-else-i-n-clause-judged
judge_after_tag-returns-else-i-n-clause-judged t c = λ tag is.
    taken _ _ _ (fixed_took _ tag c.args.i.now c.in-Fixed.n
    (λ k. omega (arith, c.type_inv.i k)) (is ∙ c.in-Fixed.is) (omega (arith, c.if-i-n.false)))

pub judge_after_tag-returns-in-OneBoolean-clause-judged : goal.judge_after_tag-returns-in-OneBoolean-clause-judged
judge_after_tag-returns-in-OneBoolean-clause-judged t c =
    λ tag is. boolean_behind _ tag _ _ (is ∙ c.in-OneBoolean.is) c.judge_boolean.ensures.judged

pub judge_after_tag-returns-in_err-n-in-Counted-clause-judged : goal.judge_after_tag-returns-in_err-n-in-Counted-clause-judged
judge_after_tag-returns-in_err-n-in-Counted-clause-judged t c = λ tag is.
    err_judged _ _ _ _ _ c.from_residual.ensures.1 (counted_fails {A = Bor (List ℕ)}
    _ tag _ (λ b. b.now) _ (is ∙ c.in-Counted.is) c.in_err-n-in-Counted.ensures.judged)

pub judge_after_tag-returns-in_ok-n-in-Counted-clause-judged : goal.judge_after_tag-returns-in_ok-n-in-Counted-clause-judged
judge_after_tag-returns-in_ok-n-in-Counted-clause-judged t c = λ tag is.
    taken _ _ _
    (counted_took _ tag c.args.i.now _ _ (λ k. omega (arith, c.type_inv.i k)) (is ∙ c.in-Counted.is) c.in_ok-n-in-Counted.ensures.judged)

pub judge_after_tag-returns-then-depth_left-eq0-clause-judged : goal.judge_after_tag-returns-then-depth_left-eq0-clause-judged
judge_after_tag-returns-then-depth_left-eq0-clause-judged t c =
    λ tag is. (λ e. cc, array_deep _ tag _ (is ∙ c.in-Values.is) c.if-depth_left-eq0.true)

pub judge_after_tag-returns-then-depth_left-eq0-2-clause-judged : goal.judge_after_tag-returns-then-depth_left-eq0-2-clause-judged
judge_after_tag-returns-then-depth_left-eq0-2-clause-judged t c =
    λ tag is. (λ e. cc, table_deep _ tag _ (is ∙ c.in-Entries.is) c.if-depth_left-eq0-2.true)

pub judge_after_tag-returns-else-depth_left-eq0-clause-judged : goal.judge_after_tag-returns-else-depth_left-eq0-clause-judged
judge_after_tag-returns-else-depth_left-eq0-clause-judged t c =
    λ tag is. array_behind _ tag _ _ (is ∙ c.in-Values.is) (omega (arith, c.if-depth_left-eq0.false)) c.judge_array.ensures.judged

pub judge_after_tag-returns-else-depth_left-eq0-2-clause-judged : goal.judge_after_tag-returns-else-depth_left-eq0-2-clause-judged
judge_after_tag-returns-else-depth_left-eq0-2-clause-judged t c =
    λ tag is. table_behind _ tag _ _ (is ∙ c.in-Entries.is) (omega (arith, c.if-depth_left-eq0-2.false)) c.judge_table.ensures.judged

pub judge_value-returns-in-empty-clause-judged : goal.judge_value-returns-in-empty-clause-judged
judge_value-returns-in-empty-clause-judged t c = (λ e. cc, value_empty _ _ (omega (arith, c.in-empty.len_below)))

pub judge_value-returns-in-None-clause-judged : goal.judge_value-returns-in-None-clause-judged
judge_value-returns-in-None-clause-judged t c = (
  λ e. cc,
  value_unknown _ _ (omega (arith, c.in-len1-up.len_at_least))
      (no_tag _ _ (sym c.layout_after.ensures.is ∙ c.in-None.is)),
)

pub judge_value-returns-in_err-value-in-Some-clause-judged : goal.judge_value-returns-in_err-value-in-Some-clause-judged
judge_value-returns-in_err-value-in-Some-clause-judged t c =
    let one = some_tag _ _ _ (sym c.layout_after.ensures.is ∙ c.in-Some.is) in
    err_judged _ _ _ c.in_err-value-in-Some.field-0.0 _ c.from_residual.ensures.1
    (rw (judged_tag c.args.depth_left c.args.i.now _ (omega (arith, c.in-len1-up.len_at_least)) one.is)
    (fails_next _ _ _ (let judged = rw take_rest at c.in_err-value-in-Some.ensures.judged in judged one.tag one.layout_is)))

pub judge_value-returns-in_ok-value-in-Some-clause-judged : goal.judge_value-returns-in_ok-value-in-Some-clause-judged
judge_value-returns-in_ok-value-in-Some-clause-judged t c =
    let one = some_tag _ _ _ (sym c.layout_after.ensures.is ∙ c.in-Some.is) in
    value_took_at _ _ one.tag _ _ (omega (arith, c.in-len1-up.len_at_least)) one.is
    (one.is_written) (let judged = rw take_rest at c.in_ok-value-in-Some.ensures.judged in judged one.tag one.layout_is)

pub judge_values-returns-in-Err : goal.judge_values-returns-in-Err
judge_values-returns-in-Err t c =
    let l = c.loop-at in
    let all = c.args.content.now in
    let failed = rw take_rest at c.in-Err.ensures.judged in (
      refused_inside _ _ c.inside.ensures failed.0,
      refused_at _ _ _ _ (drop l.at all) _ (omega (arith, length-drop l.at all)) c.inside.ensures failed.1 l.invariant.1.rest,
    )

pub judge_values-loop-at-preserved : goal.judge_values-loop-at-preserved
judge_values-loop-at-preserved t c =
    let l = c.loop-at in
    let all = c.args.content.now in
    let item = c.in-Ok.item in
    let found = rw take_rest at c.in-Ok.ensures.judged in
    let used = c.in-Ok.ensures.used in
    let fits : item.used ≤ length (drop l.at all) = rw take_rest at used.1 in (
      omega (arith, fits, length-drop l.at all),
      values_next _ all _ _ _ _ _ (λ k. omega (arith, c.type_inv.content k)) c.loop-at-test.true found.is used.0 fits found.decides l.invariant.1,
    )

pub judge_values-returns : goal.judge_values-returns
judge_values-returns t c = values_end _ _ _ _ c.loop-at-test.false c.loop-at.invariant.1

pub judge_entries-loop-canonical-init : goal.judge_entries-loop-canonical-init
judge_entries-loop-canonical-init t c = (omega arith, (entries_none c.args.depth_left c.args.content.now, none_leads))

pub judge_entries-returns-in-Err : goal.judge_entries-returns-in-Err
judge_entries-returns-in-Err t c =
    let l = c.loop-canonical in
    let all = c.args.content.now in
    let failed = rw take_rest at c.in-Err.ensures.judged in (
      refused_inside _ _ c.inside.ensures failed.0,
      refused_at _ _ _ _ (drop l.at all) _ (omega (arith, length-drop l.at all)) c.inside.ensures failed.1 l.invariant.1.0.rest,
    )

pub judge_entries-loop-canonical-preserved : goal.judge_entries-loop-canonical-preserved
judge_entries-loop-canonical-preserved t c =
    let l = c.loop-canonical in
    let all = c.args.content.now in
    let item = c.in-Ok.found.0 in
    let found = rw take_rest at c.in-Ok.ensures.judged in
    let used = c.in-Ok.ensures.used in
    let fits : item.used ≤ length (drop l.at all) = rw take_rest at used.1 in
    let so_far = rw c.loop-canonical-test.true at l.invariant.1.0 in (
      omega (arith, fits, length-drop l.at all),
      (
        entries_next _ all _ _ _ _ _ true item.canonical _ (λ k. omega (arith, c.type_inv.content k))
            c.if-at-content.true found.is used.0 fits found.decides c.is_next.ensures so_far,
        c.first_eight-lead.ensures,
      ),
    )

pub judge_entries-loop-at-init : goal.judge_entries-loop-at-init
judge_entries-loop-at-init t c =
    let l = c.loop-canonical in (
      l.invariant.0,
      λ is. elim c.loop-canonical-test.branch [
        | judge_entries-then-loop-canonical-test+else-at-content w ↦ w.if-at-content.false
        | judge_entries-else-loop-canonical-test w ↦ absurd (let not : l.canonical ≡ false = w.loop-canonical-test.false in cc)
      ],
      (l.previous.now, l.invariant.1.0),
    )

pub judge_entries-returns-in-Err-judge_entry : goal.judge_entries-returns-in-Err-judge_entry
judge_entries-returns-in-Err-judge_entry t c =
    let l = c.loop-at in
    let all = c.args.content.now in
    let failed = rw take_rest at c.in-Err-judge_entry.ensures.judged in (
      refused_inside _ _ c.inside-in-Err-judge_entry.ensures failed.0,
      refused_at _ _ _ _ (drop l.at all) _ (omega (arith, length-drop l.at all)) c.inside-in-Err-judge_entry.ensures failed.1 l.invariant.2.1.rest,
    )

pub judge_entries-loop-at-preserved : goal.judge_entries-loop-at-preserved
judge_entries-loop-at-preserved t c =
    let l = c.loop-at in
    let all = c.args.content.now in
    let item = c.in-Ok-judge_entry.item in
    let found = rw take_rest at c.in-Ok-judge_entry.ensures.judged in
    let used = c.in-Ok-judge_entry.ensures.used in
    let fits : item.used ≤ length (drop l.at all) = rw take_rest at used.1 in (
      omega (arith, fits, length-drop l.at all),
      λ is. omega (arith, l.invariant.1 is),
      (
        _,
        entries_read _ _ _ _ l.invariant.2.0 _ _ item.canonical c.loop-at-test.true l.invariant.1 (λ above over.
            entries_next _ all _ _ _ _ found.value _ _ above (λ k. omega (arith, c.type_inv.content k))
            c.loop-at-test.true found.is used.0 fits found.decides over l.invariant.2.1),
      ),
    )

pub judge_entries-returns : goal.judge_entries-returns
judge_entries-returns t c =
    let l = c.loop-at in
    entries_end _ _ _ _ _ c.loop-at-test.false l.invariant.2.1

pub judge_entry-returns-in_err-n-clause-judged : goal.judge_entry-returns-in_err-n-clause-judged
unfolding judge_entry
judge_entry-returns-in_err-n-clause-judged t c =
    entry_err _ _ _ c.in_err-n.field-0.0 _ c.from_residual.ensures.1
    (fails_next _ _ _ (fully {A = Bor (List ℕ)} (λ b. b.now) _ _ c.in_err-n.ensures.judged))

pub judge_entry-returns-in_err-value-clause-judged : goal.judge_entry-returns-in_err-value-clause-judged
unfolding judge_entry
judge_entry-returns-in_err-value-clause-judged t c =
    entry_err _ _ _ c.in_err-value.field-0.0 _ c.from_residual-in_err-value.ensures.1
    (rw c.in_ok-n.ensures.judged (fails_next _ _ _ (rw take_rest at c.in_err-value.ensures.judged)))

pub judge_entry-returns-clause-judged : goal.judge_entry-returns-clause-judged
judge_entry-returns-clause-judged t c =
    let used = c.in_ok-value.ensures.used in
    entry_took _ _ _ _ _ _ (λ k. omega (arith, c.type_inv.i k)) c.in_ok-n.ensures.judged refl
    (rw take_rest at c.in_ok-value.ensures.judged) (rw take_rest at used.1)
