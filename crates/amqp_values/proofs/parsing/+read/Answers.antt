-- the calls of cycle `read`: what they ensure and what loops keep.
use Rattle.std.proofs.Common.{◌≤◌, ◌++◌, length, drop, map, arith, ap, sym, ◌∙◌, Ok}
use Rattle.std.proofs.lemmas.List.{append-nil, drop-drop, length-drop, map-append, take_rest}
use Rattle.amqp_values.specs.Views.{value_of, entry_of}
use Rattle.amqp_types.specs.ValueJudging.{read_map, filled, judge_value, judge_entry}
use Rattle.amqp_types.specs.Settling.{settled, settled_on}
use Rattle.amqp_laws.proofs.Filling.{RefusesWhole-map, refused_at, goes_on, goes_on_settled, ends}
use Rattle.amqp_values.proofs.parsing.+read.Goals as goal

pub values_in-returns-in-Err : goal.values_in-returns-in-Err
values_in-returns-in-Err t c =
    let l = c.loop-at in
    let all = c.args.content.now in
    refused_at (judge_value c.args.depth_left) (λ xs. l.array ++ xs) c.in-Err.error _ (drop l.at all) _ (omega (arith, length-drop l.at all)) c.inside.ensures
    (rw take_rest at c.in-Err.ensures.judged) l.invariant.1

pub values_in-loop-at-preserved : goal.values_in-loop-at-preserved
values_in-loop-at-preserved t c =
    let l = c.loop-at in
    let all = c.args.content.now in
    let n = c.in-Ok.found.0 in
    let v = value_of c.in-Ok.found.1 in
    let used = c.in-Ok.ensures.used in
    let fits : n ≤ length (drop l.at all) = rw take_rest at used.1 in
    let next =
    goes_on (judge_value c.args.depth_left) l.array v n (drop l.at all) _
    (omega (arith, length-drop l.at all)) (rw take_rest at c.in-Ok.ensures.judged) used.0 fits l.invariant.1 in
    (omega (arith, fits, length-drop l.at all), rw (c.in_ok-push.ensures.ok, ← drop-drop n l.at all) next)

pub values_in-returns : goal.values_in-returns
values_in-returns t c =
    let l = c.loop-at in
    ends (judge_value c.args.depth_left) (λ xs. l.array ++ xs) l.at c.args.content.now _ c.loop-at-test.false l.invariant.1 ∙ ap Ok (append-nil l.array)

pub few_entries_in-returns-in-Err : goal.few_entries_in-returns-in-Err
few_entries_in-returns-in-Err t c =
    let l = c.loop-at in
    let all = c.args.content.now in
    refused_at (judge_entry (judge_value c.args.depth_left)) (settled_on l.table) c.in-Err.error _
    (drop l.at all) _ (omega (arith, length-drop l.at all)) c.inside.ensures
    (rw take_rest at c.in-Err.ensures.judged) l.invariant.1

pub few_entries_in-loop-at-preserved : goal.few_entries_in-loop-at-preserved
few_entries_in-loop-at-preserved t c =
    let l = c.loop-at in
    let all = c.args.content.now in
    let n = c.in-Ok.found.0 in
    let e = entry_of c.in-Ok.found.1 in
    let used = c.in-Ok.ensures.used in
    let fits : n ≤ length (drop l.at all) = rw take_rest at used.1 in
    let next =
    goes_on_settled (judge_entry (judge_value c.args.depth_left)) l.table e n (drop l.at all) _
    (omega (arith, length-drop l.at all)) (rw take_rest at c.in-Ok.ensures.judged) used.0 fits l.invariant.1 in
    (omega (arith, fits, length-drop l.at all), rw (c.in_ok-insert.ensures.ok, ← drop-drop n l.at all) next)

pub few_entries_in-returns : goal.few_entries_in-returns
few_entries_in-returns t c =
    let l = c.loop-at in
    ends (judge_entry (judge_value c.args.depth_left)) (settled_on l.table) l.at c.args.content.now _ c.loop-at-test.false l.invariant.1

pub many_entries_in-returns-in-Err : goal.many_entries_in-returns-in-Err
many_entries_in-returns-in-Err t c =
    let l = c.loop-at in
    let all = c.args.content.now in
    let read = filled (judge_entry (judge_value c.args.depth_left)) 0 all in
    RefusesWhole-map _ settled read (refused_at (judge_entry (judge_value c.args.depth_left))
    (λ es. map entry_of l.entries.items ++ es) c.in-Err.error _ (drop l.at all) _ (omega (arith, length-drop l.at all)) c.inside.ensures
    (rw take_rest at c.in-Err.ensures.judged) l.invariant.1)

pub many_entries_in-loop-at-preserved : goal.many_entries_in-loop-at-preserved
many_entries_in-loop-at-preserved t c =
    let l = c.loop-at in
    let all = c.args.content.now in
    let n = c.in-Ok.found.0 in
    let e = entry_of c.in-Ok.found.1 in
    let used = c.in-Ok.ensures.used in
    let fits : n ≤ length (drop l.at all) = rw take_rest at used.1 in
    let next =
    goes_on (judge_entry (judge_value c.args.depth_left)) (map entry_of l.entries.items) e n (drop l.at all) _
    (omega (arith, length-drop l.at all)) (rw take_rest at c.in-Ok.ensures.judged) used.0 fits l.invariant.1 in
    (omega (arith, fits, length-drop l.at all), rw (c.in_ok-push_entry.ensures, map-append entry_of l.entries.items, ← drop-drop n l.at all) next)

pub many_entries_in-returns : goal.many_entries_in-returns
many_entries_in-returns t c =
    let l = c.loop-at in
    let held = map entry_of l.entries.items in
    ap (read_map settled) (ends (judge_entry (judge_value c.args.depth_left)) (λ es. held ++ es) l.at c.args.content.now _ c.loop-at-test.false l.invariant.1
    ∙ ap Ok (append-nil held))
    ∙ ap Ok (sym c.in_ok-from_entries.ensures)
