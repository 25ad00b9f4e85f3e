-- `Channels::count`: what it ensures and the invariant of its loop.
use Rattle.std.proofs.Common.{◌+◌, cond, length, refl, sym, ap, ◌∙◌, add-zero, arith}
use Rattle.std.proofs.lemmas.Map.Iter.{rest_more, rest_all}
use Rattle.std.specs.Map.Iter.{deref}
use Rattle.std.specs.List.{count_by}
use Rattle.amqp_turns.proofs.LastEntry.{sorted_seen, counted_some, counted_none, counted_more, one_is}
use Rattle.amqp_turns.proofs.channels.Channels.count.Goals as goal
use Rattle.amqp_turns.proofs.channels.Channels.count.Goals.{in-Some, in-None}

pub loop-value-init : goal.loop-value-init
loop-value-init g c =
    let rest = c.into_iter-value-iterator.ensures.into_iter_gives ∙ c.values-value-items.ensures.rest in
    record {
      fits = elim c.match-self.branch [
        | in-Some w ↦ omega (
          arith,
          w.count-is ∙ w.from-count.ensures,
          (one_is w.test.result).1,
          c.values-value-items.ensures.fits,
          c.values-value-items.ensures.len,
          ap length c.into_iter-value-iterator.ensures.into_iter_gives,
        )
        | in-None w ↦ omega (
          arith,
          w.count-is,
          c.values-value-items.ensures.fits,
          c.values-value-items.ensures.len,
          ap length c.into_iter-value-iterator.ensures.into_iter_gives,
        )
      ];
      counted = λ passes computes. elim c.match-self.branch [
        | in-Some w ↦
            counted_some _ _ _ c.self.view_is passes w.in-Some.entry c.into_iter-value-iterator.result c.match-self.count
            w.in-Some.is c.self.invariant c.values-value-items.ensures.ordered
            (w.count-is ∙ w.from-count.ensures ∙ (one_is w.test.result).0
            ∙ ap (λ b. cond b 1 0) (computes w.in-Some.entry.value w.test.result (record { shown = _; shows = refl; says = record { met = w.test.ensures } })))
            rest
        | in-None w ↦
            counted_none _ _ _ c.self.view_is
            passes c.into_iter-value-iterator.result c.match-self.count w.in-None.is w.count-is rest
      ];
    }

pub loop-value-preserved-then-test : goal.loop-value-preserved-then-test
loop-value-preserved-then-test g c =
    let next = rest_more deref c.loop-value.value-iterator c.next.new.self c.next.result c.in-Some-value.value c.in-Some-value.is c.next.ensures.steps in
    record {
      fits = omega (arith, ap length next);
      counted = λ passes computes.
          let passed =
          computes c.in-Some-value.value.now c.test-in-loop-value.result
          (record { shown = _; shows = refl; says = record { met = c.test-in-loop-value.ensures } }) in
          counted_more passes c.loop-value.count (c.loop-value.count + 1) _ c.next.new.self c.in-Some-value.value.now next
          (ap (λ b. c.loop-value.count + cond b 1 0) (sym c.if-test.true ∙ passed))
          ∙ c.loop-value.invariant.counted passes computes;
    }

pub loop-value-preserved : goal.loop-value-preserved
loop-value-preserved g c =
    let next = rest_more deref c.loop-value.value-iterator c.next.new.self c.next.result c.in-Some-value.value c.in-Some-value.is c.next.ensures.steps in
    record {
      fits = omega (arith, ap length next);
      counted = λ passes computes.
          let passed =
          computes c.in-Some-value.value.now c.test-in-loop-value.result
          (record { shown = _; shows = refl; says = record { met = c.test-in-loop-value.ensures } }) in
          counted_more passes c.loop-value.count c.loop-value.count _ c.next.new.self c.in-Some-value.value.now next
          (sym (add-zero c.loop-value.count) ∙ ap (λ b. c.loop-value.count + cond b 1 0) (sym c.if-test.false ∙ passed))
          ∙ c.loop-value.invariant.counted passes computes;
    }

pub returns-clause-number : goal.returns-clause-number
returns-clause-number g c = λ passes computes.
    let none = rest_all deref c.loop-value.value-iterator c.next.new.self c.next.result c.in-None-value.is c.next.ensures.steps in
    sym (add-zero c.loop-value.count) ∙ ap (λ vs. c.loop-value.count + count_by passes vs) (sym none) ∙ c.loop-value.invariant.counted passes computes

pub returns-clause-each_once : goal.returns-clause-each_once
returns-clause-each_once g c = sorted_seen _ _ _ c.self.view_is c.values-value-items.ensures.ordered
