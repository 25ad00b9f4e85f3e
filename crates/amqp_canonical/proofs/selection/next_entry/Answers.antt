-- `next_entry`: what it ensures and what loops keep.
use Rattle.std.proofs.Common.{◌∙◌, sym, arith}
use Rattle.std.proofs.lemmas.Bool.{false≢true}
use Rattle.std.proofs.lemmas.List.{take_rest}
use Rattle.amqp_canonical.proofs.Marking.{entries_next}
use Rattle.amqp_canonical.proofs.NextKey.{looked_taken, looked_past, looked_end}
use Rattle.amqp_canonical.proofs.selection.next_entry.Goals as goal
use Rattle.amqp_canonical.proofs.selection.next_entry.Goals.{then-is_after+then-comes_first, else-is_after, else-is_after-via-then-is_after+else-comes_first}
use Rattle.amqp_canonical.proofs.selection.next_entry.Goals.{else-is_after-via-else-is_after}

pub loop-at-preserved : goal.loop-at-preserved
loop-at-preserved c = λ room read.
    let at = c.loop-at.at in
    let content = c.args.content.now in
    let size = c.entry_size-at.result in
    let key = c.split_key.result.0 in
    let sized = rw take_rest at c.entry_size-at.ensures.used in
    let is = rw take_rest at c.split_key.ensures.key in
    let h = c.loop-at.invariant room read in
    let here = entries_next room content at size h.front (λ k. omega (arith, c.type_inv.content k)) c.loop-at-test.true (sized room) h.entries in
    elim c.if-is_after.branch [
      | then-is_after+then-comes_first w ↦
          rw w.found-is
          (looked_taken _ _ _ _ _ key _ h here is (c.is_after.ensures.0 w.if-is_after.true) (w.comes_first.ensures.0 w.if-comes_first.true))
      | else-is_after w ↦
          elim w.else-is_after.branch [
            | else-is_after-via-then-is_after+else-comes_first w' ↦
                rw w.found-is
                (looked_past _ _ _ _ _ key _ h here is (λ after first. false≢true (sym w'.if-comes_first.false ∙ w'.comes_first.ensures.1 first)))
            | else-is_after-via-else-is_after w' ↦
                rw w.found-is
                (looked_past _ _ _ _ _ key _ h here is (λ after first. false≢true (sym w'.if-is_after.false ∙ c.is_after.ensures.1 after)))
          ]
    ]

pub returns : goal.returns
returns c = λ room read. looked_end _ _ _ _ _ c.loop-at-test.false (c.loop-at.invariant room read)
