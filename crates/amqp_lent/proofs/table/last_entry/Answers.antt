-- `last_entry`: what it ensures and what loops keep.
use Rattle.std.proofs.Common.{◌+◌, ℕ, Option, drop, refl, sym, subst, ◌∙◌, arith}
use Rattle.std.proofs.lemmas.Bool.{false≢true}
use Rattle.amqp_canonical.specs.Writes.{key_in}
use Rattle.amqp_lent.proofs.Finding.{LastTo, last_taken, last_past, last_end}
use Rattle.amqp_lent.proofs.table.last_entry.Goals as goal
use Rattle.amqp_lent.proofs.table.last_entry.Goals.{then-has_key, else-has_key}

pub loop-at-preserved : goal.loop-at-preserved
loop-at-preserved c = λ room read.
    let l = c.loop-at in
    let content = c.args.content.now in
    let key = c.args.key.now in
    let size = c.entry_size-at.result in
    let here = key_in (drop l.at content) in
    let sized = rw c.bytes_from-entry.ensures at c.entry_size-at.ensures.used in
    let is = rw c.bytes_from-entry.ensures at c.has_key.ensures in
    let h = l.invariant room read in
    let P : Option ℕ → Type 0 = λ f. LastTo room content key (l.at + size) f in
    elim c.if-has_key.branch [
      | then-has_key w ↦
          subst P (sym w.found-is) (last_taken room content key l.at size here l.found
          (λ k. omega (arith, c.type_inv.content k)) c.loop-at-test.true (sized room) refl h (is.0 w.if-has_key.true))
      | else-has_key w ↦
          subst P (sym w.found-is) (last_past room content key l.at size here l.found (λ k. omega (arith, c.type_inv.content k)) c.loop-at-test.true
          (sized room) refl h (λ same. false≢true (sym w.if-has_key.false ∙ is.1 same)))
    ]

pub returns : goal.returns
returns c = λ room read. last_end room c.args.content.now c.args.key.now c.loop-at.at c.loop-at.found c.loop-at-test.false (c.loop-at.invariant room read)
