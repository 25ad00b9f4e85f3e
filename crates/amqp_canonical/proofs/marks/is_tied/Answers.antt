-- `is_tied`: what it ensures.
use Rattle.std.proofs.Common.{◌≡◌, ◌<◌, ◌+◌, ◌∙◌, suc, Less, inl, inr, length, get_or, subst, sym, refl, arith}
use Rattle.std.proofs.lemmas.Bool.{cases_lt}
use Rattle.amqp_canonical.specs.Marks.{Ascends, blank, marked_entry}
use Rattle.amqp_canonical.proofs.InOrder.{tied_as, not_tied}
use Rattle.amqp_canonical.proofs.Leading.{same_test}
use Rattle.amqp_canonical.proofs.marks.is_tied.Goals as goal

pub returns-then-apart : goal.returns-then-apart
returns-then-apart c = λ room read.
    let content = c.args.content.now in
    let marks = c.args.marks.now in
    let k = c.args.k in
    let e : suc k ≡ k + 1 = omega arith in
    elim (cases_lt (k + 1) (length marks)) [
      | inl more ↦
          tied_as room content marks k Less read more
          (sym (subst (λ n. Ascends content (get_or marks k blank) (get_or marks n blank)) e (c.requires.apart c.if-apart.true k (omega (arith, more)))))
      | inr last ↦ not_tied (marked_entry room content) (marked_entry room content (get_or marks k blank)) marks k (omega (arith, last, c.requires.here))
    ]

pub returns : goal.returns
returns c = λ room read.
    let content = c.args.content.now in
    let marks = c.args.marks.now in
    let k = c.args.k in
    let more : k + 1 < length marks = omega (arith, c.requires.here, c.if-k-marks.false) in
    same_test _ _ _ c.is_same.ensures ∙ tied_as room content marks k _ read more refl
