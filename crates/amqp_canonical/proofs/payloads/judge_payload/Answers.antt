-- `judge_payload`: clause `judged`.
use Rattle.std.proofs.Common.{ℕ, ◌-◌, length, take, drop, sym, ◌∙◌, arith}
use Rattle.std.proofs.lemmas.List.{take_rest}
use Rattle.amqp_canonical.specs.Shapes.{slots_of}
use Rattle.amqp_canonical.proofs.OneSlot.{err_passed}
use Rattle.amqp_canonical.proofs.MethodWalk.{none_is, some_is, payload_unread, payload_no_class, payload_no_id, payload_no_method, payload_fails, payload_took}
use Rattle.amqp_canonical.proofs.payloads.judge_payload.Goals as goal

pub returns-in_err-n-clause-judged : goal.returns-in_err-n-clause-judged
returns-in_err-n-clause-judged c =
    err_passed _ _ _ _ _ _ c.from_residual.ensures.1
    (payload_unread {A = ℕ} c.args.payload.now (λ n. n) c.in_err-n.field-0.0 c.in_err-n.ensures.judged)

pub returns-then-is_class-clause-judged : goal.returns-then-is_class-clause-judged
returns-then-is_class-clause-judged c =
    let rows = some_is _ (sym c.is_class.ensures ∙ c.if-is_class.true) in
    payload_no_id {A = ℕ} _ _ _ rows.0 (λ n. n) c.in-Err.error c.in_ok-n.ensures.judged rows.1 (rw take_rest at c.in-Err.ensures.judged)

pub returns-in-Err-clause-judged : goal.returns-in-Err-clause-judged
returns-in-Err-clause-judged c = (
  λ e. cc,
  payload_no_class _ _ _ c.in_ok-n.ensures.judged (none_is _ (sym c.is_class.ensures ∙ c.if-is_class.false)),
)

pub returns-then-is_class-2-clause-judged : goal.returns-then-is_class-2-clause-judged
returns-then-is_class-2-clause-judged c =
    let rows = some_is _ (sym c.is_class-in_default.ensures ∙ c.if-is_class-2.true) in (
      λ e. cc,
      payload_no_method _ _ _ _ _ rows.0 c.in_ok-n.ensures.judged rows.1
          (rw take_rest at c.in-Ok.ensures.judged) (sym c.in_default.ensures.slots),
    )

pub returns-in_default-clause-judged : goal.returns-in_default-clause-judged
returns-in_default-clause-judged c = (
  λ e. cc,
  payload_no_class _ _ _ c.in_ok-n.ensures.judged (none_is _ (sym c.is_class-in_default.ensures ∙ c.if-is_class-2.false)),
)

pub returns-in_err-slots-clause-judged : goal.returns-in_err-slots-clause-judged
returns-in_err-slots-clause-judged c =
    let behind = take (length c.args.payload.now - c.in_ok-n.n) (drop c.in_ok-n.n c.args.payload.now) in
    err_passed _ _ _ _ _ _ c.from_residual-in_err-slots.ensures.1
    (payload_fails _ _ _ _ _ (slots_of c.in-Some.shapes.now) c.in_err-slots.field-0.0 c.in_ok-n.ensures.judged (rw take_rest at c.in-Ok.ensures.judged)
    (sym c.in-Some.ensures.slots) (rw take_rest at (rw (take_rest behind c.in-Ok.found.0) at c.in_err-slots.ensures.judged)))

pub returns-clause-judged : goal.returns-clause-judged
returns-clause-judged c =
    let behind = take (length c.args.payload.now - c.in_ok-n.n) (drop c.in_ok-n.n c.args.payload.now) in
    payload_took _ _ _ _ _ (slots_of c.in-Some.shapes.now) c.in_ok-slots.slots
    (λ k. omega (arith, c.type_inv.payload k)) c.in_ok-n.ensures.judged (rw take_rest at c.in-Ok.ensures.judged)
    (sym c.in-Some.ensures.slots) (rw take_rest at (rw (take_rest behind c.in-Ok.found.0) at c.in_ok-slots.ensures.judged))
