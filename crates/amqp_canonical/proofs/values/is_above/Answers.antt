-- `is_above`: what it ensures.
use Rattle.std.proofs.Common.{sym, ◌∙◌, arith}
use Rattle.amqp_canonical.proofs.Above.{lead_decides, next_decide}
use Rattle.amqp_canonical.proofs.values.is_above.Goals as goal

pub returns-then-previous_lead-lead : goal.returns-then-previous_lead-lead
returns-then-previous_lead-lead c =
    let leads = c.requires.leads in
    lead_decides _ _ _ _ (λ k. omega (arith, c.type_inv.previous k))
    (λ k. omega (arith, c.type_inv.key k)) leads.1 leads.0 c.if-previous_lead-lead.true

pub returns-then-previous_more-more : goal.returns-then-previous_more-more
returns-then-previous_more-more c =
    let leads = c.requires.leads in
    let same = sym leads.1 ∙ c.if-previous_lead-lead.false ∙ leads.0 in
    next_decide _ _ _ _ (λ k. omega (arith, c.type_inv.previous k))
    (λ k. omega (arith, c.type_inv.key k)) same c.next_two-previous_more.ensures c.next_two-more.ensures c.if-previous_more-more.true
