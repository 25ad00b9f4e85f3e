-- `read_set`, which calls itself: what they ensure.
use Rattle.amqp_lines.proofs
use proofs.Names.{rules, Bor, List, ℕ, take_rest}
use proofs.Names.forms
use proofs.ReadSteps.{set_none, set_other, set_read}
use proofs.reading.slots.+read_set.Goals as goal

pub returns-in-empty : goal.returns-in-empty
returns-in-empty t c = set_none _ c.in-empty.len_below

pub returns-in-None : goal.returns-in-None
returns-in-None t c =
    let others = rw take_rest at c.read_set.ensures in
    set_other _ (0, forms.Octet) _ _ _ c.in-len1-up.len_at_least c.bytes_from-name.ensures c.property_name.ensures
    (λ (r : Bor (List ℕ)). r.now) _ _ _ c.in-None.ensures others

pub returns-in_ok-mask-in-Some : goal.returns-in_ok-mask-in-Some
returns-in_ok-mask-in-Some t c =
    let others = rw take_rest at c.in_ok-mask-in-Some.ensures in
    set_read _ (0, forms.Octet) _ _ _ c.in-len1-up.len_at_least c.bytes_from-name.ensures
    c.property_name.ensures _ _ _ _ _ _ _ _ _ _ c.in-Some.ensures c.bytes_from-start.ensures
    c.in_ok-rest-in-Some.ensures others c.mask_bit.ensures (first_of (search rules, cc))
