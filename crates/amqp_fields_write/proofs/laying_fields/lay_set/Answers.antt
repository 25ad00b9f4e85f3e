-- `lay_set`: what it ensures, what calls require and what the loop keeps.
use Rattle.amqp_fields_write.proofs
use proofs.Names.{refl, ◌∙◌, arith, numbers}
use proofs.PropertiesMade.{bits_fit, bits_next, next_few, no_bits, no_set, none_made, rest_falls, set_next, some_refused}
use proofs.Quick.{leads_begin, leads_end, leads_on, leads_refused, leads_stop}
use proofs.laying_fields.lay_set.Goals as goal

pub loop-found-init : goal.loop-found-init
loop-found-init g c = record { few = omega arith; leads = leads_begin _ _ _ _ _ _; mask_is = omega arith }

pub loop-found-smaller : goal.loop-found-smaller
loop-found-smaller g c =
    rest_falls c.args.pool.now c.args.end _ c.in-Some.ensures.found c.further-place.ensures (c.lay_field-next.ensures.rest (grind numbers))

pub loop-found-preserved : goal.loop-found-preserved
loop-found-preserved g c =
    let l = c.loop-found.invariant in
    let rest = c.lay_field-next.ensures.rest (grind numbers) in
    record {
      few = next_few c.args.pool.now c.args.end _ c.in-Some.ensures.found c.further-place.ensures rest;
      leads = leads_on l.leads (set_next _ _ _ c.in-Some.ensures.found c.further-place.ensures rest) c.lay_field-next.ensures.laid;
      mask_is =
          omega (arith, l.mask_is, bits_next c.args.pool.now c.args.end _ c.in-Some.ensures.found c.further-place.ensures rest, c.worth-mask.ensures);
    }

pub returns-then-is_empty-clause-laid : goal.returns-then-is_empty-clause-laid
returns-then-is_empty-clause-laid g c =
    let l = c.loop-found.invariant in
    leads_end l.leads (no_set _ _ _ l.few (c.property_at.ensures.none c.in_default.is) ∙ none_made _ _ (grind numbers))

pub returns-then-is_empty-clause-mask : goal.returns-then-is_empty-clause-mask
returns-then-is_empty-clause-mask g c =
    let l = c.loop-found.invariant in
    λ some. omega (arith, l.mask_is, no_bits c.args.pool.now c.args.end _ l.few (c.property_at.ensures.none c.in_default.is))

pub returns-else-is_empty-clause-laid : goal.returns-else-is_empty-clause-laid
returns-else-is_empty-clause-laid g c =
    let l = c.loop-found.invariant in
    leads_refused l.leads _ (no_set _ _ _ l.few (c.property_at.ensures.none c.in_default.is) ∙ some_refused _ _ (grind numbers)) (omega arith)

pub returns-then-next-clause-laid : goal.returns-then-next-clause-laid
returns-then-next-clause-laid g c =
    leads_stop c.loop-found.invariant.leads _ (set_next _ _ _ c.in-Some.ensures.found refl refl) c.lay_field-next.ensures.laid (grind numbers)
    (omega arith)

pub worth-mask-requires : goal.worth-mask-requires
worth-mask-requires g c = record { few = omega (arith, bits_fit _ _ c.args.nodes.now c.loop-found.invariant.mask_is c.in-Some.ensures.found) }

pub overflow_add-mask : goal.overflow_add-mask
overflow_add-mask g c = omega (arith, c.worth-mask.ensures, bits_fit _ _ c.args.nodes.now c.loop-found.invariant.mask_is c.in-Some.ensures.found)
