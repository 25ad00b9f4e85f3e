-- `measure_properties`: what it ensures and what the loop keeps.
use Rattle.amqp_fields_write.proofs
use proofs.Names.{Ok, refl, ap, ◌∙◌, arith, numbers, bytes2, number_bytes, made_properties}
use Rattle.amqp_fields_write.specs.Made.{after}
use proofs.Combined.{begins, counted_after, ends, passed, steps, stops, stops_at}
use proofs.PropertiesMade.{bits_from, next_few, no_set, none_made, rest_falls, set_next, some_refused}
use proofs.ValuesMade.{misfits}
use proofs.measuring_fields.measure_properties.Goals as goal

pub loop-found-init : goal.loop-found-init
loop-found-init c = record { few = omega arith; onward = begins _ }

pub loop-found-smaller : goal.loop-found-smaller
loop-found-smaller c =
    rest_falls c.args.pool.now c.args.end c.loop-found.rest.now c.in-Some.ensures.found c.further-place.ensures (cc)

pub returns-in_err-n : goal.returns-in_err-n
unfolding made_properties
returns-in_err-n c =
    passed _ _
    (ap (after (Ok (number_bytes bytes2 (bits_from 0 c.args.nodes.now))))
    (stops_at _ _ c.loop-found.invariant.onward (set_next _ _ _ c.in-Some.ensures.found refl refl)
    c.in_err-n.ensures))
    c.from_residual.ensures.1

pub loop-found-preserved : goal.loop-found-preserved
loop-found-preserved c = record {
  few = next_few c.args.pool.now c.args.end c.loop-found.rest.now c.in-Some.ensures.found c.further-place.ensures refl;
  onward =
      steps c.loop-found.invariant.onward
      (set_next _ _ _ c.in-Some.ensures.found c.further-place.ensures (cc))
      c.in_ok-n.ensures c.plus-count.ensures;
}

pub returns-then-is_empty : goal.returns-then-is_empty
unfolding made_properties
returns-then-is_empty c =
    let l = c.loop-found in
    counted_after (number_bytes bytes2 (bits_from 0 c.args.nodes.now))
    (ends l.invariant.onward
    (no_set _ _ _ l.invariant.few (c.property_at.ensures.none c.in_default.is)
    ∙ none_made _ _ (grind numbers)))
    c.plus.ensures

pub returns-else-is_empty : goal.returns-else-is_empty
unfolding made_properties
returns-else-is_empty c =
    let l = c.loop-found in
    ap (after (Ok (number_bytes bytes2 (bits_from 0 c.args.nodes.now))))
    (stops _ l.invariant.onward
    (no_set _ _ _ l.invariant.few (c.property_at.ensures.none c.in_default.is)
    ∙ some_refused _ _ (grind numbers) ∙ misfits c.index_of.ensures c.bad.ensures))
