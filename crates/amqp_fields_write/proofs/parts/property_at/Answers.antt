-- `property_at`: what it ensures.
use Rattle.amqp_fields_write.proofs
use proofs.Names.{get_or, arith, blank}
use proofs.Names.forms
use Rattle.amqp_fields.proofs.Counted.{shapes_few}
use proofs.PropertiesMade.{is_at, not_at, property_found}
use proofs.parts.property_at.Goals as goal

pub returns-in-empty-clause-none : goal.returns-in-empty-clause-none
returns-in-empty-clause-none c = λ none at from few. not_at _ blank at (λ some is. absurd (omega (arith, some, c.in-empty.len_below)))

pub returns-then-node-place-clause-none : goal.returns-then-node-place-clause-none
returns-then-node-place-clause-none c = λ none at from few. not_at _ blank at (λ some is. absurd (omega (arith, from, is)))

pub returns-then-at-shapes-clause-none : goal.returns-then-at-shapes-clause-none
returns-then-at-shapes-clause-none c =
    λ none at from few. not_at _ blank at (λ some is. absurd (omega (arith, few, is, shapes_few _ c.property_shapes-shapes.ensures)))

pub returns-else-at-shapes-clause-found : goal.returns-else-at-shapes-clause-found
returns-else-at-shapes-clause-found c =
    record {
      from = omega arith;
      stands = property_found _ (0, forms.Octet) (get_or c.args.nodes.now 0 blank).place c.property_shapes-shapes.ensures (omega arith);
      is = is_at _ blank c.in-len1-up.len_at_least;
    }
