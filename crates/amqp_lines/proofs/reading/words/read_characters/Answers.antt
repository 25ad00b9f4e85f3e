-- `read_characters`: what it ensures and what loops keep.
use Rattle.amqp_lines.proofs
use proofs.Names.{rules, ◌-◌, refl, sym, ◌∙◌, arith, listed, read_escaped}
use proofs.ReadSteps.{inside_begins, goes_on, stops, listed_over, listed_none, listed_next}
use proofs.reading.words.read_characters.Goals as goal

pub characters-init : goal.characters-init
characters-init c = inside_begins _ _ _ _ _ _ (search rules) c.bytes_from-rest.ensures

pub characters-preserved : goal.characters-preserved
characters-preserved c =
    goes_on _ (listed read_escaped 34 (c.characters.left - 1)) c.characters.invariant
    (listed_next read_escaped 34 _ _ (omega arith) refl (sym c.ends_at.ensures ∙ c.if-ends_at.false))
    c.in_ok-next.ensures

pub returns-then-ends_at : goal.returns-then-ends_at
returns-then-ends_at c =
    stops c.characters.invariant (listed_over read_escaped 34 _ _ (sym c.ends_at.ensures ∙ c.if-ends_at.true)) (search rules)

pub returns : goal.returns
returns c = stops c.characters.invariant (listed_none read_escaped 34 _ _ (omega arith)) (search rules)
