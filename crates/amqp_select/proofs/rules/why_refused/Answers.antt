-- `why_refused`: what it ensures and what loops keep.
use Rattle.std.proofs.Common.{[], ◌∷◌, ◌++◌, sym, ap, ◌∙◌}
use Rattle.amqp_select.specs.Reading.{read_rule}
use Rattle.amqp_select.proofs.Reading.{none_spelled, spelled_more, first_malformed, all_spelled}
use Rattle.amqp_select.proofs.rules.why_refused.Goals as goal

pub loop-place-init : goal.loop-place-init
loop-place-init c = ([], none_spelled)

pub returns-in-None : goal.returns-in-None
returns-in-None c =
    let read = ap read_rule (sym c.as_bytes.ensures.value) ∙ sym c.read_rule.ensures ∙ c.in-None.is in
    first_malformed c.args.words.now c.loop-place.place c.index-words-place.result c.loop-place.invariant.0
    c.requires.0 c.requires.1 c.loop-place-test.true c.index-words-place.is c.loop-place.invariant.1 read

pub loop-place-preserved : goal.loop-place-preserved
loop-place-preserved c =
    let read = ap read_rule (sym c.as_bytes.ensures.value) ∙ sym c.read_rule.ensures ∙ c.in-Some.is in (
      c.loop-place.invariant.0 ++ c.in-Some.field-0 ∷ [],
      spelled_more c.args.words.now c.loop-place.place c.index-words-place.result c.loop-place.invariant.0
          c.in-Some.field-0 c.loop-place-test.true c.index-words-place.is c.loop-place.invariant.1 read,
    )

pub returns : goal.returns
returns c = (
  c.loop-place.invariant.0,
  all_spelled c.args.words.now c.loop-place.place c.loop-place.invariant.0 c.requires.0 c.requires.1 c.loop-place-test.false c.loop-place.invariant.1,
)
