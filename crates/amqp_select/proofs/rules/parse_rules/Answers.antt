-- `parse_rules`: what it ensures and what loops keep.
use Rattle.std.proofs.Common.{sym, ap, ◌∙◌, arith}
use Rattle.amqp_select.specs.Reading.{read_rule}
use Rattle.amqp_select.proofs.Reading.{spelled_more, first_malformed}
use Rattle.amqp_select.proofs.rules.parse_rules.Goals as goal

pub returns-in-None : goal.returns-in-None
returns-in-None c =
    let read = ap read_rule (sym c.as_bytes.ensures.value) ∙ sym c.read_rule.ensures ∙ c.in-None.is in
    first_malformed c.args.words.now c.loop-place.place c.index-words-place.result c.loop-place.rules.items
    (omega arith) (omega arith) c.loop-place-test.true c.index-words-place.is c.loop-place.invariant read

pub loop-place-preserved : goal.loop-place-preserved
loop-place-preserved c =
    let read = ap read_rule (sym c.as_bytes.ensures.value) ∙ sym c.read_rule.ensures ∙ c.in-Some.is in
    rw c.in_ok-push-in-Some.ensures.items
    (spelled_more c.args.words.now c.loop-place.place c.index-words-place.result c.loop-place.rules.items
    c.in-Some.rule c.loop-place-test.true c.index-words-place.is c.loop-place.invariant read)
