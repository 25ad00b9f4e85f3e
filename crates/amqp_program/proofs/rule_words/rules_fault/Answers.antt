-- `rules_fault`: what it ensures of a word that is no rule.
use Rattle.amqp_program.proofs.RuleParts.{malformed_word}
use Rattle.amqp_program.proofs.rule_words.rules_fault.Goals as goal

pub returns-in-Err-Malformed : goal.returns-in-Err-Malformed
returns-in-Err-Malformed c =
    let read = rw c.in-Err-Malformed.field-0-is at c.in-Err-Malformed.ensures in
    malformed_word c.args.words.now _ _ _ c.index-front-place.result c.index-front-place.result read c.index-front-place.is
    (rw c.as_bytes.ensures.value at c.bad_part.ensures)
