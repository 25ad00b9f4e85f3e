-- `parse_decimal`: what it ensures.
use Rattle.std.proofs.Common.{sym, ap, ◌∙◌, arith}
use Rattle.std.proofs.lemmas.Bool.Decides.{nat_tests}
use Rattle.amqp_types.proofs.Numerals.{number_read, named_padded, named_read}
use Rattle.amqp_types.proofs.decimals.parse_decimal.Goals as goal

pub returns-then-is_padded : goal.returns-then-is_padded
returns-then-is_padded c =
    record { named = sym (named_padded c.args.most c.args.word.now (omega arith) (sym c.is_padded.ensures ∙ c.if-is_padded.true)); few = tt }

pub returns-in-Ok : goal.returns-in-Ok
returns-in-Ok c =
    let named =
    named_read c.args.most c.args.word.now c.parse.result (omega arith) (sym c.is_padded.ensures ∙ c.if-is_padded.false) c.parse.ensures.value.0
    ∙ ap (number_read c.args.most) c.in-Ok.is in
    grind (arith, nat_tests, named)

pub returns-in_default : goal.returns-in_default
returns-in_default c =
    let named =
    named_read c.args.most c.args.word.now c.parse.result (omega arith) (sym c.is_padded.ensures ∙ c.if-is_padded.false) c.parse.ensures.value.0
    ∙ ap (number_read c.args.most) c.in-Ok.is in
    grind (arith, nat_tests, named)

pub returns-in_default-2 : goal.returns-in_default-2
returns-in_default-2 c =
    let named =
    named_read c.args.most c.args.word.now c.parse.result (omega arith) (sym c.is_padded.ensures ∙ c.if-is_padded.false) c.parse.ensures.value.0
    ∙ ap (number_read c.args.most) c.in_default.is in
    record { named = sym named; few = tt }
