-- `parse_field_array`: clause `within`.
use Rattle.std.proofs.Common.{ℕ, List, Result, Ok, Err, IfOk, arith}
use Rattle.amqp_types.specs.Judging.{IsBytes}
use Rattle.amqp_types.specs.Answers.{Answers}
use Rattle.amqp_types.specs.ValueBytes.{array_size, array_bytes}
use Rattle.amqp_types.specs.ValueJudging.{judge_field_array}
use Rattle.amqp_types.specs.ValueLaws.{IsNoLonger}
use Rattle.amqp_types.specs.declared.errors.ParserError.{ParserError}
use Rattle.amqp_types.specs.Values.{FieldValue}
use Rattle.amqp_laws.proofs.ValueLaws.{array_within}
use Rattle.amqp_values.proofs.parsing.parse_field_array.Goals as goal

within : (bytes : List ℕ) (r : Result (ℕ × List FieldValue) ParserError) → IsBytes bytes
    → Answers (λ vs. vs) r (judge_field_array bytes) → IfOk r (λ x. IsNoLonger (array_size x.1) (array_bytes x.1) x.0)
within bytes (Ok x) fits h = array_within bytes (x.1) x.0 fits h
within bytes (Err error) fits h = tt

pub returns-clause-within : goal.returns-clause-within
returns-clause-within c = within c.args.i.now _ (λ i. omega (arith, c.type_inv.i i)) c.array_within.ensures.judged
