-- `parse_value`: clause `within`.
use Rattle.std.proofs.Common.{ℕ, List, Result, Ok, Err, IfOk, arith}
use Rattle.amqp_types.specs.Judging.{IsBytes}
use Rattle.amqp_types.specs.Answers.{Answers}
use Rattle.amqp_types.specs.ValueBytes.{tagged_size, tagged_bytes}
use Rattle.amqp_types.specs.ValueJudging.{judge_field_value}
use Rattle.amqp_types.specs.ValueLaws.{IsNoLonger}
use Rattle.amqp_types.specs.declared.errors.ParserError.{ParserError}
use Rattle.amqp_values.specs.Views.{value_of}
use Rattle.amqp_values.specs.declared.value.AMQPValue.{AMQPValue}
use Rattle.amqp_laws.proofs.ValueLaws.{value_within}
use Rattle.amqp_values.proofs.parsing.parse_value.Goals as goal

within : (bytes : List ℕ) (r : Result (ℕ × AMQPValue) ParserError) → IsBytes bytes → Answers value_of r (judge_field_value bytes)
    → IfOk r (λ x. IsNoLonger (tagged_size (value_of x.1)) (tagged_bytes (value_of x.1)) x.0)
within bytes (Ok x) fits h = value_within bytes (value_of x.1) x.0 fits h
within bytes (Err error) fits h = tt

pub returns-clause-within : goal.returns-clause-within
returns-clause-within c = within c.args.i.now _ (λ i. omega (arith, c.type_inv.i i)) c.value_within.ensures.judged
