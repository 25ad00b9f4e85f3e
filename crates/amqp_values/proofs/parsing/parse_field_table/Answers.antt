-- `parse_field_table`: clause `within`.
use Rattle.std.proofs.Common.{ℕ, List, Result, Ok, Err, IfOk, arith}
use Rattle.amqp_types.specs.Judging.{IsBytes}
use Rattle.amqp_types.specs.Answers.{Answers}
use Rattle.amqp_types.specs.ValueBytes.{table_size, table_bytes}
use Rattle.amqp_types.specs.ValueJudging.{judge_field_table}
use Rattle.amqp_types.specs.ValueLaws.{IsNoLonger}
use Rattle.amqp_types.specs.declared.errors.ParserError.{ParserError}
use Rattle.amqp_types.specs.Values.{Entry}
use Rattle.amqp_laws.proofs.ValueLaws.{table_within}
use Rattle.amqp_values.proofs.parsing.parse_field_table.Goals as goal

within : (bytes : List ℕ) (r : Result (ℕ × List Entry) ParserError) → IsBytes bytes
    → Answers (λ es. es) r (judge_field_table bytes) → IfOk r (λ x. IsNoLonger (table_size x.1) (table_bytes x.1) x.0)
within bytes (Ok x) fits h = table_within bytes (x.1) x.0 fits h
within bytes (Err error) fits h = tt

pub returns-clause-within : goal.returns-clause-within
returns-clause-within c = within c.args.i.now _ (λ i. omega (arith, c.type_inv.i i)) c.table_within.ensures.judged
