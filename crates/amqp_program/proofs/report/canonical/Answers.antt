-- `canonical`: clauses `answer` and `place`.
use Rattle.std.proofs.Common.{rules}
use Rattle.amqp_program.proofs.HexRuns.{answered, in_slice}
use Rattle.amqp_program.proofs.report.canonical.Goals as goal

pub returns-clause-answer : goal.returns-clause-answer
returns-clause-answer c =
    answered _ _ _ _ _ _ c.args.bytes.now c.new-sink.result c.rewrite_reported-answer.new.sink _
    (search rules) c.new-sink.ensures (c.rewrite_reported-answer.ensures.run.0.exact c.args.bytes.now (search rules))

pub returns-clause-place : goal.returns-clause-place
returns-clause-place c =
    in_slice _ _ c.args.bytes.now c.new-source.result c.rewrite_reported-answer.new.source _
    (search rules) c.new-source.ensures c.rewrite_reported-answer.ensures.run.1
