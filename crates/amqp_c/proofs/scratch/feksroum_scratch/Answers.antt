-- `feksroum_scratch`: clause `enough`.
use Rattle.std.proofs.Common.{arith}
use Rattle.amqp_c.proofs.Entries.{entries_few}
use Rattle.amqp_c.proofs.scratch.feksroum_scratch.Goals as goal

pub returns-clause-enough : goal.returns-clause-enough
returns-clause-enough c = λ room content fits le h. omega (arith, le, entries_few room content fits h)
