-- What was judged.
use Rattle.std.proofs.Common.{sym, ◌∙◌, arith}
use Rattle.amqp_entries.proofs.Nesting.{array_written}
use Rattle.amqp_entries.proofs.nested.ArrayValueToValue.measure.Goals as goal

pub returns-then-self-clause-written : goal.returns-then-self-clause-written
returns-then-self-clause-written c = array_written c.args.self.now.content.now c.are_bytes.ensures (c.args.self.now.was_found.flawless (omega arith))

pub returns-in-None-clause-written : goal.returns-in-None-clause-written
returns-in-None-clause-written c = array_written c.args.self.now.content.now c.are_bytes.ensures (sym c.array_refusal.ensures ∙ c.in-None.is)
