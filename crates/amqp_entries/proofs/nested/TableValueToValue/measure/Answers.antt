-- What was judged.
use Rattle.std.proofs.Common.{sym, ◌∙◌, arith}
use Rattle.amqp_entries.proofs.Nesting.{table_written}
use Rattle.amqp_entries.proofs.nested.TableValueToValue.measure.Goals as goal

pub returns-then-self-clause-written : goal.returns-then-self-clause-written
returns-then-self-clause-written c = table_written c.args.self.now.content.now c.are_bytes.ensures (c.args.self.now.was_found.flawless (omega arith))

pub returns-in-None-clause-written : goal.returns-in-None-clause-written
returns-in-None-clause-written c = table_written c.args.self.now.content.now c.are_bytes.ensures (sym c.table_refusal.ensures ∙ c.in-None.is)
