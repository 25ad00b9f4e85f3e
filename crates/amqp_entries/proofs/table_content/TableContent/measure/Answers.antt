-- A length, and the canonical content.
use Rattle.std.proofs.Common.{sym, ◌∙◌, arith}
use Rattle.amqp_types.specs.ValueBytes.{table_bytes}
use Rattle.amqp_entries.proofs.Room.{put_size}
use Rattle.amqp_entries.proofs.table_content.TableContent.measure.Goals as goal

pub returns-then-self-clause-size : goal.returns-then-self-clause-size
unfolding table_bytes
returns-then-self-clause-size c =
    let found = c.args.self.now.was_found in
    let none = found.flawless (omega arith) in
    put_size _ _ _ none (found.size_is none)

pub returns-in-None-clause-size : goal.returns-in-None-clause-size
unfolding table_bytes
returns-in-None-clause-size c =
    let found = c.args.self.now.was_found in
    let none = sym c.table_refusal.ensures ∙ c.in-None.is in
    put_size _ _ _ none (found.size_is none)
