-- `Recutter::go_on`: clause `writes`.
use Rattle.amqp_recut.proofs
use Rattle.std.proofs.lemmas.Grind.{common_steps}
use Rattle.std.proofs.Common.{◌++◌, ◌<◌, refl, ap, arith, length}
use Rattle.std.proofs.lemmas.List.{length-append}
use Rattle.amqp_stream.proofs.Writes.{kept}
use Rattle.amqp_recut.specs.Held.{kept_in}
use Rattle.amqp_recut.specs.Stepping.{held_at}
use Rattle.amqp_turns.proofs.Pieces.{left-all, left_is}
use proofs.Gathering.{gathered_none, body_written, body_unwritten}
use proofs.Piecing.{given_too_few}
use proofs.recutter.Recutter.go_on.Goals as goal

pub returns-in-Ok-clause-writes : goal.returns-in-Ok-clause-writes
returns-in-Ok-clause-writes g c =
    let s = c.args.self.now in
    let all = kept_in (held_at s c.args.channel_id) ++ c.args.payload.now in
    let less : length all < s.size = omega (arith, ap length c.kept-kept.ensures, length-append (kept_in (held_at s c.args.channel_id)) c.args.payload.now) in
    body_written _ _ _ _ (rw (left-all s.size all less, ← c.in-Ok.ensures.ok) at c.requires.steps)
    (rw (given_too_few s.size c.args.channel_id all less) (gathered_none _ _ _ refl))

pub returns-in-Err-clause-writes : goal.returns-in-Err-clause-writes
returns-in-Err-clause-writes g c = (refl, kept _ _ _ refl)

pub returns-in-Err-write_pieces-clause-writes : goal.returns-in-Err-write_pieces-clause-writes
returns-in-Err-write_pieces-clause-writes g c =
    body_unwritten _ _ _ _ c.requires.steps (rw c.kept-kept.ensures at c.in-Err-write_pieces.ensures.gathers)

pub returns-in-Ok-write_pieces-clause-writes : goal.returns-in-Ok-write_pieces-clause-writes
returns-in-Ok-write_pieces-clause-writes g c = grind (arith, common_steps, body_written, left_is)
