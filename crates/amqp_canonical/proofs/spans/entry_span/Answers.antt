-- `entry_span`: clauses `used` and `copied`.
use Rattle.std.proofs.Common.{ap, length}
use Rattle.amqp_canonical.proofs.ReadParts.{entry_used}
use Rattle.amqp_canonical.proofs.PutParts.{entry_whole}
use Rattle.amqp_canonical.proofs.spans.entry_span.Goals as goal

pub returns-clause-used : goal.returns-clause-used
returns-clause-used c = λ room read.
    let behind = rw c.split_key.ensures.rest at c.value_span-after.ensures.used in
    entry_used _ _ _ _ (ap length c.split_key.ensures.key) (behind room) read

pub returns-clause-copied : goal.returns-clause-copied
returns-clause-copied c = λ set room read.
    entry_whole _ _ _ _ _ c.split_key.ensures.key c.split_key.ensures.rest read (c.value_span-after.ensures.copied set room)
