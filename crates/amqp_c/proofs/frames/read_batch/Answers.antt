-- `read_batch`: what it ensures, and that the counts fit.
use Rattle.amqp_c.proofs.BatchGiven.{frames_few, frames_given}
use Rattle.amqp_c.proofs.frames.read_batch.Goals as goal

pub report-requires : goal.report-requires
report-requires c = record { few = frames_few c.read_frames.ensures.frames }

pub returns-clause-given : goal.returns-clause-given
returns-clause-given c = rw c.report.ensures (frames_given c.read_frames.ensures.frames c.read_frames.ensures.end)
