-- `frame_reads_back`: what it ensures.
use Rattle.amqp_wire.proofs.ReadingBack.{written_reads_back}
use Rattle.amqp_frame.proofs.laws.frame_reads_back.Goals as goal

pub returns : goal.returns
returns c = λ level fits. written_reads_back level _ c.frame_held.ensures fits
