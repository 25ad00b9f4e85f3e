-- `fill_beside`: what it ensures.
use Rattle.amqp_fields_write.proofs
use proofs.Names.{arith, numbers}
use proofs.QuickFrames.{few_copied}
use proofs.making.fill_beside.Goals as goal

pub returns : goal.returns
returns g c =
    few_copied c.lay_frames-needed.ensures (grind numbers) (grind arith) (grind numbers) c.put_bytes.ensures
