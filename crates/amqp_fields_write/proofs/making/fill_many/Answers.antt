-- `fill_many`: what it ensures.
use Rattle.amqp_fields_write.proofs
use proofs.Names.{rules, refl, numbers}
use proofs.FramesMade.{never_small, refused}
use proofs.QuickFrames.{front_written, too_small}
use proofs.making.fill_many.Goals as goal

pub returns : goal.returns
returns c = front_written c.lay_frames-needed.ensures (grind numbers) (grind numbers) c.fill_front.ensures

pub returns-in-Ok : goal.returns-in-Ok
returns-in-Ok c = too_small c.lay_frames-needed.ensures (grind numbers) refl c.in-Ok.ensures (search rules)

pub returns-in-Err : goal.returns-in-Err
returns-in-Err c = refused _ _ _ (never_small _ _ _ _ _) c.in-Err.ensures
