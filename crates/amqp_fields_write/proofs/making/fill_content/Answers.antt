-- `fill_content`: what it ensures.
use Rattle.amqp_fields_write.proofs
use proofs.Names.{rules, refl, numbers}
use proofs.FramesMade.{refused}
use proofs.QuickFrames.{front_written, never_content, too_small}
use proofs.making.fill_content.Goals as goal

pub returns : goal.returns
returns c = front_written c.lay_content-needed.ensures (grind numbers) (grind numbers) c.fill_content_front.ensures

pub returns-in-Ok : goal.returns-in-Ok
returns-in-Ok c = too_small c.lay_content-needed.ensures (grind numbers) refl c.in-Ok.ensures (search rules)

pub returns-in-Err : goal.returns-in-Err
returns-in-Err c = refused _ _ _ (never_content _ _ _) c.in-Err.ensures
