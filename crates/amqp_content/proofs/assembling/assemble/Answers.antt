-- `assemble`: what it ensures.
use Rattle.std.proofs.Common.{[], map, subst}
use Rattle.std.specs.Prelude.{IfOk}
use Rattle.amqp_frame.specs.Frames.{frame_of}
use Rattle.amqp_content.specs.Outcomes.{outcome_of}
use Rattle.amqp_turns.specs.Sequences.{AreGiven}
use Rattle.amqp_content.proofs.assembling.assemble.Goals as goal

pub returns : goal.returns
returns c =
    subst (λ max. IfOk c.push_all.result (λ outcomes. AreGiven max [] (map frame_of c.args.frames.items) (map outcome_of outcomes.items)))
    c.open-assembler.ensures.max_body c.push_all.ensures
