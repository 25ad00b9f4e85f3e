-- `push_all`: what loops keep.
use Rattle.std.proofs.Common.{◌≡◌, [], map}
use Rattle.amqp_frame.specs.Frames.{frame_of}
use Rattle.amqp_content.specs.Outcomes.{outcome_of}
use Rattle.amqp_turns.specs.Sequences.{AreGiven}
use Rattle.amqp_turns.proofs.Apart.{AllStand}
use Rattle.amqp_content.proofs.assembling.push_all.Given as goal

abbrev pub invariant-loop-frame : goal.invariant-loop-frame
invariant-loop-frame l = record {
  max : l.assembler.max_body ≡ l.initial.assembler.max_body;
  stand : AllStand l.initial.assembler.max_body (map frame_of l.yielded) l.assembler.channels;
  given : AreGiven l.initial.assembler.max_body [] (map frame_of l.yielded) (map outcome_of l.outcomes.items);
}
