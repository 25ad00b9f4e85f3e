-- `equal_output_is_equal_frames`: what it ensures.
use Rattle.amqp_program.proofs.HexApart.{equal_output}
use Rattle.amqp_program.proofs.laws.equal_output_is_equal_frames.Goals as goal

pub returns : goal.returns
returns c = equal_output
