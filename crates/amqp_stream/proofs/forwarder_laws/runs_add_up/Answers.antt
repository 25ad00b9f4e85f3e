-- `runs_add_up`: what it ensures.
use Rattle.amqp_stream.proofs
use proofs.Forwarding.{runs_add_up}
use proofs.forwarder_laws.runs_add_up.Goals as goal

pub returns : goal.returns
returns g c = runs_add_up g.W.FrameWriter.manner
