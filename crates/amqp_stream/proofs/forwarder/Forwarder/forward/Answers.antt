-- `Forwarder::forward`: clause `forwards`.
use Rattle.amqp_stream.proofs
use proofs.Forwarding.{forwards}
use proofs.forwarder.Forwarder.forward.Goals as goal

pub returns-clause-forwards : goal.returns-clause-forwards
returns-clause-forwards g c = λ none. forwards c.unrefused.result (rw c.unrefused.ensures at (c.forward_with.ensures.forwards none))
