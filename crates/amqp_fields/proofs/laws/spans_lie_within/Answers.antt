-- `spans_lie_within`: what it ensures.
use Rattle.amqp_fields.proofs.SpansLie.{entries_lie, fields_lie, head_lies, values_lie}
use Rattle.amqp_fields.proofs.laws.spans_lie_within.Goals as goal

pub returns : goal.returns
returns c = record { frame = head_lies; fields = fields_lie; entries = entries_lie; values = values_lie }
