-- `write_method`: what it ensures.
use Rattle.amqp_lines.proofs
use proofs.Lining.{method_said}
use proofs.lines.write_method.Goals as goal

pub returns : goal.returns
returns c =
    method_said _ _ _ _ _ _
    _ _ _ c.in_ok-write_ids.ensures c.bytes_from.ensures c.write_fields.ensures
