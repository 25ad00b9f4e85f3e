-- `write_header`: what it ensures.
use Rattle.amqp_lines.proofs
use proofs.Lining.{header_said}
use proofs.lines.write_header.Goals as goal

pub returns : goal.returns
returns c =
    header_said _ _ _ _ _ _ _
    _ _ c.in_ok-write_sizes.ensures c.bytes_from.ensures c.write_properties.ensures
