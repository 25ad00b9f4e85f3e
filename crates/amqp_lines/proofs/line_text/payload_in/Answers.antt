-- `payload_in`: what it ensures.
use Rattle.amqp_lines.proofs
use proofs.Borrowed.{payload_framed, payload_version}
use proofs.line_text.payload_in.Goals as goal

pub returns-in-ProtocolHeader : goal.returns-in-ProtocolHeader
returns-in-ProtocolHeader c = payload_version c.in-ProtocolHeader.is c.bytes_from.ensures

pub returns-in_default : goal.returns-in_default
returns-in_default c =
    payload_framed
    c.in_default.not-ProtocolHeader c.bytes_from-in_default.ensures c.without_last.ensures
