-- `put_after`: clause `front`.
use Rattle.amqp_stream.proofs
use proofs.Names.{arith}
use proofs.Spans.{put_front}
use proofs.output_buffer.put_after.Goals as goal

pub returns-clause-front : goal.returns-clause-front
returns-clause-front c = put_front c.args.buf.now c.args.len c.args.bytes.now (omega arith) c.put_bytes.ensures
