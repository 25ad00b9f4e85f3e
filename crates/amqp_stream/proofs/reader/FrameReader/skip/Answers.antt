-- `FrameReader::skip`: clause `held`.
use Rattle.amqp_stream.proofs
use proofs.Spans.{part-drop}
use proofs.reader.FrameReader.skip.Goals as goal

pub returns-clause-held : goal.returns-clause-held
returns-clause-held c =
    rw (← c.self.view_is) (part-drop c.self.inside.buf.items _ c.self.inside.span.end c.args.count)
