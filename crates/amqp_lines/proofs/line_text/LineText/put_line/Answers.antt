-- `LineText::put_line`: what it ensures.
use Rattle.amqp_lines.proofs
use proofs.Names.{raw_of}
use proofs.Borrowed.{line_put}
use proofs.line_text.LineText.put_line.Goals as goal

pub returns-in-Ok : goal.returns-in-Ok
returns-in-Ok c =
    line_put (raw_of c.args.raw) c.outline_raw.result c.put_line.new.out.items c.put_line.result c.are_bytes.ensures
    c.in-Ok.ensures c.if-judged.true c.outline_raw.ensures.frame c.put_line.ensures.line c.put_line.ensures.memory
