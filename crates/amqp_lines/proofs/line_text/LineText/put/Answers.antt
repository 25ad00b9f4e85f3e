-- `LineText::put`: what it ensures.
use Rattle.amqp_lines.proofs
use proofs.Names.{◌∙◌, raw_of}
use proofs.Borrowed.{both_put}
use proofs.line_text.LineText.put.Goals as goal

pub returns : goal.returns
returns c =
    both_put (raw_of c.args.raw) c.outline_raw-outline.result c.payload_in.result.now c.put_canonical.new.buffer.bytes
    c.put_line.new.out.items c.in-Ok.field-0 c.put_line.result c.are_bytes.ensures c.in-Ok.ensures c.outline_raw-outline.ensures.frame
    (λ frame is e. c.payload_in.ensures frame is (c.bytes.ensures ∙ e)) c.put_line.ensures.line c.put_line.ensures.memory
