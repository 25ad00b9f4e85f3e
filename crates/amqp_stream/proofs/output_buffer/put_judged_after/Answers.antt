-- `put_judged_after`: clause `adds`.
use Rattle.amqp_stream.proofs
use proofs.Names.{◌+◌, Ok, raw_of, frame_length}
use proofs.Spans.{rewritten_after}
use proofs.output_buffer.put_judged_after.Goals as goal

pub returns-clause-adds : goal.returns-clause-adds
returns-clause-adds c =
    rewritten_after c.args.buf.now c.put_judged.new.buf c.args.len (c.args.len + frame_length (raw_of c.args.raw)) _
    (Ok c.put_judged.result) c.requires.room c.put_judged.ensures.within c.put_judged.ensures.puts
