-- `put_before`: clause `front`.
use Rattle.amqp_stream.proofs
use proofs.Names.{ℕ, ◌+◌, List, length, take, ap, ◌∙◌, written}
use proofs.Spans.{put_in_between}
use proofs.output_buffer.put_before.Goals as goal

pub returns-clause-front : goal.returns-clause-front
returns-clause-front c =
    let bytes = c.args.bytes.now in
    ap (take (c.args.len + length bytes)) (c.put_bytes.ensures.put ∙ ap (λ (xs : List ℕ). written xs c.args.at bytes) c.copy_within.ensures.after)
    ∙ put_in_between c.args.buf.now bytes c.args.at c.args.len c.requires.place c.requires.room
