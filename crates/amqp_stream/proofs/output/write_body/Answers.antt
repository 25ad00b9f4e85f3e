-- `write_body`: clause `gathers`.
use Rattle.amqp_stream.proofs
use proofs.Names.{arith, [], ◌∷◌, ◌++◌, length, ap, ◌∙◌, append_assoc}
use Rattle.amqp_wire.specs.Spelling.{head}
use proofs.Writes.{WritesAll-then, gather_fails, all_but}
use proofs.output.write_body.Goals as goal

pub returns-in-Err-clause-gathers : goal.returns-in-Err-clause-gathers
returns-in-Err-clause-gathers g c =
    let rest = c.args.payload.now ++ 206 ∷ [] in
    gather_fails rest c.in-Err.ensures.written
    (cc (c.push.ensures.pushed, c.frame_head.ensures, append_assoc c.args.out.now.bytes (head 3 c.args.channel_id (length c.args.payload.now)) rest))
    (ap (λ w. w.bytes) c.in-Err.ensures.empty)

pub returns-in-Err-write_all-clause-gathers : goal.returns-in-Err-write_all-clause-gathers
returns-in-Err-write_all-clause-gathers g c =
    let payload = c.args.payload.now in
    gather_fails (206 ∷ []) (WritesAll-then c.in-Ok.ensures.written c.in-Err-write_all.ensures)
    (grind (arith, append_assoc, c.push.ensures.pushed, c.frame_head.ensures))
    (ap (λ w. w.bytes) c.in-Ok.ensures.empty)

pub returns-in-Ok-write_all-clause-gathers : goal.returns-in-Ok-write_all-clause-gathers
returns-in-Ok-write_all-clause-gathers g c =
    let payload = c.args.payload.now in
    let end = c.push-in-Ok-write_all.ensures.pushed ∙ ap (λ w. w.bytes ++ 206 ∷ []) c.in-Ok.ensures.empty in
    all_but (WritesAll-then c.in-Ok.ensures.written c.in-Ok-write_all.ensures)
    (grind (arith, append_assoc, end, c.push.ensures.pushed, c.frame_head.ensures))
