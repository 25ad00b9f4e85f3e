-- `gather_piece`: clause `gathers`.
use Rattle.amqp_recut.proofs
use Rattle.std.proofs.Common.{◌++◌, refl, ◌∙◌, append_assoc, Err}
use proofs.Gathering.{gathers_then, gathers_less, gathers_as}
use proofs.Piecing.{piece_bytes}
use proofs.pieces.gather_piece.Goals as goal
use Rattle.amqp_stream.proofs.Transcribing.{gathered_then}

pub returns-in-Err-clause-gathers : goal.returns-in-Err-clause-gathers
returns-in-Err-clause-gathers g c =
    let bytes = piece_bytes _ _ _ c.args.front.now c.args.back.now c.frame_head-head.ensures refl in
    gathers_as _ _ _ _ (Err c.in-Err.fault) bytes (gathers_less _ c.in-Err.ensures.gathers)

pub returns-in-Err-gather-clause-gathers : goal.returns-in-Err-gather-clause-gathers
returns-in-Err-gather-clause-gathers g c =
    let bytes = piece_bytes _ _ _ c.args.front.now c.args.back.now c.frame_head-head.ensures refl in
    let fault = Err c.in-Err-gather.fault in
    gathers_as _ _ _ _ fault bytes (gathers_then _ _ _ fault c.in-Ok.ensures.gathers (gathers_less _ c.in-Err-gather.ensures.gathers))

pub returns-in-Err-gather-2-clause-gathers : goal.returns-in-Err-gather-2-clause-gathers
returns-in-Err-gather-2-clause-gathers g c =
    let bytes = piece_bytes _ _ _ c.args.front.now c.args.back.now c.frame_head-head.ensures refl in
    let two = gathered_then c.in-Ok.ensures.gathers c.in-Ok-gather.ensures.gathers in
    let fault = Err c.in-Err-gather-2.fault in
    gathers_as _ _ _ _ fault (append_assoc c.frame_head-head.result c.args.front.now _ ∙ bytes)
    (gathers_then _ _ _ fault two (gathers_less _ c.in-Err-gather-2.ensures.gathers))

pub returns-clause-gathers : goal.returns-clause-gathers
returns-clause-gathers g c =
    let bytes = piece_bytes _ _ _ c.args.front.now c.args.back.now c.frame_head-head.ensures refl in
    let three = gathered_then (gathered_then c.in-Ok.ensures.gathers c.in-Ok-gather.ensures.gathers) c.in-Ok-gather-2.ensures.gathers in
    let head = c.frame_head-head.result in
    gathers_as _ _ _ _ _ (append_assoc (head ++ c.args.front.now) c.args.back.now _ ∙ append_assoc head c.args.front.now _ ∙ bytes)
    (gathers_then _ _ _ c.gather-end.result three c.gather-end.ensures.gathers)
