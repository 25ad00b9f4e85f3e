-- `line_of`: clause `line`.
use Rattle.std.proofs.Common.{List, ℕ, ◌++◌, ap, ◌∙◌}
use Rattle.amqp_frame.specs.Frames.{frame_of}
use Rattle.amqp_lines.specs.Lines.{line}
use Rattle.amqp_text.proofs.Generated.{typed_in}
use Rattle.amqp_text.proofs.generation.line_of.Goals as goal

pub returns-in-Ok-clause-line : goal.returns-in-Ok-clause-line
returns-in-Ok-clause-line c =
    let frame = frame_of c.args.frame.now in
    let payload = c.payload_in.ensures frame c.outline-outline.ensures c.requires.canonical in
    let is = typed_in frame c.outline-outline.result c.payload_in.result.now c.frame_held.ensures c.requires.fits c.outline-outline.ensures payload in
    c.in-Ok.ensures frame is ∙ ap (λ (xs : List ℕ). xs ++ line frame) c.new-text.ensures.items
