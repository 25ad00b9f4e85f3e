-- `FrameReader::frame_after`: clauses `frame` and `few`.
use Rattle.amqp_stream.proofs
use proofs.Names.{List, ℕ, length, refl, ap, arith, scan-in_bounds, raw_with}
use proofs.Spans.{part-behind}
use proofs.reader.FrameReader.frame_after.Goals as goal

pub returns-clause-frame : goal.returns-clause-frame
returns-clause-frame c =
    let layout = c.args.layout in
    ap (λ (xs : List ℕ). raw_with layout xs)
    (part-behind c.held-held.result.now c.args.self.now.held c.args.passed layout.payload_start layout.payload_len c.held-held.ensures.held)

pub returns-clause-few : goal.returns-clause-few
returns-clause-few c =
    let layout = c.args.layout in
    let bounds = scan-in_bounds _ _ _ _ c.requires.lies.found in
    omega (
      arith,
      ap length (part-behind c.held-held.result.now c.args.self.now.held c.args.passed layout.payload_start layout.payload_len c.held-held.ensures.held),
      bounds.payload c.args.self.now.limit refl,
      c.held-held.ensures.limit,
    )
