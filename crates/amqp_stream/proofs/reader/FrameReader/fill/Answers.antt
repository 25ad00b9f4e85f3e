-- `FrameReader::fill`: what calls require.
use Rattle.amqp_stream.proofs
use proofs.Names.{◌≤◌, length, ap, arith, scan-past_few}
use proofs.Spans.{part-length}
use proofs.reader.FrameReader.fill.Goals as goal

pub read_more-count-requires-clause-room : goal.read_more-count-requires-clause-room
read_more-count-requires-clause-room g c =
    let span = c.self.inside.span in
    let within = c.self.invariant.0 in
    let buf = c.self.inside.buf.items in
    let fits : span.end ≤ length buf = omega (arith, ap length c.deref_mut.ensures.value) in
    let long = part-length buf span.start span.end within.ordered fits in
    let few = scan-past_few c.args.self.now.limit c.args.self.now.held c.requires in
    omega (arith, ap (λ h. length h.held) c.self.view_is, ap (λ h. h.limit) c.self.view_is, ap length c.deref_mut.ensures.value)
