-- `FrameReader::replace`: clause `held`.
use Rattle.amqp_stream.proofs
use proofs.Names.{◌≡◌, ℕ, ◌+◌, ◌-◌, ◌≤◌, List, length, drop, ap, ◌∙◌, arith, take_at, written, written-length, held_in}
use proofs.Spans.{part-length, part-written}
use proofs.reader.FrameReader.replace.Goals as goal

pub returns-clause-held : goal.returns-clause-held
returns-clause-held c =
    let span = c.self.inside.span in
    let buf = c.self.inside.buf.items in
    let bytes = c.args.bytes.now in
    let at = span.start + c.args.passed in
    let new = c.put_bytes.new.buf in
    let within : span.end ≤ length buf = omega (arith, ap length c.deref_mut.ensures.value) in
    let long = part-length buf span.start span.end c.self.invariant.0.ordered within in
    let room : c.args.passed + length bytes ≤ span.end - span.start = omega (arith, ap (λ h. length h.held) c.self.view_is) in
    let put : new ≡ written buf at bytes = c.put_bytes.ensures.put ∙ ap (λ (xs : List ℕ). written xs at bytes) c.deref_mut.ensures.value in
    let all : length new ≡ c.self.inside.buf.len =
    omega (arith, ap length put, written-length buf at bytes (omega arith), ap length c.deref_mut.ensures.value) in
    ap (λ (xs : List ℕ). held_in xs span) (take_at new (drop (length new) buf) c.self.inside.buf.len all ∙ put)
    ∙ part-written buf bytes span.start span.end c.args.passed c.self.invariant.0.ordered within room
    ∙ ap (λ h. written h.held c.args.passed bytes) c.self.view_is
