-- `FrameReader::next`: what it ensures.
use Rattle.amqp_stream.proofs
use proofs.Names.{◌+◌, ◌-◌, ◌^◌, ◌<◌, ◌≤◌, ℕ, List, length, take, drop, refl, ap, ◌∙◌, arith, laid_out, scan-in_bounds, LiesIn, IsBorrowed, raw_with}
use proofs.Spans.{part-drop, part-frame, part-length}
use proofs.Pulling.{err_as, none_as, some_as}
use proofs.reader.FrameReader.next.Goals as goal

pub returns-in-Err : goal.returns-in-Err
returns-in-Err g c =
    let ran = c.in-Err.ensures in
    let next = err_as LiesIn IsBorrowed c.in-Err.error ran.pulls in (
      (refl, λ _. tt, rw c.self.view_is next),
      record {
        fits = omega (arith, c.self.invariant.2, ap (λ h. h.limit) c.self.view_is, ran.pulls.limit);
        few = tt;
        returns = (c.pull.new.self, next);
        decided = λ h. ran.unread (ran.pulls.decided h);
        unread = λ zero. ran.unread (omega (arith, ran.pulls.budget_falls));
        after = tt;
      },
    )

pub returns-in-Ok-None : goal.returns-in-Ok-None
returns-in-Ok-None g c =
    let ran = c.in-Ok-None.ensures in
    let next = none_as LiesIn IsBorrowed (rw c.in-Ok-None.field-0-is at ran.pulls) in (
      (refl, λ _. tt, rw c.self.view_is next),
      record {
        fits = omega (arith, c.self.invariant.2, ap (λ h. h.limit) c.self.view_is, ran.pulls.limit);
        few = tt;
        returns = (c.pull.new.self, next);
        decided = λ h. ran.unread (ran.pulls.decided h);
        unread = λ zero. ran.unread (omega (arith, ran.pulls.budget_falls));
        after = tt;
      },
    )

pub returns-in-Ok-Some : goal.returns-in-Ok-Some
returns-in-Ok-Some g c =
    let m = c.args.self.now.limit in
    let span = c.self.inside.span in
    let buf = c.self.inside.buf.items in
    let layout = c.in-Ok-Some.layout in
    let ran = c.in-Ok-Some.ensures in
    let pulls = rw c.in-Ok-Some.field-0-is at ran.pulls in
    let lies = pulls.ends.0 in
    let same = ap (λ h. h.limit) c.self.view_is ∙ ran.pulls.limit in
    let within : span.end ≤ length buf = omega (arith, ap length c.deref.ensures.value) in
    let long = part-length buf span.start span.end c.self.invariant.0.ordered within in
    let inside : layout.payload_start + layout.payload_len ≤ span.end - span.start =
    omega (arith, ap length pulls.ends.1, ap (λ h. length h.held) c.self.view_is) in
    let payload =
    part-frame buf c.deref.result.now span.start span.end layout.payload_start layout.payload_len c.deref.ensures.value c.self.invariant.0.ordered inside in
    let raw = ap (λ (xs : List ℕ). raw_with layout xs) payload ∙ ap (λ h. laid_out layout h.held) c.self.view_is in
    let rest = part-drop buf span.start span.end layout.frame_len ∙ ap (λ h. drop layout.frame_len h.held) c.self.view_is in
    let fits : m < 2 ^ 32 = omega arith in
    let next = some_as layout _ pulls same raw rest in
    let bounds = scan-in_bounds _ _ _ _ lies.found in (
      (refl, λ _. tt, next),
      record {
        fits = fits;
        few = omega (
          arith,
          ap length payload,
          ap (λ h. length (take layout.payload_len (drop layout.payload_start h.held))) c.self.view_is,
          ap (λ (xs : List ℕ). length (take layout.payload_len (drop layout.payload_start xs))) pulls.ends.1,
          bounds.payload m refl,
          fits,
        );
        returns = (_, next);
        decided = λ h. ran.unread (ran.pulls.decided h);
        unread = λ zero. ran.unread (omega arith);
        after = tt;
      },
    )
