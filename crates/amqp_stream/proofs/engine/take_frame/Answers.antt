-- `take_frame`: clause `takes`, and what calls require.
use Rattle.amqp_stream.proofs
use proofs.Names.{sym, inr, ◌∙◌, IsBytes-drop}
use proofs.Standing.{stands_taken, passed_as, refused_stops}
use proofs.engine.take_frame.Goals as goal

pub returns-in-Err-clause-takes : goal.returns-in-Err-clause-takes
returns-in-Err-clause-takes g c = (
  inr (refused_stops c.frame_after.ensures.frame (rw c.in-Err.is at c.pass-passed.ensures.passes)
      (rw c.front-bytes.ensures at c.stop_after-error.ensures.ends)),
  c.skip-in-Err.ensures.held,
)

pub returns-then-stands-clause-takes : goal.returns-then-stands-clause-takes
returns-then-stands-clause-takes g c =
    stands_taken c.pass-passed.result (IsBytes-drop c.args.stretch.len c.args.reader.now.held c.requires.bytes) c.requires.within
    c.requires.lies c.frame_after.ensures.frame c.pass-passed.ensures.passes (sym c.stands.ensures ∙ c.if-stands.true) c.with.ensures

pub take_decided-requires-clause-decided : goal.take_decided-requires-clause-decided
take_decided-requires-clause-decided g c =
    let passes = rw c.in-Ok.is at c.pass-passed.ensures.passes in
    let frame = rw (← c.copy_layout-layout.ensures) at c.frame_after.ensures.frame in
    (c.args.writer.now, passed_as g.W.FrameWriter.manner c.args.writer.now _ c.in-Ok.decision frame passes)

pub returns-in-Ok-clause-takes : goal.returns-in-Ok-clause-takes
returns-in-Ok-clause-takes g c =
    let passes = rw c.in-Ok.is at c.pass-passed.ensures.passes in
    let frame = rw (← c.copy_layout-layout.ensures) at c.frame_after.ensures.frame in
    let takes = rw c.copy_layout-layout.ensures at c.take_decided.ensures.takes in
    takes c.args.writer.now (passed_as g.W.FrameWriter.manner c.args.writer.now _ c.in-Ok.decision frame passes)
