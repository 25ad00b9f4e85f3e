-- `take_decided`: clause `takes`, and what calls require.
use Rattle.amqp_stream.proofs
use proofs.Names.{sym, raw_of}
use proofs.Deciding.{takes_compact, takes_decided, decided_writes}
use proofs.Standing.{passed_as, room_left, kept_taken, written_taken, left_writes}
use proofs.engine.take_decided.Goals as goal

pub put_decided-requires-clause-decided : goal.put_decided-requires-clause-decided
put_decided-requires-clause-decided g c =
    let w = g.W.FrameWriter.manner in
    let passes = passed_as w c.requires.decided.0 c.args.writer.now c.args.decision (sym c.frame_after-raw.ensures.frame) c.requires.decided.1 in
    let takes = rw c.in-Some.is at passes in
    takes_decided _ _ _ _ c.in-Some.decision takes

pub put_decided-requires-clause-room : goal.put_decided-requires-clause-room
put_decided-requires-clause-room g c =
    let w = g.W.FrameWriter.manner in
    let passes = passed_as w c.requires.decided.0 c.args.writer.now c.args.decision (sym c.frame_after-raw.ensures.frame) c.requires.decided.1 in
    let takes = rw c.in-Some.is at passes in
    let compact = takes_compact _ _ _ _ c.in-Some.decision takes in
    room_left c.args.reader.now.held (raw_of c.frame_after-raw.result) c.frame_after-raw.ensures.frame
    c.in-Ok.ensures.gathers c.front.ensures c.requires.within (c.requires.room compact) c.gather_stretch.ensures.room

pub write_frame-requires-clause-room : goal.write_frame-requires-clause-room
write_frame-requires-clause-room g c =
    λ compact.
    room_left c.args.reader.now.held (raw_of c.frame_after-raw.result) c.frame_after-raw.ensures.frame
    c.in-Ok.ensures.gathers c.front.ensures c.requires.within (c.requires.room compact) c.gather_stretch.ensures.room

pub returns-in-Some-clause-takes : goal.returns-in-Some-clause-takes
returns-in-Some-clause-takes g c = λ s decided.
    let passes = passed_as g.W.FrameWriter.manner s c.args.writer.now c.args.decision (sym c.frame_after-raw.ensures.frame) decided in
    let takes = rw c.in-Some.is at passes in
    let stretch = rw c.front.ensures at c.in-Ok.ensures.gathers in
    written_taken (raw_of c.frame_after-raw.result) c.requires.lies c.frame_after-raw.ensures.frame stretch
    (decided_writes _ c.in-Some.decision takes c.put_decided.ensures.puts) (λ is. c.put_decided.ensures.compact) c.skip-in-Some.ensures.held c.empty.ensures

pub returns-in-Ok-write_frame-clause-takes : goal.returns-in-Ok-write_frame-clause-takes
returns-in-Ok-write_frame-clause-takes g c = λ s decided.
    let left = rw c.in-None.is at decided in
    let stretch = rw c.front.ensures at c.in-Ok.ensures.gathers in
    written_taken (raw_of c.frame_after-raw.result) c.requires.lies c.frame_after-raw.ensures.frame stretch
    (left_writes left c.in-Ok-write_frame.ensures.writes) c.in-Ok-write_frame.ensures.compact
    c.skip-in-Ok-write_frame.ensures.held c.empty-in-Ok-write_frame.ensures

pub returns-in-Some-Kept-clause-takes : goal.returns-in-Some-Kept-clause-takes
returns-in-Some-Kept-clause-takes g c = λ s decided.
    let at = c.in-Some-Kept in
    let is = rw at.is at at.field-0-is in
    kept_taken (rw (at.is, is) at decided) c.take_kept.ensures.gathers
