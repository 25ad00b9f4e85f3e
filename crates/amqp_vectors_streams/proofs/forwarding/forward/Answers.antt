-- Each iteration reads and writes a frame, or ends the loop.
use Rattle.std.proofs.Common.{Ok, refl, ap, ◌∙◌, arith}
use Rattle.amqp_vectors_streams.proofs.Forwarded.{Forwarded-none, Forwarded-more, next_by, frame_room, forwards_all}
use Rattle.amqp_vectors_streams.proofs.Forwarded.{forwards_unread, forwards_unwritten}
use Rattle.amqp_stream.proofs.NextCalls.{next_falls}
use Rattle.amqp_vectors_streams.proofs.forwarding.forward.Goals as goal

pub frames-init : goal.frames-init
frames-init g c = record { limit = refl; out = refl; forwarded = Forwarded-none _ _ _ _ _ }

pub returns-in_err-raw-clause-forwards : goal.returns-in_err-raw-clause-forwards
returns-in_err-raw-clause-forwards g c =
    let run = c.frames.invariant in
    forwards_unread c.from_residual.result run.forwarded (next_by run.limit c.in_err-raw.was c.next.follows.holds-at-none) c.from_residual.ensures.1

pub returns-in_default-clause-forwards : goal.returns-in_default-clause-forwards
returns-in_default-clause-forwards g c =
    let run = c.frames.invariant in
    forwards_all run.forwarded (next_by run.limit (c.in_ok-raw.was ∙ ap Ok c.in_default.is) c.next.follows.holds-at-none)

pub write_now-requires-clause-room : goal.write_now-requires-clause-room
write_now-requires-clause-room g c =
    let run = c.frames.invariant in
    omega
    (arith, frame_room (next_by run.limit (c.in_ok-raw.was ∙ ap Ok c.in-Some.is) c.next.follows.holds-at-none), ap (λ o. o.room) run.out, c.requires.room)

pub frames-smaller : goal.frames-smaller
frames-smaller g c =
    let run = c.frames.invariant in
    next_falls (next_by run.limit (c.in_ok-raw.was ∙ ap Ok c.in-Some.is) c.next.follows.holds-at-none)

pub frames-preserved : goal.frames-preserved
frames-preserved g c =
    let run = c.frames.invariant in
    let p = next_by run.limit (c.in_ok-raw.was ∙ ap Ok c.in-Some.is) c.next.follows.holds-at-none in
    record {
      limit = c.next.follows.holds-at-none.limit ∙ run.limit;
      out = c.write_now.ensures.out ∙ run.out;
      forwarded = Forwarded-more run.forwarded p c.in_ok-write_now.ensures.writes;
    }

pub returns-in_err-write_now-clause-forwards : goal.returns-in_err-write_now-clause-forwards
returns-in_err-write_now-clause-forwards g c =
    let run = c.frames.invariant in
    let p = next_by run.limit (c.in_ok-raw.was ∙ ap Ok c.in-Some.is) c.next.follows.holds-at-none in
    forwards_unwritten _ c.from_residual-in_err-write_now.result run.forwarded p c.in_err-write_now.ensures.writes c.from_residual-in_err-write_now.ensures.1
