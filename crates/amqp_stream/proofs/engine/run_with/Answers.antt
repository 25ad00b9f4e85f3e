-- `run_with`: clauses `stream`, `spent` and `unwritten`, what loops keep, what falls with each iteration and what calls require.
use Rattle.amqp_stream.proofs
use proofs.Names.{Some, refl, ap, arith}
use proofs.Rounds.{first_round, ends_at_fault, frame_has_room, ends_at_frame, frame_shortens, round_after_frame, ends_unflushed, ends_spent, ends_unread}
use proofs.Rounds.{ends_at_end, round_after_read, all_left, no_fault, no_frame}
use proofs.engine.run_with.Goals as goal

pub frames-init : goal.frames-init
frames-init g c = record {
  round = first_round _ refl refl c.held.ensures.bytes c.held.ensures.room c.clear.ensures c.empty-stretch.ensures;
  unread = λ e. refl;
  idle = λ none e. (none, ap (λ o. o.bytes) c.clear.ensures, refl);
}

pub returns-in-Err-clause-stream : goal.returns-in-Err-clause-stream
returns-in-Err-clause-stream g c =
    ends_at_fault c.frames.invariant.round c.in-Err.error c.in-Err.ensures.finds c.from.ensures
    (rw c.front-bytes.ensures at c.stop_after-error.ensures.ends) c.skip.ensures.held

pub take_frame-requires-clause-room : goal.take_frame-requires-clause-room
take_frame-requires-clause-room g c = frame_has_room c.frames.invariant.round c.in-Ok-Some.ensures.finds c.in-Ok-Some.field-0-is c.requires.room

pub returns-in-Err-take_frame-clause-stream : goal.returns-in-Err-take_frame-clause-stream
returns-in-Err-take_frame-clause-stream g c =
    ends_at_frame c.frames.invariant.round c.in-Ok-Some.ensures.finds c.in-Ok-Some.field-0-is c.in-Err-take_frame.ensures.takes

pub frames-smaller-in-Ok : goal.frames-smaller-in-Ok
frames-smaller-in-Ok g c = frame_shortens c.frames.invariant.round c.in-Ok-Some.ensures.finds c.in-Ok-Some.field-0-is c.in-Ok.ensures.takes.rest

pub frames-preserved-in-Ok : goal.frames-preserved-in-Ok
frames-preserved-in-Ok g c = record {
  round =
      round_after_frame c.frames.invariant.round c.in-Ok-Some.ensures.finds
      c.in-Ok-Some.field-0-is c.in-Ok.ensures.takes c.in-Ok.ensures.room c.in-Ok.ensures.limit;
  unread = c.frames.invariant.unread;
  idle = λ none e. absurd (no_frame _ _ (c.frames.invariant.idle none e).0 c.in-Ok-Some.ensures.finds c.in-Ok-Some.field-0-is);
}

pub returns-in-Err-write_after-clause-stream : goal.returns-in-Err-write_after-clause-stream
returns-in-Err-write_after-clause-stream g c =
    ends_unflushed c.frames.invariant.round (rw c.front.ensures at c.in-Err-write_after.ensures.written) c.skip-in-Err-write_after.ensures.held

pub returns-then-left-eq0-clause-stream : goal.returns-then-left-eq0-clause-stream
returns-then-left-eq0-clause-stream g c =
    ends_spent c.frames.invariant.round (rw c.front.ensures at c.in-Ok-write_after.ensures.written)
    c.skip-in-frames.ensures.held c.in-Ok-None.ensures.finds c.in-Ok-None.field-0-is
    c.if-left-eq0.true

pub returns-in-Err-fill-clause-stream : goal.returns-in-Err-fill-clause-stream
returns-in-Err-fill-clause-stream g c =
    ends_unread c.frames.invariant.round (rw c.front.ensures at c.in-Ok-write_after.ensures.written)
    c.skip-in-frames.ensures.held c.in-Ok-None.ensures.finds c.in-Ok-None.field-0-is
    c.if-left-eq0.false c.in-Err-fill.ensures.reads c.skip-in-frames.ensures.limit c.in-Err-fill.ensures.room

pub returns-in-Ok-eq0-clause-stream : goal.returns-in-Ok-eq0-clause-stream
returns-in-Ok-eq0-clause-stream g c =
    ends_at_end c.frames.invariant.round (rw c.front.ensures at c.in-Ok-write_after.ensures.written)
    c.skip-in-frames.ensures.held c.in-Ok-None.ensures.finds c.in-Ok-None.field-0-is
    c.if-left-eq0.false c.in-Ok-eq0.ensures.reads (omega arith) c.skip-in-frames.ensures.limit c.in-Ok-eq0.ensures.room c.end_of_input.ensures

pub frames-preserved : goal.frames-preserved
frames-preserved g c =
    let written = rw c.front.ensures at c.in-Ok-write_after.ensures.written in
    record {
      round =
          round_after_read c.frames.invariant.round
          written c.skip-in-frames.ensures.held c.in-Ok-None.ensures.finds c.in-Ok-None.field-0-is
          c.if-left-eq0.false c.in-Ok-fill.ensures.reads c.in-Ok-fill.count-test.1
          (ap Some (omega arith)) c.skip-in-frames.ensures.limit c.in-Ok-fill.ensures.room
          c.in-Ok-fill.ensures.limit c.in-Ok-write_after.ensures.empty c.empty-stretch-in-frames.ensures;
      unread = λ e. absurd (omega arith);
      idle = λ none e. absurd (omega arith);
    }

pub returns-in-Err-clause-spent : goal.returns-in-Err-clause-spent
returns-in-Err-clause-spent g c =
    λ none zero. absurd (no_fault _ _ _ (c.frames.invariant.idle none (all_left c.frames.invariant.round zero)).0 c.in-Err.ensures.finds)

pub returns-in-Err-take_frame-clause-spent : goal.returns-in-Err-take_frame-clause-spent
returns-in-Err-take_frame-clause-spent g c =
    λ none zero.
    absurd (no_frame _ _ (c.frames.invariant.idle none (all_left c.frames.invariant.round zero)).0 c.in-Ok-Some.ensures.finds c.in-Ok-Some.field-0-is)

pub returns-in-Err-clause-unwritten : goal.returns-in-Err-clause-unwritten
returns-in-Err-clause-unwritten g c =
    λ none zero. absurd (no_fault _ _ _ (c.frames.invariant.idle none (all_left c.frames.invariant.round zero)).0 c.in-Err.ensures.finds)

pub returns-in-Err-take_frame-clause-unwritten : goal.returns-in-Err-take_frame-clause-unwritten
returns-in-Err-take_frame-clause-unwritten g c =
    λ none zero.
    absurd (no_frame _ _ (c.frames.invariant.idle none (all_left c.frames.invariant.round zero)).0 c.in-Ok-Some.ensures.finds c.in-Ok-Some.field-0-is)
