-- `run`: clause `stream` and what loops keep.
use Rattle.amqp_lines.proofs
use proofs.Names.{length, ap, refl, ◌∙◌, arith, end_of_text}
use Rattle.amqp_stream.specs.Buffers.{Buffered}
use proofs.LongLines.{few_kept, holds_first, held_at_end, held_at_lines, held_unflushed, holds_on}
use proofs.Undumps.{ends_spent, ends_at_read}
use proofs.undumping.run.Goals as goal

pub reads-init : goal.reads-init
reads-init g c = record {
  holding = holds_first _ _ _ _ _ _ c.requires.none c.requires.first;
  most = c.requires.most;
  few = omega (arith, ap length c.requires.none);
  none = ap (λ (out : Buffered). out.bytes) c.clear.ensures;
  unread = λ e. refl;
  unwritten = λ e. refl;
}

pub returns-then-left-eq0-clause-stream : goal.returns-then-left-eq0-clause-stream
returns-then-left-eq0-clause-stream g c = ends_spent c.reads.invariant.holding.going c.if-left-eq0.true

pub returns-in-Err-clause-stream : goal.returns-in-Err-clause-stream
returns-in-Err-clause-stream g c = ends_at_read c.reads.invariant.holding.going _ (omega (arith, c.if-left-eq0.false)) c.in-Err.ensures.reads

pub returns-in-Ok-eq0-clause-stream : goal.returns-in-Ok-eq0-clause-stream
returns-in-Ok-eq0-clause-stream g c =
    held_at_end c.reads.invariant.holding (omega (arith, c.if-left-eq0.false)) c.in-Ok-eq0.ensures.reads
    (omega (arith, c.in-Ok-eq0.field-0-is)) (c.end_of_input.ensures ∙ ap end_of_text c.deref.ensures.value)

pub returns-in-Err-gather_lines-clause-stream : goal.returns-in-Err-gather_lines-clause-stream
returns-in-Err-gather_lines-clause-stream g c =
    held_at_lines c.reads.invariant.holding (omega (arith, c.if-left-eq0.false)) c.in-Ok.ensures.reads _
    (rw (c.deref-in-reads.ensures.value, c.reads.invariant.none) at c.in-Err-gather_lines.ensures) c.stop.ensures

pub returns-in-Err-flush-clause-stream : goal.returns-in-Err-flush-clause-stream
returns-in-Err-flush-clause-stream g c =
    held_unflushed c.reads.invariant.holding (omega (arith, c.if-left-eq0.false)) c.in-Ok.ensures.reads
    (rw (c.deref-in-reads.ensures.value, c.reads.invariant.none) at c.in-Ok-gather_lines.ensures) c.in-Err-flush.ensures.written

pub reads-preserved : goal.reads-preserved
reads-preserved g c =
    let lines = rw (c.deref-in-reads.ensures.value, c.reads.invariant.none) at c.in-Ok-gather_lines.ensures in
    let holding =
    holds_on c.reads.invariant.holding (omega (arith, c.if-left-eq0.false)) c.in-Ok.ensures.reads
    (omega (arith, c.in-Ok.field-0-test)) lines c.in-Ok-flush.ensures.written
    (rw (c.keep_last.ensures, c.reads.invariant.most) at c.keep_first.ensures) in
    record {
      holding = holding;
      most = c.reads.invariant.most;
      few = few_kept holding;
      none = ap (λ (out : Buffered). out.bytes) c.in-Ok-flush.ensures.empty;
      unread = λ e. absurd (omega (arith, c.reads.invariant.holding.going.few, c.if-left-eq0.false));
      unwritten = λ e. absurd (omega (arith, c.reads.invariant.holding.going.few, c.if-left-eq0.false));
    }
