-- `put_frame`: what it ensures.
use Rattle.std.proofs.Common.{arith}
use Rattle.amqp_types.proofs.Puts.{puts-length}
use Rattle.amqp_canonical.proofs.Putting.{put_in_room}
use Rattle.amqp_wire.proofs.Sizes.{framed_length}
use Rattle.amqp_lent.proofs.writing.put_frame.Goals as goal

pub returns-then-end-buf : goal.returns-then-end-buf
returns-then-end-buf c = λ before payload inner.
    let size = framed_length c.args.frame_type c.args.channel payload in
    record {
      put = λ room. absurd (omega (arith, size, room, inner.same, inner.behind, c.if-end-buf.true));
      behind = omega (arith, size, inner.behind);
      same = inner.same;
    }

pub returns : goal.returns
returns c = λ before payload inner.
    let size = framed_length c.args.frame_type c.args.channel payload in
    let put = put_in_room (omega (arith, inner.same, inner.behind, c.if-end-buf.false)) inner in
    let all = c.put_around.ensures before payload put (omega (arith, size, inner.same, inner.behind, c.if-end-buf.false)) in
    record {
      put = λ room. all.put;
      behind = omega (arith, size, inner.behind);
      same = puts-length before c.put_around.new.buf 0 _ _ (omega (arith, size, inner.same, inner.behind, c.if-end-buf.false)) all;
    }
