-- `write_pieces`: what loops keep and what falls with each iteration or call.
use Rattle.std.proofs.Common.{◌≡◌, ◌+◌, ◌≤◌, ◌++◌, length}
use Rattle.amqp_recut.proofs.Piecing.{HasGiven, to_give}
use Rattle.amqp_recut.proofs.pieces.write_pieces.Given as goal

abbrev pub invariant-loop-first : goal.invariant-loop-first
invariant-loop-first g l = record {
  front : length l.first ≤ length l.front;
  back : length l.second ≤ length l.back;
  room : l.out.room ≡ l.fn.out.room;
  given : HasGiven (g.K.Sink.store l.fn.sink) (g.K.Sink.store l.sink) l.fn.out.bytes l.out.bytes
      (to_give l.size l.channel_id l.ends (l.front ++ l.back))
      (to_give l.size l.channel_id l.ends (l.first ++ l.second));
}

abbrev pub decreases-loop-first : goal.decreases-loop-first
decreases-loop-first g l = length l.first + length l.second
