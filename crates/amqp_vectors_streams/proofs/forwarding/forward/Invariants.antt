-- What the loop keeps, and how it ends: each iteration uses a read or held bytes.
use Rattle.std.proofs.Common.{◌≡◌}
use Rattle.amqp_stream.specs.Reading.{reading_left}
use Rattle.amqp_vectors_streams.proofs.Forwarded.{Forwarded}
use Rattle.amqp_vectors_streams.proofs.forwarding.forward.Given as goal

abbrev pub invariant-frames : goal.invariant-frames
invariant-frames g l =
    let supply = g.S.Source.supply in
    let store = g.K.Sink.store in
    record {
      limit : l.reader.limit ≡ l.fn.reader.limit;
      out : l.out ≡ l.fn.out;
      forwarded : Forwarded l.fn.reader.limit l.fn.reader.held l.fn.budget l.budget
          (supply l.fn.source) (supply l.source) (store l.fn.sink) (store l.sink) l.reader.held 0;
    }

abbrev pub decreases-frames : goal.decreases-frames
decreases-frames g l = reading_left l.fn.reader.limit l.budget l.reader.held
