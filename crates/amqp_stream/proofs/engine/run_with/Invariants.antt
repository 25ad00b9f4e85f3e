-- `run_with`: what loops keep and what falls with each iteration or call.
use Rattle.amqp_stream.proofs
use proofs.Names.{◌≡◌, ◌+◌, ◌*◌, [], length, drop}
use proofs.Rounds.{Round}
use proofs.engine.run_with.Given as goal

abbrev pub invariant-frames : goal.invariant-frames
invariant-frames g l =
    let supply = g.S.Source.supply in
    let store = g.K.Sink.store in
    record {
      round : Round
          (record {
            w = g.W.FrameWriter.manner;
            s = l.fn.writer;
            m = l.fn.reader.limit;
            budget = l.fn.budget;
            source = supply l.fn.source;
            sink = store l.fn.sink;
            held = l.fn.reader.held;
            came = l.fn.came;
          })
          l.fn.out.room
          (record {
            writer = l.writer;
            left = l.left;
            came = l.came;
            source = supply l.source;
            sink = store l.sink;
            reader = l.reader;
            out = l.out;
            passed = l.stretch.len;
          });
      unread : l.left ≡ l.fn.budget → l.source ≡ l.fn.source;
      idle : l.fn.reader.held ≡ [] → l.left ≡ l.fn.budget → (l.reader.held ≡ []) × (l.out.bytes ≡ []) × (l.sink ≡ l.fn.sink);
    }

abbrev pub decreases-frames : goal.decreases-frames
decreases-frames g l = l.left * (l.fn.reader.limit + 9) + length (drop l.stretch.len l.reader.held)
