-- `read_more`: clause `reads`.
use Rattle.amqp_stream.proofs
use proofs.Names.{◌-◌, length, take, refl, sym, ap, ◌∙◌, ◌++◌, List, [], ℕ, append-nil, arith, length-take-le}
use Rattle.std.proofs.Math.Facts.{Fits-lt-pow}
use proofs.Adding.{IsBytes-nil}
use proofs.Spans.{part-put, part-kept, part-bytes}
use proofs.buffer.read_more.Goals as goal

pub returns-in-Ok-clause-reads : goal.returns-in-Ok-clause-reads
returns-in-Ok-clause-reads g c =
    let span = c.make_room.new.span in
    let buf = c.make_room.new.buf in
    record {
      piece = take c.in-Ok.count c.read.new.buf;
      are_bytes =
          part-bytes buf c.read.new.buf span.end (length buf - span.end) c.in-Ok.count (omega arith)
          (omega arith) (omega (arith, c.in-Ok.ensures.bound)) (λ k. Fits-lt-pow (c.type_inv.buf k));
      takes = c.in-Ok.ensures.takes;
      held =
          part-put buf c.read.new.buf span.start span.end (length buf - span.end) c.in-Ok.count
          (omega arith) (omega arith) (omega arith) (omega (arith, c.in-Ok.ensures.bound))
          ∙ ap (λ (xs : List ℕ). xs ++ take c.in-Ok.count c.read.new.buf) c.make_room.ensures.held;
      ok = length-take-le c.in-Ok.count c.read.new.buf (omega (arith, c.in-Ok.ensures.bound));
      end = c.in-Ok.ensures.end;
      err = tt;
    }

pub returns-in-Err-clause-reads : goal.returns-in-Err-clause-reads
returns-in-Err-clause-reads g c =
    let span = c.make_room.new.span in
    let buf = c.make_room.new.buf in
    record {
      piece = [];
      are_bytes = IsBytes-nil;
      takes = c.in-Err.ensures.takes;
      held =
          part-kept buf c.read.new.buf span.start span.end (length buf - span.end) (omega arith) (omega arith) ∙ c.make_room.ensures.held ∙ sym (append-nil _);
      ok = tt;
      end = tt;
      err = (refl, c.in-Err.ensures.fault);
    }
