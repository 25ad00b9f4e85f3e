-- `in_reach`: what it ensures, and that no place is out of range.
use Rattle.std.proofs.Common.{length-take-le, take_all, sym, arith}
use Rattle.amqp_fields.proofs.frames.in_reach.Goals as goal

pub slice_bounds-result-end : goal.slice_bounds-result-end
slice_bounds-result-end c = sym (length-take-le 4294967295 c.args.bytes.now (omega (arith, c.if-bytes-le-REACH.false)))

pub returns-then-bytes-le-REACH : goal.returns-then-bytes-le-REACH
returns-then-bytes-le-REACH c = sym (take_all 4294967295 c.args.bytes.now c.if-bytes-le-REACH.true)
