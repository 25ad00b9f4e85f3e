-- `LineReader::is_line`: what it ensures.
use Rattle.amqp_lines.proofs
use proofs.Names.{◌+◌, length, ap, arith}
use proofs.LineBack.{none_long, none_large, large_by, within_by, refused_line, rendered_line}
use proofs.line_reading.LineReader.is_line.Goals as goal

pub returns-then-len : goal.returns-then-len
returns-then-len c =
    none_long _ _ _ _
    (rw (c.without_last.ensures, c.clear.ensures.items) at c.in_ok-found.ensures) (omega (arith, c.if-len.true, c.len.ensures))

pub returns-in-Err : goal.returns-in-Err
returns-in-Err c =
    refused_line _ _ _ _
    (rw (c.without_last.ensures, c.clear.ensures.items) at c.in_ok-found.ensures) _ _ _
    (rw c.as_slice.ensures.value at c.in-Err.ensures) c.refused.ensures.never c.refused.ensures.none

pub returns-then-not-is_within : goal.returns-then-not-is_within
returns-then-not-is_within c =
    let large = large_by _ (length c.canonical-2.result.now) (c.args.max_payload + 8) c.is_within.ensures c.if-not-is_within.true in
    none_large _ _ _ _
    (rw (c.without_last.ensures, c.clear.ensures.items) at c.in_ok-found.ensures) _ _ _
    (rw c.as_slice.ensures.value at c.in-Ok.ensures) (omega (arith, large, ap length c.canonical-2.ensures))

pub returns : goal.returns
returns c =
    rendered_line _ _ _ _
    (rw (c.without_last.ensures, c.clear.ensures.items) at c.in_ok-found.ensures) _ _ _
    _ (rw c.as_slice.ensures.value at c.are_bytes.ensures) c.short_held.ensures (omega (arith, c.if-len.false, c.len.ensures))
    (rw c.as_slice.ensures.value at c.in-Ok.ensures) (rw c.canonical.ensures at c.are_bytes-2.ensures)
    (within_by
    (c.args.max_payload + 8) c.is_within.ensures c.if-not-is_within.false (ap length c.canonical-2.ensures))
    (rw c.line.ensures at c.is_same.ensures)
