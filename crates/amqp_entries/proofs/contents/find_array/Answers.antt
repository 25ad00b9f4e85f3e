-- `find_array`: what was judged.
use Rattle.std.proofs.Common.{length, ap, arith}
use Rattle.amqp_canonical.specs.Writes.{items_of, array_content}
use Rattle.amqp_entries.specs.Contents.{canonical_values, read_values}
use Rattle.amqp_entries.proofs.Finding.{canonical_array, fault_found, long_found, array_found}
use Rattle.amqp_entries.proofs.Flawless.{is_filled}
use Rattle.amqp_entries.proofs.Reading.{values_shorter}
use Rattle.amqp_entries.proofs.contents.find_array.Goals as goal

pub returns-then-content : goal.returns-then-content
returns-then-content c =
    let content = c.args.content.now in
    long_found content (canonical_values c.args.depth_left content) (read_values c.args.depth_left content) _ c.refused.ensures (omega arith)

pub returns-then-canonical : goal.returns-then-canonical
returns-then-canonical c =
    let content = c.args.content.now in
    let h = c.in-Ok.ensures in
    array_found c.args.depth_left content _ _ _ (omega arith) h (ap length (canonical_array c.args.depth_left content _ h c.if-canonical.true)) (omega arith)
    (λ one. c.if-canonical.true)

pub values_size-requires : goal.values_size-requires
values_size-requires c = record { read = is_filled _ c.in-Ok.ensures.thing c.in-Ok.ensures.is; few = omega arith }

pub returns-else-canonical : goal.returns-else-canonical
returns-else-canonical c =
    let content = c.args.content.now in
    let h = c.in-Ok.ensures in
    let shorter = values_shorter c.args.depth_left content h.thing (λ k. omega (arith, c.type_inv.content k)) (omega arith) h.is in
    array_found c.args.depth_left content _ _ _ (omega arith) h c.values_size.ensures
    (omega (arith, c.values_size.ensures, shorter, ap (λ r. length (array_content (items_of r))) h.is)) (λ one. absurd (omega (arith, one)))

pub returns-in-Err : goal.returns-in-Err
returns-in-Err c =
    let content = c.args.content.now in
    fault_found content (canonical_values c.args.depth_left content) (read_values c.args.depth_left content) _ _ c.refused-in-Err.ensures c.in-Err.ensures
