-- `find_table`: what was judged.
use Rattle.std.proofs.Common.{length, refl, ap, arith}
use Rattle.amqp_types.specs.Settling.{settled}
use Rattle.amqp_canonical.specs.Writes.{items_of, table_content}
use Rattle.amqp_entries.specs.Contents.{canonical_entries, read_entries}
use Rattle.amqp_entries.proofs.Finding.{canonical_table, fault_found, long_found, table_found}
use Rattle.amqp_entries.proofs.Flawless.{is_filled}
use Rattle.amqp_entries.proofs.Reading.{entries_shorter}
use Rattle.amqp_entries.proofs.contents.find_table.Goals as goal

pub returns-then-content : goal.returns-then-content
returns-then-content c =
    let content = c.args.content.now in
    long_found content (canonical_entries c.args.depth_left content) (read_entries c.args.depth_left content) _ c.refused.ensures (omega arith)

pub returns-then-is_ascending : goal.returns-then-is_ascending
returns-then-is_ascending c =
    let content = c.args.content.now in
    let h = c.is_ascending.ensures c.if-is_ascending.true in
    table_found c.args.depth_left content _ _ _ (omega arith) h (ap length (canonical_table c.args.depth_left content _ h refl)) (omega arith) (λ one. refl)

pub returns-then-canonical : goal.returns-then-canonical
returns-then-canonical c =
    let content = c.args.content.now in
    let h = c.in-Ok.ensures in
    table_found c.args.depth_left content _ _ _ (omega arith) h (ap length (canonical_table c.args.depth_left content _ h c.if-canonical.true)) (omega arith)
    (λ one. c.if-canonical.true)

pub entries_size-requires : goal.entries_size-requires
entries_size-requires c = record { read = is_filled _ c.in-Ok.ensures.thing c.in-Ok.ensures.is; few = omega arith }

pub returns-else-canonical : goal.returns-else-canonical
returns-else-canonical c =
    let content = c.args.content.now in
    let h = c.in-Ok.ensures in
    let shorter = entries_shorter c.args.depth_left content h.thing (λ k. omega (arith, c.type_inv.content k)) (omega arith) h.is in
    table_found c.args.depth_left content _ _ _ (omega arith) h c.entries_size.ensures
    (omega (arith, c.entries_size.ensures, shorter, ap (λ r. length (table_content (settled (items_of r)))) h.is)) (λ one. absurd (omega (arith, one)))

pub returns-in-Err : goal.returns-in-Err
returns-in-Err c =
    let content = c.args.content.now in
    fault_found content (canonical_entries c.args.depth_left content) (read_entries c.args.depth_left content) _ _ c.refused-in-Err.ensures c.in-Err.ensures
