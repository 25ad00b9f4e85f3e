-- Whether tables are the same.
use Rattle.std.proofs.Common.{◌≡◌, List, sym, ap, ◌∙◌}
use Rattle.std.specs.Bool.{Decides}
use Rattle.amqp_types.specs.Values.{Entry, pairs, entries_of}
use Rattle.amqp_values.specs.Sameness.{same_entries, same_entries-decides}
use Rattle.amqp_laws.proofs.Conversions.{pairs-entries_of}

-- The test of equal entries is true exactly where two tables are equal, entry by entry.
pub same_tables : (table other : List Entry) → Decides (same_entries (entries_of table) (entries_of other)) (table ≡ other)
same_tables table other =
    let decides = same_entries-decides (entries_of table) (entries_of other) in
    (λ h. sym (pairs-entries_of table) ∙ ap pairs (decides.0 h) ∙ pairs-entries_of other, λ e. decides.1 (ap entries_of e))
