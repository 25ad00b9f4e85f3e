-- `FieldTable::get`: what loops keep.
use Rattle.std.proofs.Common.{◌≡◌, map}
use Rattle.std.specs.Map.{lookup}
use Rattle.std.specs.Ordering.{nat_cmp}
use Rattle.std.specs.Cmp.Lexicographic.{slice_cmp}
use Rattle.std.specs.BTreeMap.{is_at}
use Rattle.amqp_values.specs.Views.{entry_of}
use Rattle.amqp_values.proofs.value.FieldTable.get.Given as goal

abbrev pub invariant-loop-held : goal.invariant-loop-held
invariant-loop-held l = lookup (is_at (slice_cmp nat_cmp l.key)) (map entry_of l.held-iterator) ≡ lookup (is_at (slice_cmp nat_cmp l.key)) l.self
