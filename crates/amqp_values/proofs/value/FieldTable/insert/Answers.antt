-- `FieldTable::insert`: clause `ok`.
use Rattle.std.proofs.Common.{ap, ◌∙◌, map}
use Rattle.std.specs.Ordering.{nat_cmp}
use Rattle.std.specs.Cmp.Lexicographic.{slice_cmp}
use Rattle.std.specs.BTreeMap.{insert_entry}
use Rattle.amqp_values.specs.Views.{value_of, entry_of}
use Rattle.amqp_values.proofs.Pairs.{map-insert_entry}
use Rattle.amqp_values.proofs.value.FieldTable.insert.Goals as goal

pub returns-clause-ok : goal.returns-clause-ok
returns-clause-ok c =
    ap (map entry_of) c.in_ok-insert.ensures.entries ∙ map-insert_entry c.self.inside.entries.entries c.args.key c.args.value
    ∙ ap (λ es. insert_entry (slice_cmp nat_cmp) es c.args.key (value_of c.args.value)) c.self.view_is
