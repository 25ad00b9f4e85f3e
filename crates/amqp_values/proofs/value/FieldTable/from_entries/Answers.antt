-- `FieldTable::from_entries`: what it ensures.
use Rattle.std.proofs.Common.{rules}
use Rattle.std.proofs.lemmas.Iterator.Adapters.{YieldsList-from_vec, fact_from_collect}
use Rattle.std.proofs.lemmas.Result.{IfOk-at_ok}
use Rattle.std.specs.BTreeMap.{IsFromIterResult}
use Rattle.std.specs.Cmp.Lexicographic.{slice_cmp}
use Rattle.std.specs.Ordering.{nat_cmp}
use Rattle.amqp_values.proofs.Pairs.{made_is_settled}
use Rattle.amqp_values.proofs.value.FieldTable.from_entries.Goals as goal

pub returns : goal.returns
returns c =
    let es = c.args.entries.items in
    let road = YieldsList-from_vec {s = c.into_iter.result} es (search rules) (search rules) in
    let got = fact_from_collect (λ xs made. IsFromIterResult (slice_cmp nat_cmp) xs made) c.collect.result c.collect.ensures.ran road in
    let made = IfOk-at_ok (λ made. IsFromIterResult (slice_cmp nat_cmp) es made) c.in_ok-entries.was got in
    made_is_settled es c.in_ok-entries.entries.entries made.1 made.0
