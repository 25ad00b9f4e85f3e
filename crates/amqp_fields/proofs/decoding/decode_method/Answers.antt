-- `decode_method`: clauses `judged`, `counts` and `faulty`.
use Rattle.std.proofs.Common.{rules, arith}
use Rattle.std.proofs.lemmas.List.{take_rest}
use Rattle.amqp_fields.proofs.PayloadSteps.{method_at, method_listed, method_read, more_fields, no_fields, no_ids, no_method}
use Rattle.amqp_fields.proofs.decoding.decode_method.Goals as goal

pub returns-else-found-fields-clause-judged : goal.returns-else-found-fields-clause-judged
returns-else-found-fields-clause-judged c =
    let judged = rw take_rest at c.in-Ok.ensures.judged in
    let few = rw take_rest at c.in-Ok.ensures.used in
    let full = rw take_rest at c.if-found-fields.false in
    let method =
    method_at c.from_be_bytes-class.result c.from_be_bytes-id.result _ _ (search rules) (search rules) c.shapes_of.ensures.slots c.in-Some.is in
    method_read _ _ _ _ (λ k. omega (arith, c.type_inv.payload k)) method c.in-len4-up.len_at_least
    (omega (arith, few, full)) judged

pub returns-else-found-fields-clause-counts : goal.returns-else-found-fields-clause-counts
returns-else-found-fields-clause-counts c =
    let listed = rw take_rest at c.list_fields-count.ensures in
    let method =
    method_at c.from_be_bytes-class.result c.from_be_bytes-id.result _ _ (search rules) (search rules) c.shapes_of.ensures.slots c.in-Some.is in
    method_listed _ _ _ _ _ _ _ _ _ method listed

pub returns-then-found-fields-clause-faulty : goal.returns-then-found-fields-clause-faulty
returns-then-found-fields-clause-faulty c = λ none.
    let judged = rw take_rest at c.in-Ok.ensures.judged in
    let less = rw take_rest at c.if-found-fields.true in
    let method =
    method_at c.from_be_bytes-class.result c.from_be_bytes-id.result _ _ (search rules) (search rules) c.shapes_of.ensures.slots c.in-Some.is in
    more_fields _ _ _ _ method less judged

pub returns-in-Err-clause-faulty : goal.returns-in-Err-clause-faulty
returns-in-Err-clause-faulty c = λ none.
    let judged = rw take_rest at c.in-Err.ensures.judged in
    let method =
    method_at c.from_be_bytes-class.result c.from_be_bytes-id.result _ _ (search rules) (search rules) c.shapes_of.ensures.slots c.in-Some.is in
    no_fields _ _ _ _ method judged

pub returns-in-None-clause-faulty : goal.returns-in-None-clause-faulty
returns-in-None-clause-faulty c = λ none.
    no_method _ c.from_be_bytes-class.result c.from_be_bytes-id.result _ (search rules) (search rules)
    c.shapes_of.ensures.slots c.in-None.is

pub returns-in_default-clause-faulty : goal.returns-in_default-clause-faulty
returns-in_default-clause-faulty c = λ none. no_ids _ (omega arith)
