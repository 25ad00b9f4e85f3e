-- `value_span`: clauses `used` and `copied`.
use Rattle.std.proofs.Common.{sym, ◌∙◌, arith}
use Rattle.std.proofs.lemmas.List.{take_rest}
use Rattle.amqp_canonical.proofs.TagBytes.{no_tag, some_tag}
use Rattle.amqp_canonical.proofs.ReadParts.{tag_parts, none_read, unknown_read}
use Rattle.amqp_canonical.proofs.PutParts.{value_copied}
use Rattle.amqp_canonical.proofs.spans.value_span.Goals as goal

pub returns-in-empty-clause-used : goal.returns-in-empty-clause-used
returns-in-empty-clause-used c = λ room read. absurd (none_read _ _ (omega (arith, c.in-empty.len_below)) read)

pub returns-in-None-clause-used : goal.returns-in-None-clause-used
returns-in-None-clause-used c = λ room read.
    absurd (unknown_read room c.args.i.now (omega (arith, c.in-len1-up.len_at_least)) (no_tag _ _ (sym c.layout_after.ensures.is ∙ c.in-None.is)) read)

pub returns-in-Some-clause-used : goal.returns-in-Some-clause-used
returns-in-Some-clause-used c = λ room read.
    let i = c.args.i.now in
    let one = some_tag _ _ _ (sym c.layout_after.ensures.is ∙ c.in-Some.is) in
    let parts = tag_parts room i one.tag (omega (arith, c.in-len1-up.len_at_least)) one.is read in
    let behind = rw take_rest at c.span_after-after.ensures.used in
    omega (arith, behind room one.tag one.layout_is parts.read, parts.used)

pub returns-in-Some-clause-copied : goal.returns-in-Some-clause-copied
returns-in-Some-clause-copied c = λ set room read.
    let i = c.args.i.now in
    let one = some_tag _ _ _ (sym c.layout_after.ensures.is ∙ c.in-Some.is) in
    let parts = tag_parts room i one.tag (omega (arith, c.in-len1-up.len_at_least)) one.is read in
    let copied = rw take_rest at c.span_after-after.ensures.copied in
    value_copied _ _ one.tag _ (omega (arith, c.in-len1-up.len_at_least))
    (one.is_written.0 (c.span_after-after.ensures.written set)) parts (copied set room one.tag one.layout_is parts.read)
