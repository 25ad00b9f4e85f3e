-- `read_value`: clause `judged` and what calls require.
use Rattle.std.proofs.Common.{List, ℕ, sym, subst, ◌∙◌, arith}
use Rattle.amqp_types.specs.ValueJudging.{judge_behind, nested}
use Rattle.amqp_canonical.specs.Writes.{IsRead}
use Rattle.amqp_canonical.proofs.ReadParts.{tag_parts, none_read, unknown_read}
use Rattle.amqp_lent.specs.Views.{value_of}
use Rattle.amqp_lent.proofs.Rereading.{never_refused, value_took}
use Rattle.amqp_lent.proofs.reading.read_value.Goals as goal

pub read_after-requires : goal.read_after-requires
read_after-requires c =
    let h =
    tag_parts c.args.depth_left c.args.i.now c.in-Some.tag (omega (arith, c.in-len1-up.len_at_least))
    (sym c.from_byte.ensures ∙ c.in-Some.is) c.requires.read in
    let P : List ℕ → Type 0 = λ bs. IsRead (judge_behind (nested c.args.depth_left) c.in-Some.tag bs) in
    record { read = subst P (sym c.bytes_from.ensures) h.read }

pub returns-in_err-n-in-Some-clause-judged : goal.returns-in_err-n-in-Some-clause-judged
returns-in_err-n-in-Some-clause-judged c =
    let h =
    tag_parts c.args.depth_left c.args.i.now c.in-Some.tag (omega (arith, c.in-len1-up.len_at_least))
    (sym c.from_byte.ensures ∙ c.in-Some.is) c.requires.read in
    let P : List ℕ → Type 0 = λ bs. IsRead (judge_behind (nested c.args.depth_left) c.in-Some.tag bs) in
    absurd (never_refused value_of _ _ c.in_err-n-in-Some.ensures.judged (subst P (sym c.bytes_from.ensures) h.read))

pub returns-in-empty-clause-judged : goal.returns-in-empty-clause-judged
returns-in-empty-clause-judged c = absurd (none_read c.args.depth_left c.args.i.now (omega (arith, c.in-empty.len_below)) c.requires.read)

pub returns-in-None-clause-judged : goal.returns-in-None-clause-judged
returns-in-None-clause-judged c =
    absurd (unknown_read c.args.depth_left c.args.i.now (omega (arith, c.in-len1-up.len_at_least)) (sym c.from_byte.ensures ∙ c.in-None.is) c.requires.read)

pub returns-in_ok-n-in-Some-clause-judged : goal.returns-in_ok-n-in-Some-clause-judged
returns-in_ok-n-in-Some-clause-judged c =
    let judged = rw c.bytes_from.ensures at c.in_ok-n-in-Some.ensures.judged in
    value_took c.args.depth_left c.args.i.now c.in-Some.tag (value_of c.in_ok-n-in-Some.value) c.in_ok-n-in-Some.n
    (omega (arith, c.in-len1-up.len_at_least)) (sym c.from_byte.ensures ∙ c.in-Some.is) judged
