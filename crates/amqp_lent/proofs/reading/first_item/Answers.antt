-- `first_item`: clauses `first` and `left` and what calls require.
use Rattle.std.proofs.Common.{◌≡◌, List, ℕ, Some, None, refl, sym, subst, ◌∙◌, arith}
use Rattle.amqp_types.specs.Values.{FieldValue}
use Rattle.amqp_types.specs.ValueJudging.{filled, judge_value}
use Rattle.amqp_canonical.specs.Writes.{IsFilled}
use Rattle.amqp_lent.specs.Finding.{StartsWith}
use Rattle.amqp_lent.specs.Views.{value_of}
use Rattle.amqp_lent.proofs.Rereading.{item_here, no_item}
use Rattle.amqp_lent.proofs.reading.first_item.Goals as goal
use Rattle.amqp_types.specs.Tidiness.{used_by}

pub returns-in-empty-clause-first : goal.returns-in-empty-clause-first
returns-in-empty-clause-first c = no_item c.args.depth_left c.args.content.now (omega (arith, c.in-empty.len_below))

pub value_in-requires : goal.value_in-requires
value_in-requires c =
    let h =
    item_here c.args.depth_left c.args.content.now (used_by (judge_value c.args.depth_left c.args.content.now))
    (λ k. omega (arith, c.type_inv.content k)) (omega (arith, c.in-len1-up.len_at_least)) c.requires.read (λ read. refl) in
    record { read = h.read }

pub returns-in-Some-clause-left : goal.returns-in-Some-clause-left
returns-in-Some-clause-left c =
    let h =
    item_here c.args.depth_left c.args.content.now c.value_size.result (λ k. omega (arith, c.type_inv.content k))
    (omega (arith, c.in-len1-up.len_at_least)) c.requires.read (c.value_size.ensures.used c.args.depth_left) in
    let P : List ℕ → Type 0 = λ bs. IsFilled (filled (judge_value c.args.depth_left) 0 bs) in
    subst P (sym c.bytes_from.ensures) h.left

pub returns-in-Some-clause-first : goal.returns-in-Some-clause-first
returns-in-Some-clause-first c =
    let h =
    item_here c.args.depth_left c.args.content.now c.value_size.result (λ k. omega (arith, c.type_inv.content k))
    (omega (arith, c.in-len1-up.len_at_least)) c.requires.read (c.value_size.ensures.used c.args.depth_left) in
    let P : List ℕ → Type 0 = λ bs. StartsWith c.args.depth_left c.args.content.now (Some (value_of c.in-Some.item, bs)) in
    let Q : FieldValue → Type 0 = λ v. StartsWith c.args.depth_left c.args.content.now (Some (v, c.bytes_from.result.now)) in
    let R : List ℕ → Type 0 = λ bs. StartsWith c.args.depth_left c.args.content.now (Some (h.value, bs)) in
    let e : Some (value_of c.in-Some.item) ≡ Some h.value = c.in-Some.ensures ∙ sym h.is in
    let same : value_of c.in-Some.item ≡ h.value = cc in
    subst Q (sym same) (subst R (sym c.bytes_from.ensures) h.starts)

pub returns-in-None-clause-first : goal.returns-in-None-clause-first
returns-in-None-clause-first c =
    let h =
    item_here c.args.depth_left c.args.content.now (used_by (judge_value c.args.depth_left c.args.content.now))
    (λ k. omega (arith, c.type_inv.content k)) (omega (arith, c.in-len1-up.len_at_least)) c.requires.read (λ read. refl) in
    let e : None ≡ Some h.value = c.in-None.ensures ∙ sym h.is in
    absurd cc
