-- the calls of cycle `copy`: what loops keep and what calls require.
use Rattle.std.proofs.Common.{◌≡◌, List, [], ◌∷◌, ◌++◌, arith, sym, ap, ◌∙◌, subst, append_assoc}
use Rattle.std.specs.List.Sorted.{IsStrictlySortedBy}
use Rattle.std.specs.Map.{keys_of}
use Rattle.std.specs.Ordering.{nat_cmp}
use Rattle.std.specs.Cmp.Lexicographic.{slice_cmp}
use Rattle.amqp_types.specs.Values.{Entry, weight, values_weight, values_of, entries_weight, entries_of}
use Rattle.amqp_values.specs.Views.{value_of}
use Rattle.amqp_values.proofs.Parts.{weight_at, weight_in}
use Rattle.amqp_laws.proofs.Settling.{insert_last}
use Rattle.amqp_values.proofs.value.+copy.Goals as goal

pub FieldArray::copy-copy-requires : goal.FieldArray::copy-copy-requires
FieldArray::copy-copy-requires t c =
    let xs = c.as_slice-value-items.result.now in
    let small = weight_at xs c.loop-value.value-index c.value-item.result c.loop-value-test.true in
    let here = ap (λ v. weight (value_of v)) c.value-item.is in
    let all = ap (λ vs. values_weight (values_of vs)) c.loop-value.invariant.0 in
    (omega (arith, c.decreases, small, here, all), tt)

pub FieldTable::copy-copy-requires-in-loop-key : goal.FieldTable::copy-copy-requires-in-loop-key
FieldTable::copy-copy-requires-in-loop-key t c =
    let l = c.loop-key in
    let e : Entry = (c.in-Some.key.now, value_of c.in-Some.value.now) in
    let all : l.copied ++ e ∷ c.next.new.self ≡ c.args.self.now = sym (ap (λ es. l.copied ++ es) c.in-Some.ensures.steps) ∙ l.invariant in
    let small = weight_in l.copied e c.next.new.self in
    let whole = ap (λ es. entries_weight (entries_of es)) all in
    (omega (arith, c.decreases, small, whole), tt)

pub FieldTable::copy-loop-key-preserved : goal.FieldTable::copy-loop-key-preserved
FieldTable::copy-loop-key-preserved t c =
    let l = c.loop-key in
    let e : Entry = (c.in-Some.key.now, value_of c.in-Some.value.now) in
    let more = c.next.new.self in
    let all : l.copied ++ e ∷ more ≡ c.args.self.now = sym (ap (λ es. l.copied ++ es) c.in-Some.ensures.steps) ∙ l.invariant in
    let P : List Entry → Type 0 = λ es. IsStrictlySortedBy (slice_cmp nat_cmp) (keys_of es) in
    let last = insert_last l.copied e more (subst P (sym all) c.iter-key-items.ensures.rising) in
    ap (λ es. es ++ more) (c.in_ok-insert.ensures.ok ∙ rw (c.in_ok-key.ensures, c.in_ok-value.ensures) last) ∙ append_assoc l.copied (e ∷ []) more ∙ all
