-- the calls of cycle `same`: what they ensure, what loops keep, what falls with each iteration and what calls require.
use Rattle.std.proofs.Common.{◌≡◌, ◌<◌, List, ℕ, Bor, Some, option_map, true≢false, sym, ap, subst, ◌∙◌, arith}
use Rattle.amqp_types.specs.Settling.{settled}
use Rattle.amqp_types.specs.Values.{Entry}
use Rattle.amqp_canonical.specs.Marks.{entries_in}
use Rattle.amqp_lent.specs.Views.{entry_of}
use Rattle.amqp_lent.proofs.Same.{SameTo, ahead, falls, same_here, same_done, key_same, key_other, same_arrays, same_tables}
use Rattle.amqp_lent.proofs.sameness.+same.Goals as goal
use Rattle.amqp_lent.proofs.sameness.+same.Goals.{are_same_entries-then-ne-via-then-ne, are_same_entries-then-ne-via-else-ne+then-not-is_same_value}

pub are_same_entries-is_same_value-requires : goal.are_same_entries-is_same_value-requires
are_same_entries-is_same_value-requires t c =
    let es = entries_in c.args.a_room c.args.a.now in
    let fs = entries_in c.args.b_room c.args.b.now in
    let last = option_map {T = Bor (List ℕ)} (λ k. k.now) c.loop-key.last in
    let f = falls es fs last (entry_of (c.in-Some.key, c.in-Some.value)) c.loop-key.invariant c.in-Some.ensures in
    (omega (arith, c.decreases, f.light), tt)

pub are_same_entries-returns-then-ne : goal.are_same_entries-returns-then-ne
are_same_entries-returns-then-ne t c =
    let es = entries_in c.args.a_room c.args.a.now in
    let fs = entries_in c.args.b_room c.args.b.now in
    let last = option_map {T = Bor (List ℕ)} (λ k. k.now) c.loop-key.last in
    let e = entry_of (c.in-Some.key, c.in-Some.value) in
    let f = entry_of (c.in-Some-entry_after.other_key, c.in-Some-entry_after.other) in
    let h = same_here es fs last e f c.loop-key.invariant c.in-Some.ensures c.in-Some-entry_after.ensures in
    elim c.then-ne.branch [
      | are_same_entries-then-ne-via-then-ne w ↦
          (λ no. absurd (true≢false (sym no)), λ same. absurd (key_other _ _ c.ne.result c.ne.ensures w.if-ne.true (ap (λ (x : Entry). x.0) (h.same same))))
      | are_same_entries-then-ne-via-else-ne+then-not-is_same_value w ↦
          (λ no. absurd (true≢false (sym no)), λ same. sym w.if-not-is_same_value.true ∙ w.is_same_value.ensures.1 (ap (λ (x : Entry). x.1) (h.same same)))
    ]

pub are_same_entries-loop-key-smaller : goal.are_same_entries-loop-key-smaller
are_same_entries-loop-key-smaller t c =
    let es = entries_in c.args.a_room c.args.a.now in
    let fs = entries_in c.args.b_room c.args.b.now in
    let last = option_map {T = Bor (List ℕ)} (λ k. k.now) c.loop-key.last in
    let f = falls es fs last (entry_of (c.in-Some.key, c.in-Some.value)) c.loop-key.invariant c.in-Some.ensures in
    let P : List ℕ → Type 0 = λ k. ahead (Some k) (settled es) < ahead last (settled es) in
    subst P (sym c.as_bytes.ensures.value) f.fewer

pub are_same_entries-loop-key-preserved : goal.are_same_entries-loop-key-preserved
are_same_entries-loop-key-preserved t c =
    let es = entries_in c.args.a_room c.args.a.now in
    let fs = entries_in c.args.b_room c.args.b.now in
    let last = option_map {T = Bor (List ℕ)} (λ k. k.now) c.loop-key.last in
    let e = entry_of (c.in-Some.key, c.in-Some.value) in
    let f = entry_of (c.in-Some-entry_after.other_key, c.in-Some-entry_after.other) in
    let h = same_here es fs last e f c.loop-key.invariant c.in-Some.ensures c.in-Some-entry_after.ensures in
    let P : List ℕ → Type 0 = λ k. SameTo es fs (Some k) in
    let key : e.0 ≡ f.0 = key_same _ _ c.ne.result c.ne.ensures c.if-ne.false in
    let value : e.1 ≡ f.1 = c.is_same_value.ensures.0 c.if-not-is_same_value.false in
    subst P (sym c.as_bytes.ensures.value) (h.next (λ i. (key i, value i)))

pub are_same_entries-returns : goal.are_same_entries-returns
are_same_entries-returns t c =
    let es = entries_in c.args.a_room c.args.a.now in
    let fs = entries_in c.args.b_room c.args.b.now in
    let last = option_map {T = Bor (List ℕ)} (λ k. k.now) c.loop-key.last in
    same_done entry_of es fs last c.entry_after-2.result c.is_none.result c.loop-key.invariant c.in_default.ensures c.entry_after-2.ensures c.is_none.ensures

pub is_same_value-returns-in-FieldArray-FieldArray : goal.is_same_value-returns-in-FieldArray-FieldArray
is_same_value-returns-in-FieldArray-FieldArray t c =
    same_arrays _ _ _ _ _ c.in-FieldArray-FieldArray.is-0 c.in-FieldArray-FieldArray.is-1 c.is_same_array.ensures

pub is_same_value-returns-in-FieldTable-FieldTable : goal.is_same_value-returns-in-FieldTable-FieldTable
is_same_value-returns-in-FieldTable-FieldTable t c =
    same_tables _ _ _ _ _ c.in-FieldTable-FieldTable.is-0 c.in-FieldTable-FieldTable.is-1 c.is_same_table.ensures
