-- the calls of cycle `write`: what they ensure, what loops keep, what falls with each iteration, what calls require and that no place or sum is out of range.
use Rattle.amqp_canonical.specs.CanonicalValues.{canonical_after_tag, canonical_entry, canonical_value}
use Rattle.std.proofs.Common.{rules, drop, ◌≡◌, ◌≤◌, ◌+◌, ◌-◌, ◌∷◌, [], true, false, None, length, take, refl, sym, ap, ◌∙◌, arith}
use Rattle.std.proofs.lemmas.List.{length-take-le, length-drop, take_rest}
use Rattle.amqp_types.specs.ValueBytes.{array_bytes, table_bytes}
use Rattle.amqp_types.specs.ValueJudging.{nested}
use Rattle.amqp_canonical.specs.Marks.{blank}
use Rattle.amqp_canonical.proofs.Putting.{has_room, same_put, then_put}
use Rattle.amqp_canonical.proofs.ReadParts.{tag_parts, none_read, unknown_read}
use Rattle.amqp_canonical.proofs.PutParts.{copied_at, boolean_put, array_inside, table_inside, array_holds, table_holds, length_put, entry_put, entry_some}
use Rattle.amqp_canonical.proofs.PutByLoops.{values_none, value_here, values_end, entries_none, entries_tied, entry_kept, selected_none, selected_here}
use Rattle.amqp_canonical.proofs.PutByLoops.{selected_end}
use Rattle.amqp_canonical.proofs.writing.+write.Goals as goal
use Rattle.amqp_canonical.proofs.writing.+write.Goals.{put_marked-then-not-is_tied, put_marked-else-not-is_tied}

pub put_after_tag-slice_bounds-put_if_room-end : goal.put_after_tag-slice_bounds-put_if_room-end
put_after_tag-slice_bounds-put_if_room-end g t c =
    let h =
    copied_at c.args.depth_left c.args.tag c.args.i.now (λ k. omega (arith, c.type_inv.i k)) c.layout_of.ensures.is c.in-Fixed.is
    c.requires.read c.size_in.ensures.used in
    sym (length-take-le c.size_in.result c.args.i.now h.within)

pub put_after_tag-put_if_room-requires : goal.put_after_tag-put_if_room-requires
put_after_tag-put_if_room-requires g t c =
    let h =
    copied_at c.args.depth_left c.args.tag c.args.i.now (λ k. omega (arith, c.type_inv.i k)) c.layout_of.ensures.is c.in-Fixed.is
    c.requires.read c.size_in.ensures.used in
    record { room = has_room (omega (arith, ap length h.bytes_are)) refl c.requires.room }

pub put_after_tag-returns-in-Fixed : goal.put_after_tag-returns-in-Fixed
put_after_tag-returns-in-Fixed g t c =
    let h =
    copied_at c.args.depth_left c.args.tag c.args.i.now (λ k. omega (arith, c.type_inv.i k)) c.layout_of.ensures.is c.in-Fixed.is
    c.requires.read c.size_in.ensures.used in
    same_put h.bytes_are c.put_if_room.ensures

pub put_after_tag-bounds-i-0 : goal.put_after_tag-bounds-i-0
put_after_tag-bounds-i-0 g t c =
    let h = boolean_put (nested c.args.depth_left) c.args.tag c.args.i.now (sym c.layout_of.ensures.is ∙ c.in-OneBoolean.is) c.requires.read in
    search (rules, h.0)

pub put_after_tag-put_if_room-requires-in-OneBoolean : goal.put_after_tag-put_if_room-requires-in-OneBoolean
put_after_tag-put_if_room-requires-in-OneBoolean g t c =
    let h = boolean_put (nested c.args.depth_left) c.args.tag c.args.i.now (sym c.layout_of.ensures.is ∙ c.in-OneBoolean.is) c.requires.read in
    record { room = has_room (omega (arith, ap length h.1, ap length c.truth_byte.ensures)) refl c.requires.room }

pub put_after_tag-returns-in-OneBoolean : goal.put_after_tag-returns-in-OneBoolean
put_after_tag-returns-in-OneBoolean g t c =
    let h = boolean_put (nested c.args.depth_left) c.args.tag c.args.i.now (sym c.layout_of.ensures.is ∙ c.in-OneBoolean.is) c.requires.read in
    same_put (sym (h.1 ∙ c.truth_byte.ensures)) c.put_if_room-in-OneBoolean.ensures

pub put_after_tag-overflow_sub-depth_left : goal.put_after_tag-overflow_sub-depth_left
put_after_tag-overflow_sub-depth_left g t c =
    let h = array_inside c.args.depth_left c.args.tag c.args.i.now (sym c.layout_of.ensures.is ∙ c.in-Values.is) c.requires.read in
    omega (arith, h.up)

pub put_after_tag-put_array-requires : goal.put_after_tag-put_array-requires
put_after_tag-put_array-requires g t c =
    let h = array_inside c.args.depth_left c.args.tag c.args.i.now (sym c.layout_of.ensures.is ∙ c.in-Values.is) c.requires.read in
    λ κs lives. (search rules, (lives, (h.read, has_room (omega (arith, ap length h.bytes_are)) refl c.requires.room)))

pub put_after_tag-returns-in-Values : goal.put_after_tag-returns-in-Values
put_after_tag-returns-in-Values g t c =
    let h = array_inside c.args.depth_left c.args.tag c.args.i.now (sym c.layout_of.ensures.is ∙ c.in-Values.is) c.requires.read in
    same_put (sym h.bytes_are) c.put_array.ensures

pub put_after_tag-overflow_sub-depth_left-in-Entries : goal.put_after_tag-overflow_sub-depth_left-in-Entries
put_after_tag-overflow_sub-depth_left-in-Entries g t c =
    let h = table_inside c.args.depth_left c.args.tag c.args.i.now (sym c.layout_of.ensures.is ∙ c.in-Entries.is) c.requires.read in
    omega (arith, h.up)

pub put_after_tag-put_table-requires : goal.put_after_tag-put_table-requires
put_after_tag-put_table-requires g t c =
    let h = table_inside c.args.depth_left c.args.tag c.args.i.now (sym c.layout_of.ensures.is ∙ c.in-Entries.is) c.requires.read in
    λ κs lives. (search rules, (lives, (h.read, has_room (omega (arith, ap length h.bytes_are)) refl c.requires.room)))

pub put_after_tag-returns-in-Entries : goal.put_after_tag-returns-in-Entries
put_after_tag-returns-in-Entries g t c =
    let h = table_inside c.args.depth_left c.args.tag c.args.i.now (sym c.layout_of.ensures.is ∙ c.in-Entries.is) c.requires.read in
    same_put (sym h.bytes_are) c.put_table.ensures

pub put_array-put_values-end-requires : goal.put_array-put_values-end-requires
put_array-put_values-end-requires g t c =
    let h = array_holds c.args.depth_left c.args.i.now _ (λ k. omega (arith, c.type_inv.i k)) c.content_of.ensures c.requires.read in
    λ κs lives. (search rules, (lives, (h.filled_is, has_room (omega (arith, ap length h.bytes_are)) refl c.requires.room)))

pub put_array-overflow_cast-end : goal.put_array-overflow_cast-end
put_array-overflow_cast-end g t c =
    let h = array_holds c.args.depth_left c.args.i.now _ (λ k. omega (arith, c.type_inv.i k)) c.content_of.ensures c.requires.read in
    omega (arith, h.fits, c.put_values-end.ensures.behind)

pub put_array-put_if_room-requires : goal.put_array-put_if_room-requires
put_array-put_if_room-requires g t c =
    let h = array_holds c.args.depth_left c.args.i.now _ (λ k. omega (arith, c.type_inv.i k)) c.content_of.ensures c.requires.read in
    record { room = has_room (omega (arith, ap length h.bytes_are, ap length c.to_be_bytes.ensures)) c.put_values-end.ensures.same c.requires.room }

pub put_array-returns : goal.put_array-returns
put_array-returns g t c =
    let h = array_holds c.args.depth_left c.args.i.now _ (λ k. omega (arith, c.type_inv.i k)) c.content_of.ensures c.requires.read in
    length_put array_bytes _ _ _ h c.put_values-end.ensures (same_put c.to_be_bytes.ensures c.put_if_room.ensures)

pub put_table-put_entries-end-requires : goal.put_table-put_entries-end-requires
put_table-put_entries-end-requires g t c =
    let h = table_holds c.args.depth_left c.args.i.now _ (λ k. omega (arith, c.type_inv.i k)) c.content_of.ensures c.requires.read in
    λ κs lives. (search rules, (lives, (h.filled_is, has_room (omega (arith, ap length h.bytes_are)) refl c.requires.room)))

pub put_table-overflow_add-at : goal.put_table-overflow_add-at
put_table-overflow_add-at g t c =
    let h = table_holds c.args.depth_left c.args.i.now _ (λ k. omega (arith, c.type_inv.i k)) (λ long. refl) c.requires.read in
    omega (arith, ap length h.bytes_are, c.requires.room.few)

pub put_table-overflow_cast-end : goal.put_table-overflow_cast-end
put_table-overflow_cast-end g t c =
    let h = table_holds c.args.depth_left c.args.i.now _ (λ k. omega (arith, c.type_inv.i k)) c.content_of.ensures c.requires.read in
    omega (arith, h.fits, c.put_entries-end.ensures.behind)

pub put_table-put_if_room-requires : goal.put_table-put_if_room-requires
put_table-put_if_room-requires g t c =
    let h = table_holds c.args.depth_left c.args.i.now _ (λ k. omega (arith, c.type_inv.i k)) c.content_of.ensures c.requires.read in
    record { room = has_room (omega (arith, ap length h.bytes_are, ap length c.to_be_bytes.ensures)) c.put_entries-end.ensures.same c.requires.room }

pub put_table-returns : goal.put_table-returns
put_table-returns g t c =
    let h = table_holds c.args.depth_left c.args.i.now _ (λ k. omega (arith, c.type_inv.i k)) c.content_of.ensures c.requires.read in
    length_put table_bytes _ _ _ h c.put_entries-end.ensures (same_put c.to_be_bytes.ensures c.put_if_room.ensures)

pub put_mark-slice_bounds-put_if_room-end : goal.put_mark-slice_bounds-put_if_room-end
put_mark-slice_bounds-put_if_room-end g t c =
    let mark = c.args.mark.now in
    let h = c.requires.is.copied c.if-size-ne0.true c.args.depth_left c.requires.read in
    let within : mark.place + mark.size ≤ length c.args.content.now = omega (arith, h.within, length-drop mark.place c.args.content.now, c.if-size-ne0.true) in
    search rules

pub put_mark-put_if_room-requires : goal.put_mark-put_if_room-requires
put_mark-put_if_room-requires g t c =
    let mark = c.args.mark.now in
    let h = c.requires.is.copied c.if-size-ne0.true c.args.depth_left c.requires.read in
    let size = ap (λ k. length (take k (drop mark.place c.args.content.now))) (let e : mark.place + mark.size - mark.place ≡ mark.size = omega arith in e) in
    record { room = has_room (omega (arith, size, ap length h.bytes_are)) refl c.requires.room }

pub put_mark-returns-then-size-ne0 : goal.put_mark-returns-then-size-ne0
put_mark-returns-then-size-ne0 g t c =
    let mark = c.args.mark.now in
    let h = c.requires.is.copied c.if-size-ne0.true c.args.depth_left c.requires.read in
    let size = ap (λ k. take k (drop mark.place c.args.content.now)) (let e : mark.place + mark.size - mark.place ≡ mark.size = omega arith in e) in
    same_put (size ∙ h.bytes_are) c.put_if_room.ensures

pub put_mark-put_entry-requires : goal.put_mark-put_entry-requires
put_mark-put_entry-requires g t c =
    let size = ap (λ bs. length (canonical_entry c.args.depth_left bs)) c.bytes_from.ensures in
    λ κs lives. (search rules, (lives, (rw c.bytes_from.ensures c.requires.read, has_room (omega (arith, size)) refl c.requires.room)))

pub put_mark-returns : goal.put_mark-returns
put_mark-returns g t c =
    same_put (ap (λ bs. canonical_entry c.args.depth_left bs) c.bytes_from.ensures) c.put_entry.ensures

pub put_entry-slice_bounds-put_if_room-end : goal.put_entry-slice_bounds-put_if_room-end
put_entry-slice_bounds-put_if_room-end g t c =
    let h = entry_put c.args.depth_left c.args.i.now c.requires.read in
    sym (length-take-le (1 + length c.split_key.result.0.now) c.args.i.now (omega (arith, ap length c.split_key.ensures.key, h.within)))

pub put_entry-put_if_room-place-requires : goal.put_entry-put_if_room-place-requires
put_entry-put_if_room-place-requires g t c =
    let h = entry_put c.args.depth_left c.args.i.now c.requires.read in
    let key = ap (λ k. length (take (1 + length k) c.args.i.now)) c.split_key.ensures.key in
    record { room = has_room (omega (arith, key, h.size)) refl c.requires.room }

pub put_entry-put_value-requires : goal.put_entry-put_value-requires
put_entry-put_value-requires g t c =
    let h = entry_put c.args.depth_left c.args.i.now c.requires.read in
    let key = ap (λ k. length (take (1 + length k) c.args.i.now)) c.split_key.ensures.key in
    let rest = ap (λ bs. length (canonical_value c.args.depth_left bs)) c.split_key.ensures.rest in
    let place = c.put_if_room-place.ensures in
    λ κs lives. (search rules, (lives, (rw c.split_key.ensures.rest h.read, has_room (omega (arith, key, rest, h.size)) place.same c.requires.room)))

pub put_entry-returns : goal.put_entry-returns
put_entry-returns g t c =
    let h = entry_put c.args.depth_left c.args.i.now c.requires.read in
    let key = ap (λ k. take (1 + length k) c.args.i.now) c.split_key.ensures.key in
    let rest = ap (λ bs. canonical_value c.args.depth_left bs) c.split_key.ensures.rest in
    same_put (sym h.bytes_are) (then_put (same_put key c.put_if_room-place.ensures) (same_put rest c.put_value.ensures))

pub put_value-put_after_tag-requires : goal.put_value-put_after_tag-requires
put_value-put_after_tag-requires g t c =
    let i = c.args.i.now in
    let h = tag_parts c.args.depth_left i c.in-Some.tag (omega (arith, c.in-len1-up.len_at_least)) (sym c.from_byte.ensures ∙ c.in-Some.is) c.requires.read in
    let rest : take (length i - 1) (drop 1 i) ≡ drop 1 i = rw take_rest in
    let size = ap (λ bs. length (canonical_after_tag c.args.depth_left c.in-Some.tag bs)) rest in
    let place = c.put_if_room-place.ensures in
    λ κs lives. (search rules, (lives, (rw take_rest h.read, has_room (omega (arith, size, ap length h.bytes_are)) place.same c.requires.room)))

pub put_value-returns-in-empty : goal.put_value-returns-in-empty
put_value-returns-in-empty g t c = absurd (none_read c.args.depth_left c.args.i.now (omega (arith, c.in-empty.len_below)) c.requires.read)

pub put_value-returns-in-None : goal.put_value-returns-in-None
put_value-returns-in-None g t c =
    absurd (unknown_read c.args.depth_left c.args.i.now (omega (arith, c.in-len1-up.len_at_least)) (sym c.from_byte.ensures ∙ c.in-None.is) c.requires.read)

pub put_value-returns-in-Some : goal.put_value-returns-in-Some
put_value-returns-in-Some g t c =
    let i = c.args.i.now in
    let h = tag_parts c.args.depth_left i c.in-Some.tag (omega (arith, c.in-len1-up.len_at_least)) (sym c.from_byte.ensures ∙ c.in-Some.is) c.requires.read in
    same_put (sym h.bytes_are) (then_put (same_put (ap (λ b. b ∷ []) c.to_byte.ensures) c.put_if_room-place.ensures) (rw take_rest at c.put_after_tag.ensures))

pub put_values-loop-start-init : goal.put_values-loop-start-init
put_values-loop-start-init g t c = values_none c.requires.read

pub put_values-put_value-end-requires : goal.put_values-put_value-end-requires
put_values-put_value-end-requires g t c =
    let l = c.loop-start in
    let all = c.args.content.now in
    let here = value_here (λ k. omega (arith, c.type_inv.content k)) c.loop-start-test.true (λ read. refl) l.invariant in
    let rest : take (length all - l.start) (drop l.start all) ≡ drop l.start all = rw take_rest in
    let size = ap (λ bs. length (canonical_value c.args.depth_left bs)) rest in
    λ κs lives. (search rules, (lives, (rw take_rest here.read, has_room (omega (arith, size, here.fits)) l.invariant.put.put.same c.requires.room)))

pub put_values-loop-start-smaller : goal.put_values-loop-start-smaller
put_values-loop-start-smaller g t c =
    let sized = rw take_rest at c.value_size-start.ensures.used in
    let here = value_here (λ k. omega (arith, c.type_inv.content k)) c.loop-start-test.true (sized c.args.depth_left) c.loop-start.invariant in
    omega (arith, here.some, c.loop-start-test.true)

pub put_values-loop-start-preserved : goal.put_values-loop-start-preserved
put_values-loop-start-preserved g t c =
    let sized = rw take_rest at c.value_size-start.ensures.used in
    let here = value_here (λ k. omega (arith, c.type_inv.content k)) c.loop-start-test.true (sized c.args.depth_left) c.loop-start.invariant in
    here.next _ _ (rw take_rest at c.put_value-end.ensures)

pub put_values-returns : goal.put_values-returns
put_values-returns g t c = values_end c.loop-start-test.false c.loop-start.invariant

pub put_marked-loop-k-init : goal.put_marked-loop-k-init
put_marked-loop-k-init g t c = (omega arith, entries_none)

pub put_marked-put_mark-end-requires : goal.put_marked-put_mark-end-requires
put_marked-put_mark-end-requires g t c =
    let l = c.loop-k in
    let tied : c.is_tied.result ≡ false = search rules in
    let here = entry_kept c.requires.read c.loop-k-test.true (sym tied ∙ c.is_tied.ensures c.args.depth_left c.requires.read) l.invariant.1 in
    let room = has_room (omega (arith, here.fits)) l.invariant.1.put.put.same c.requires.room in
    λ κs lives. (search rules, (lives, (c.requires.read l.k blank c.loop-k-test.true, (c.requires.each l.k blank c.loop-k-test.true, room))))

pub put_marked-loop-k-preserved : goal.put_marked-loop-k-preserved
put_marked-loop-k-preserved g t c =
    let l = c.loop-k in
    let is = c.is_tied.ensures c.args.depth_left c.requires.read in
    elim c.if-not-is_tied.branch [
      | put_marked-then-not-is_tied w ↦
          let tied : c.is_tied.result ≡ false = search rules in
          let here = entry_kept c.requires.read c.loop-k-test.true (sym tied ∙ is) l.invariant.1 in
          (omega (arith, c.loop-k-test.true), rw (w.buf-is, w.end-is) (here.next _ _ w.put_mark-end.ensures))
      | put_marked-else-not-is_tied w ↦
          let tied : c.is_tied.result ≡ true = search rules in
          (omega (arith, c.loop-k-test.true), rw (w.buf-is, w.end-is) (entries_tied c.loop-k-test.true (sym tied ∙ is) l.invariant.1))
    ]

pub put_selected-loop-next-init : goal.put_selected-loop-next-init
put_selected-loop-next-init g t c = selected_none (c.next_entry-next.ensures c.args.depth_left c.requires.read)

pub put_selected-put_entry-end-requires : goal.put_selected-put_entry-end-requires
put_selected-put_entry-end-requires g t c =
    let here = selected_here (rw c.in-Some.is at c.loop-next.invariant) in
    let size = ap (λ bs. length (canonical_entry c.args.depth_left bs)) c.bytes_from.ensures in
    let put = c.loop-next.invariant.put in
    λ κs lives. (search rules, (lives, (rw c.bytes_from.ensures here.read, has_room (omega (arith, size, here.fits.fits)) put.same c.requires.room)))

pub put_selected-loop-next-smaller : goal.put_selected-loop-next-smaller
put_selected-loop-next-smaller g t c =
    let here = selected_here (rw c.in-Some.is at c.loop-next.invariant) in
    let size = ap (λ bs. length (canonical_entry c.args.depth_left bs)) c.bytes_from.ensures in
    let some = entry_some c.args.depth_left (drop c.in-Some.place c.args.content.now) here.read in
    omega (arith, size, here.fits.fits, c.put_entry-end.ensures.behind, some)

pub put_selected-loop-next-preserved : goal.put_selected-loop-next-preserved
put_selected-loop-next-preserved g t c =
    let room = c.args.depth_left in
    let here = selected_here (rw c.in-Some.is at c.loop-next.invariant) in
    let bytes = ap (λ bs. canonical_entry room bs) c.bytes_from.ensures in
    here.fits.next _ _ (same_put bytes c.put_entry-end.ensures) _ (c.next_entry-next-in-Some.ensures room c.requires.read)

pub put_selected-returns : goal.put_selected-returns
put_selected-returns g t c = let none : c.loop-next.next ≡ None = c.in_default.is in selected_end (rw none at c.loop-next.invariant)
