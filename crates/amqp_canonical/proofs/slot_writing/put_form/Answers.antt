-- `put_form`: what it ensures, what calls require and that no place or sum is out of range.
use Rattle.std.proofs.Common.{rules, ◌∷◌, [], length, refl, sym, ap, ◌∙◌, arith}
use Rattle.std.proofs.lemmas.List.{length-take-le}
use Rattle.amqp_canonical.proofs.Putting.{has_room, same_put}
use Rattle.amqp_canonical.proofs.SlotParts.{copied_form, flags_slot, table_slot}
use Rattle.amqp_canonical.proofs.slot_writing.put_form.Goals as goal

pub put_table-requires : goal.put_table-requires
put_table-requires g c =
    let h = table_slot c.args.form c.args.i.now c.in-Table.is c.requires.read in
    record { read = h.0; room = has_room (omega (arith, ap length h.1)) refl c.requires.room }

pub returns-in-Table : goal.returns-in-Table
returns-in-Table g c = let h = table_slot c.args.form c.args.i.now c.in-Table.is c.requires.read in same_put (sym h.1) c.put_table.ensures

pub bounds-i-0 : goal.bounds-i-0
bounds-i-0 g c = let h = flags_slot c.args.form c.in-Flags.count c.args.i.now c.in-Flags.is c.requires.read in search (rules, h.0)

pub put_if_room-requires : goal.put_if_room-requires
put_if_room-requires g c =
    let h = flags_slot c.args.form c.in-Flags.count c.args.i.now c.in-Flags.is c.requires.read in
    record { room = has_room (omega (arith, ap length h.1)) refl c.requires.room }

pub returns-in-Flags : goal.returns-in-Flags
returns-in-Flags g c =
    let h = flags_slot c.args.form c.in-Flags.count c.args.i.now c.in-Flags.is c.requires.read in
    same_put (ap (λ b. b ∷ []) c.lowest_bits.ensures ∙ sym h.1) c.put_if_room.ensures

pub slice_bounds-put_if_room-end-in_default : goal.slice_bounds-put_if_room-end-in_default
slice_bounds-put_if_room-end-in_default g c =
    let d = c.in_default in
    let h = copied_form c.args.form c.args.i.now _ d.not-Table d.not-Flags (λ k. omega (arith, c.type_inv.i k)) c.requires.read c.form_size.ensures.used in
    sym (length-take-le c.form_size.result c.args.i.now h.within)

pub put_if_room-requires-in_default : goal.put_if_room-requires-in_default
put_if_room-requires-in_default g c =
    let d = c.in_default in
    let h = copied_form c.args.form c.args.i.now _ d.not-Table d.not-Flags (λ k. omega (arith, c.type_inv.i k)) c.requires.read c.form_size.ensures.used in
    record { room = has_room (omega (arith, ap length h.bytes_are)) refl c.requires.room }

pub returns-in_default : goal.returns-in_default
returns-in_default g c =
    let d = c.in_default in
    let h = copied_form c.args.form c.args.i.now _ d.not-Table d.not-Flags (λ k. omega (arith, c.type_inv.i k)) c.requires.read c.form_size.ensures.used in
    same_put h.bytes_are c.put_if_room-in_default.ensures
