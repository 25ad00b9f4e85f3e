-- `put_slots`: what it ensures, what loops keep and what calls require.
use Rattle.std.proofs.Common.{refl, arith}
use Rattle.std.proofs.lemmas.List.{length-map}
use Rattle.amqp_canonical.specs.Shapes.{slot_of}
use Rattle.amqp_canonical.specs.declared.shapes.Form.TheVariants as forms
use Rattle.amqp_canonical.specs.declared.shapes.Slot.TheVariants as slots
use Rattle.amqp_canonical.proofs.Putting.{has_room}
use Rattle.amqp_canonical.proofs.Constants.{constant_at}
use Rattle.amqp_canonical.proofs.PutSoFar.{so_far_none, so_far_here, so_far_end, map_from}
use Rattle.amqp_canonical.proofs.SlotParts.{slots_joined}
use Rattle.amqp_canonical.proofs.slot_writing.put_slots.Goals as goal

pub loop-shape-init : goal.loop-shape-init
loop-shape-init g c = so_far_none (λ k. omega (arith, c.type_inv.i k)) c.requires.read

pub put_slot-end-requires : goal.put_slot-end-requires
put_slot-end-requires g c =
    let l = c.loop-shape in
    let is = map_from slot_of c.args.shapes.now l.shape-index (slots.Kept forms.Octet) c.loop-shape-test.true in
    let here = so_far_here slots_joined is (λ read. refl) l.invariant in
    record {
      constant = constant_at c.args.shapes.now l.shape-index (slots.Kept forms.Octet) c.requires.constants c.loop-shape-test.true;
      read = here.read;
      room = has_room (omega (arith, here.within)) l.invariant.put.same c.requires.room;
    }

pub loop-shape-preserved : goal.loop-shape-preserved
loop-shape-preserved g c =
    let l = c.loop-shape in
    let is = map_from slot_of c.args.shapes.now l.shape-index (slots.Kept forms.Octet) c.loop-shape-test.true in
    let here = so_far_here slots_joined is c.slot_size.ensures.used l.invariant in
    rw c.bytes_from-rest.ensures (here.next _ _ c.put_slot-end.ensures)

pub returns : goal.returns
returns g c = so_far_end slots_joined (omega (arith, c.loop-shape-test.false, length-map c.args.shapes.now slot_of)) c.loop-shape.invariant
