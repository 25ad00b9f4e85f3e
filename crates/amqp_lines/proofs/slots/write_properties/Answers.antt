-- `write_properties`: what it ensures.
use Rattle.amqp_lines.proofs
use proofs.Names.{rules, ◌≡◌, refl, arith, take_rest, took, bytes2, judge_number}
use Rattle.std.proofs.lemmas.Grind.{common_steps}
use proofs.RenderedSlots.{properties_said}
use proofs.slots.write_properties.Goals as goal

pub returns-in-len2-up : goal.returns-in-len2-up
returns-in-len2-up c =
    let said = rw (take_rest, c.property_shapes.ensures) at c.write_set.ensures in
    let mask : judge_number bytes2 c.args.i.now ≡ took c.from_be_bytes.result 2 = first_of (search rules, grind (arith, common_steps)) in
    properties_said c.args.i.now c.args.out.now.items c.write_set.new.out.items c.write_set.result mask refl said
