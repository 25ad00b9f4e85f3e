-- `put_set`: what it ensures, what loops keep and what calls require.
use Rattle.std.proofs.Common.{refl, sym, ◌∙◌, arith}
use Rattle.amqp_canonical.specs.declared.shapes.Form.TheVariants as forms
use Rattle.amqp_canonical.proofs.Putting.{has_room}
use Rattle.amqp_canonical.proofs.PutSoFar.{so_far_none}
use Rattle.amqp_canonical.proofs.PayloadParts.{set_end, property_here, property_past}
use Rattle.amqp_canonical.proofs.payload_writing.put_set.Goals as goal
use Rattle.amqp_canonical.proofs.payload_writing.put_set.Goals.{then-has_bit, else-has_bit}

pub loop-shape-init : goal.loop-shape-init
loop-shape-init g c = so_far_none (λ k. omega (arith, c.type_inv.i k)) c.requires.read

pub put_form-end-requires : goal.put_form-end-requires
put_form-end-requires g c =
    let l = c.loop-shape in
    let table = c.property_shapes-shapes in
    let here =
    property_here table.result.now (0, forms.Octet) c.args.mask table.ensures c.loop-shape-test.true l.invariant
    (sym c.has_bit.ensures ∙ c.if-has_bit.true) (λ read. refl) in
    record { read = here.read; room = has_room (omega (arith, here.within)) l.invariant.put.same c.requires.room }

pub loop-shape-preserved : goal.loop-shape-preserved
loop-shape-preserved g c =
    let l = c.loop-shape in
    let table = c.property_shapes-shapes in
    elim c.if-has_bit.branch [
      | then-has_bit w ↦
          let here =
          property_here table.result.now (0, forms.Octet) c.args.mask table.ensures c.loop-shape-test.true l.invariant
          (sym c.has_bit.ensures ∙ w.if-has_bit.true) w.form_size.ensures.used in
          rw (w.rest-is, w.bytes_from-rest.ensures, w.buf-is, w.end-is) (here.next _ _ w.put_form-end.ensures)
      | else-has_bit w ↦
          rw (w.rest-is, w.buf-is, w.end-is) (property_past table.result.now (0, forms.Octet) c.args.mask table.ensures c.loop-shape-test.true l.invariant
          (sym c.has_bit.ensures ∙ w.if-has_bit.false))
    ]

pub returns : goal.returns
returns g c = set_end c.property_shapes-shapes.result.now c.args.mask c.property_shapes-shapes.ensures c.loop-shape-test.false c.loop-shape.invariant
