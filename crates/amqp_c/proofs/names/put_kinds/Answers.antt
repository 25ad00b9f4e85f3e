-- `put_kinds`: one kind after another.
use Rattle.std.proofs.Common.{refl, sym, arith}
use Rattle.amqp_types.proofs.WrittenParts.{written-nil}
use Rattle.amqp_c.proofs.KindsPut.{one_more_kind}
use Rattle.amqp_c.proofs.names.put_kinds.Goals as goal

pub loop-field-init : goal.loop-field-init
loop-field-init c = record { place_is = refl; put = sym (written-nil c.args.kinds.now 0) }

pub loop-field-preserved : goal.loop-field-preserved
loop-field-preserved c = record {
  place_is = omega (arith, c.put_bytes-place.ensures.behind, c.loop-field.invariant.place_is);
  put = one_more_kind c.args.kinds.now c.loop-field.kinds c.put_bytes-place.new.buf c.args.fields.now c.loop-field.place c.loop-field.field-index _
      c.loop-field.invariant.place_is c.loop-field-test.true c.requires.room c.loop-field.invariant.put c.put_bytes-place.ensures.put;
}
