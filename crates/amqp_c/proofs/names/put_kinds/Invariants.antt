-- `put_kinds`: the kinds so far stand at the front.
use Rattle.std.proofs.Common.{◌≡◌, map, take}
use Rattle.amqp_types.specs.Writing.{written}
use Rattle.amqp_names.specs.Tables.{field_kind}
use Rattle.amqp_c.proofs.names.put_kinds.Given as goal

abbrev pub invariant-loop-field : goal.invariant-loop-field
invariant-loop-field l = record {
  place_is : l.place ≡ l.field-index;
  put : l.kinds ≡ written l.fn.kinds 0 (map field_kind (take l.field-index l.fields));
}
