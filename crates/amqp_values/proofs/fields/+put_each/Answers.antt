-- `put_each`, which calls itself: what they ensure.
use Rattle.std.proofs.Common.{sym, subst, List, arith}
use Rattle.std.proofs.lemmas.Slice.{first_rest}
use Rattle.amqp_types.specs.Writing.{Puts}
use Rattle.amqp_values.specs.Fields.{field_bytes, fields_bytes}
use Rattle.amqp_values.specs.declared.fields.Field.{Field}
use Rattle.amqp_values.proofs.FieldLists.{put_none, put_more}
use Rattle.amqp_values.proofs.fields.+put_each.Goals as goal

pub returns-in-empty : goal.returns-in-empty
returns-in-empty t c = put_none c.args.buf.now c.args.at c.args.fields.now (omega arith)

pub returns-in-Nothing : goal.returns-in-Nothing
unfolding field_bytes fields_bytes
returns-in-Nothing t c =
    let split = first_rest c.args.fields.now c.first-item.result (omega arith) in
    let first = rw (← c.first-item.is) at split in
    let nothing = rw c.in-Nothing.is at first in
    let P : List Field → Type 0 = λ xs. Puts c.args.buf.now c.put_each.new.buf c.args.at (fields_bytes xs) c.put_each.result in
    subst P (sym nothing) c.put_each.ensures

pub returns-in_default : goal.returns-in_default
returns-in_default t c =
    let split = first_rest c.args.fields.now c.first-item.result (omega arith) in
    put_more c.args.buf.now _ _ c.args.at _ _ c.args.fields.now _ c.first-item.result
    (rw (← c.first-item.is) at split) c.requires.room c.put_field-place.ensures c.put_each-in_default.ensures
