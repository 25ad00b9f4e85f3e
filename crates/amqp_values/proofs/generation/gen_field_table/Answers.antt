-- `gen_field_table`: what it ensures.
use Rattle.std.proofs.Common.{rules}
use Rattle.amqp_types.specs.ValueBytes.{table_bytes}
use Rattle.amqp_types.proofs.Puts.{appended}
use Rattle.amqp_values.proofs.generation.gen_field_table.Goals as goal

pub returns : goal.returns
returns c = (
  search rules,
  appended c.args.out.now.items c.grow.new.out.items c.put_field_table.new.buf
      (table_bytes c.args.value.now) c.grow.new.out.len c.in_ok-at.at (search rules) (search rules) (search rules) (search rules),
)
