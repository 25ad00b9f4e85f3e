-- `gen_fields`: what it ensures.
use Rattle.std.proofs.Common.{rules}
use Rattle.amqp_types.proofs.Puts.{appended}
use Rattle.amqp_values.specs.Fields.{fields_bytes, fields_size}
use Rattle.amqp_values.proofs.fields.gen_fields.Goals as goal

pub returns : goal.returns
unfolding fields_size fields_bytes
returns c = (
  search rules,
  appended c.args.out.now.items c.grow.new.out.items c.put_fields.new.buf
      (fields_bytes c.args.fields.now) c.grow.new.out.len c.in_ok-at.at (search rules) (search rules) (search rules) (search rules),
)
