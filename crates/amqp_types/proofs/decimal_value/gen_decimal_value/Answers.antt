-- `gen_decimal_value`: what it ensures.
use Rattle.std.proofs.Common.{rules}
use Rattle.amqp_types.specs.ValueBytes.{decimal_bytes}
use Rattle.amqp_types.proofs.Puts.{appended}
use Rattle.amqp_types.proofs.decimal_value.gen_decimal_value.Goals as goal

pub returns : goal.returns
returns c = (
  search rules,
  appended c.args.out.now.items c.grow.new.out.items c.put_decimal_value.new.buf
      (decimal_bytes c.args.value.scale c.args.value.value) c.grow.new.out.len c.in_ok-at.at (search rules) (search rules) (search rules) (search rules),
)
