-- `gen_value`: what it ensures.
use Rattle.std.proofs.Common.{rules}
use Rattle.amqp_types.specs.ValueBytes.{tagged_bytes}
use Rattle.amqp_types.proofs.Puts.{appended}
use Rattle.amqp_values.specs.Views.{value_of}
use Rattle.amqp_values.proofs.generation.gen_value.Goals as goal

pub returns : goal.returns
returns c = (
  search rules,
  appended c.args.out.now.items c.grow.new.out.items c.put_value.new.buf
      (tagged_bytes (value_of c.args.value.now)) c.grow.new.out.len c.in_ok-at.at (search rules) (search rules) (search rules) (search rules),
)
