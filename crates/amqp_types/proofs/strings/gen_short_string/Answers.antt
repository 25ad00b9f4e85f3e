-- `gen_short_string`: what it ensures.
use Rattle.std.proofs.Common.{rules}
use Rattle.amqp_types.specs.Strings.{short_string_bytes}
use Rattle.amqp_types.proofs.Puts.{appended}
use Rattle.amqp_types.proofs.strings.gen_short_string.Goals as goal

pub returns : goal.returns
returns c = (
  search rules,
  appended c.args.out.now.items c.grow.new.out.items c.put_short_string.new.buf
      (short_string_bytes c.args.value.now) c.grow.new.out.len c.in_ok-at.at (search rules) (search rules) (search rules) (search rules),
)
