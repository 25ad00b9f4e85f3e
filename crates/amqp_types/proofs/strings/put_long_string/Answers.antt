-- `put_long_string`: what it ensures.
use Rattle.std.proofs.Common.{length}
use Rattle.amqp_types.specs.Numbers.{bytes4, number_bytes}
use Rattle.amqp_types.proofs.Puts.{puts_then}
use Rattle.amqp_types.proofs.strings.put_long_string.Goals as goal

pub returns : goal.returns
returns c =
    puts_then _ _ _ c.args.at _ _ (number_bytes bytes4 (length c.args.value.now))
    c.args.value.now c.requires.room c.put_long_uint-place.ensures c.put_bytes.ensures
