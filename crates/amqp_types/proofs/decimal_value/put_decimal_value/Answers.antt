-- `put_decimal_value`: what it ensures.
use Rattle.amqp_types.specs.Numbers.{bytes1, bytes4, number_bytes}
use Rattle.amqp_types.proofs.Puts.{puts_then}
use Rattle.amqp_types.proofs.decimal_value.put_decimal_value.Goals as goal

pub returns : goal.returns
returns c =
    puts_then _ _ _ c.args.at _ _ (number_bytes bytes1 c.args.value.now.scale)
    (number_bytes bytes4 c.args.value.now.value) c.requires.room c.put_short_short_uint-place.ensures c.put_long_uint.ensures
