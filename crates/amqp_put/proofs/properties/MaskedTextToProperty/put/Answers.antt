-- Nothing is put where it is not set.
use Rattle.std.proofs.Common.{Bool, ap}
use Rattle.amqp_types.specs.Strings.{short_string_bytes}
use Rattle.amqp_types.proofs.Puts.{puts_none}
use Rattle.amqp_put.specs.Properties.{bytes_if}
use Rattle.amqp_put.proofs.properties.MaskedTextToProperty.put.Goals as goal

pub returns-else-self : goal.returns-else-self
returns-else-self c = puts_none _ _ _ (ap (λ (set : Bool). bytes_if set (short_string_bytes c.args.self.now.text.now.now)) c.if-self.false)
