-- `last_entries_win`: what it ensures.
use Rattle.std.proofs.Common.{ap, ◌∙◌}
use Rattle.amqp_fields.proofs.Names.{value_at}
use Rattle.amqp_laws.proofs.Settling.{settles}
use Rattle.amqp_fields.proofs.laws.last_entries_win.Goals as goal

pub returns : goal.returns
returns c deep payload node inside table listed key = ap (value_at key) listed.settles ∙ (settles listed.entries).last key
