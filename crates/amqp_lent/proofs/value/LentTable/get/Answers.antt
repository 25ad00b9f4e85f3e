-- `LentTable::get`: what it ensures.
use Rattle.std.proofs.Common.{sym, ap, ◌∙◌}
use Rattle.amqp_types.specs.Settling.{last_at, value_at}
use Rattle.amqp_laws.proofs.Settling.{settles}
use Rattle.amqp_canonical.specs.Marks.{entries_in}
use Rattle.amqp_lent.proofs.value.LentTable.get.Goals as goal

pub returns : goal.returns
returns c =
    let all = settles (entries_in c.self.inside.depth_left c.self.inside.content.now) in
    c.value_of_key.ensures ∙ ap (λ key. last_at key (entries_in c.self.inside.depth_left c.self.inside.content.now)) c.as_bytes.ensures.value
    ∙ sym (all.last c.args.key.now) ∙ ap (value_at c.args.key.now) c.self.view_is
