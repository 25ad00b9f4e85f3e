-- `put_tagged`: one put after another.
use Rattle.std.proofs.Common.{[], ◌∷◌}
use Rattle.amqp_types.proofs.Puts.{puts_then}
use Rattle.amqp_entries.proofs.puts.put_tagged.Goals as goal

pub returns : goal.returns
returns c = puts_then _ _ _ _ _ _ (c.args.tag ∷ []) _ c.requires.room c.put_bytes-place.ensures c.put_bytes.ensures
