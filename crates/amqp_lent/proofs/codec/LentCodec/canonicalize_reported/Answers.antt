-- `LentCodec::canonicalize_reported`: clause `run`.
use Rattle.std.proofs.Common.{sym}
use Rattle.amqp_lent.proofs.codec.LentCodec.canonicalize_reported.Goals as goal

pub returns-clause-run : goal.returns-clause-run
returns-clause-run g c = rw (sym c.lent_reported.ensures) (rw c.self.view_is at c.rewrite_reported.ensures.run)
