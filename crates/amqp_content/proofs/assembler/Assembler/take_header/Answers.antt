-- `Assembler::take_header`: what calls require.
use Rattle.std.proofs.Common.{sym, subst}
use Rattle.amqp_content.specs.Outcomes.{IsHeadedThere}
use Rattle.amqp_turns.proofs.Telling.{headed_there}
use Rattle.amqp_content.proofs.assembler.Assembler.take_header.Goals as goal

pub complete-requires : goal.complete-requires
complete-requires c = subst IsHeadedThere (sym c.set_header.ensures.kept) (headed_there _ _ c.requires)
