-- `lay_short`: what it ensures.
use Rattle.amqp_fields_write.proofs
use proofs.Names.{numbers}
use proofs.Quick.{ascii_laid, tested}
use proofs.laying.lay_short.Goals as goal

pub returns-then-holds : goal.returns-then-holds
returns-then-holds g c =
    ascii_laid _ _ (grind numbers) (tested c.eights_are_ascii.ensures c.holds.ensures c.if-holds.true) c.lay_ends.ensures

pub returns-then-holds-2 : goal.returns-then-holds-2
returns-then-holds-2 g c =
    ascii_laid _ _ (grind numbers) (tested c.fours_are_ascii.ensures c.holds-then-n-le7.ensures c.if-holds-2.true)
    c.lay_ends-then-holds-2.ensures
