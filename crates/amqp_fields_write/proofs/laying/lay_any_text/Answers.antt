-- `lay_any_text`: what it ensures.
use Rattle.amqp_fields_write.proofs
use proofs.Names.{numbers}
use proofs.Quick.{laid_after, tested, text_laid}
use proofs.laying.lay_any_text.Goals as goal

pub returns : goal.returns
returns g c =
    text_laid _ _ (grind (numbers, c.if-text-gt255.false)) (tested (λ is. is) c.is_fit.ensures c.if-not-is_fit.false)
    (laid_after c.lay-place.ensures c.lay_bytes.ensures)
