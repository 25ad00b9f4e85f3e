-- `lay_field`: what it ensures.
use Rattle.amqp_fields_write.proofs
use proofs.Names.{arith}
use proofs.Quick.{never_laid}
use proofs.QuickFrames.{field_laid, no_field}
use proofs.laying_fields.lay_field.Goals as goal

pub returns-clause-laid : goal.returns-clause-laid
returns-clause-laid g c =
    field_laid _ _ _ _ c.in-Some.ensures.found c.lay_form-made.ensures

pub returns-in-None-clause-laid : goal.returns-in-None-clause-laid
returns-in-None-clause-laid g c =
    never_laid (no_field _ _ _ _ _ (c.first_of.ensures.none c.in-None.is)) (omega arith)
