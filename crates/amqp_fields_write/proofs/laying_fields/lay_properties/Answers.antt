-- `lay_properties`: what it ensures.
use Rattle.amqp_fields_write.proofs
use proofs.Names.{ap, ◌∙◌, arith, numbers, bytes2, number_bytes, made_properties}
use proofs.PropertiesMade.{bits_from}
use proofs.Quick.{bytes_as, later_laid, later_lost}
use proofs.laying_fields.lay_properties.Goals as goal

pub returns : goal.returns
unfolding made_properties
returns g c =
    later_laid (number_bytes bytes2 (bits_from 0 c.args.nodes.now)) c.lay_set-made.ensures.laid c.plus-start.ensures (λ some.
    bytes_as (c.to_be_bytes.ensures ∙ ap (number_bytes bytes2) (c.lay_set-made.ensures.mask some)) c.lay.ensures) (grind numbers)

pub returns-then-lay : goal.returns-then-lay
unfolding made_properties
returns-then-lay g c =
    later_lost (number_bytes bytes2 (bits_from 0 c.args.nodes.now)) c.lay_set-made.ensures.laid c.plus-start.ensures (λ some.
    bytes_as (c.to_be_bytes.ensures ∙ ap (number_bytes bytes2) (c.lay_set-made.ensures.mask some)) c.lay.ensures) (grind numbers) (omega arith)
