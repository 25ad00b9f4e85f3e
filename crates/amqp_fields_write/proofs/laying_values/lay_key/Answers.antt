-- `lay_key`: what it ensures.
use Rattle.amqp_fields_write.proofs
use proofs.Names.{ap, made_key}
use Rattle.amqp_fields_write.specs.Made.{own_index}
use proofs.Quick.{laid, nothing_laid}
use proofs.laying_values.lay_key.Goals as goal

pub returns-then-not-entries : goal.returns-then-not-entries
returns-then-not-entries g c =
    laid (ap (λ entries. made_key entries c.args.pool.now (own_index c.args.end c.args.inside.now) c.args.node.now) c.if-not-entries.true) nothing_laid
