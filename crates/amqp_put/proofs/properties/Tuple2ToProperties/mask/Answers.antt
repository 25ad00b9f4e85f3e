-- The mask of the first and of those that follow it.
use Rattle.std.proofs.Common.{ap, ◌∙◌, ◌+◌, ℕ, Bool, if◌then◌else◌}
use Rattle.amqp_put.proofs.Masks.{mask_both}
use Rattle.amqp_put.proofs.properties.Tuple2ToProperties.mask.Goals as goal

pub returns-clause-bits : goal.returns-clause-bits
returns-clause-bits g c = λ bit is few.
    ap (λ (n : ℕ). n + c.mask.result) (c.worth_if-first.ensures.value ∙ ap (λ (set : Bool). if set then c.args.worth else 0) c.is_set.ensures)
    ∙ mask_both c.args.worth c.mask.result bit _ _ _ _ is few c.mask.ensures.bits
