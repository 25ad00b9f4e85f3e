-- `last_of`: what it ensures.
use Rattle.std.proofs.Common.{◌++◌, List, ℕ, ap₂, refl, ◌∙◌}
use Rattle.amqp_recut.proofs.Piecing.{last_parts}
use Rattle.amqp_recut.proofs.pieces.last_of.Goals as goal

pub returns : goal.returns
returns c =
    c.in_ok-extend_from_slice.ensures.items
    ∙ ap₂ (λ (xs ys : List ℕ). xs ++ ys) c.in_ok-bytes.ensures.items refl
    ∙ last_parts c.args.front.now c.args.back.now c.args.count c.min-after.result c.min-after.ensures c.requires
