-- `parse_line`: what it ensures.
use Rattle.std.proofs.Common.{List, ℕ, ◌++◌, ap, ◌∙◌}
use Rattle.amqp_text.proofs.OneLine.{parsed}
use Rattle.amqp_text.proofs.one_line.parse_line.Goals as goal

pub returns-in-Ok : goal.returns-in-Ok
returns-in-Ok c =
    let read = c.in_ok-undump_line.ensures in
    let canonical = c.deref.ensures.value ∙ read.2 ∙ ap (λ (bytes : List ℕ). bytes ++ read.0) c.new-canonical.ensures.items in
    parsed c.in-Ok.frame _ read.1 canonical c.in-Ok.ensures.judged
