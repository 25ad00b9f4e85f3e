-- `TidyCanonicalFrameDecider::decide`: clause `decides`.
use Rattle.amqp_stream.proofs
use proofs.Names.{refl, sym, ◌∙◌}
use proofs.Deciding.{kept_by}
use proofs.canonical.TidyCanonicalFrameDecider.decide.Goals as goal

pub returns-in-Ok : goal.returns-in-Ok
returns-in-Ok c = record { decides = kept_by c.in-Ok.ensures (λ f. refl) (sym c.in-Ok.ensures.tidy ∙ c.if-judged.true) refl }
