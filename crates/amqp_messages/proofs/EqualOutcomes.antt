-- Outcomes are equal exactly where contracts see the same.
use Rattle.std.proofs.Common.{◌≡◌, true, true≢false, refl, sym, ap, subst, rules}
use Rattle.std.specs.Bool.{Decides}
use Rattle.amqp_frame.proofs.EqualFrames.{same_frame}
use Rattle.amqp_turns.specs.declared.fault.ContentFault.{ContentFault}
use Rattle.amqp_turns.specs.contracts.fault.ContentFaultPartialEq.TheImpl as fault
use Rattle.amqp_messages.proofs.EqualMessages.{same_message}
use Rattle.amqp_messages.specs.declared.outcome.Outcome.{Outcome}
use Rattle.amqp_messages.specs.declared.outcome.Outcome.TheVariants as outcomes
use Rattle.amqp_messages.specs.contracts.outcome.OutcomePartialEq.TheImpl as outcome

same_fault : (a b : ContentFault) → Decides (fault.ghosts.eq a b) (a ≡ b)
same_fault a b = search rules

outcome_same : (a b : Outcome) → outcome.ghosts.eq a b ≡ true → a ≡ b
outcome_same (outcomes.Passed a) (outcomes.Passed b) h = ap outcomes.Passed ((same_frame a b).0 h)
outcome_same outcomes.Held outcomes.Held h = refl
outcome_same (outcomes.Done a) (outcomes.Done b) h = ap outcomes.Done ((same_message a b).0 h)
outcome_same (outcomes.Fault a) (outcomes.Fault b) h = ap outcomes.Fault ((same_fault a b).0 h)
outcome_same a b h = absurd (true≢false (sym h))

outcome_itself : (a : Outcome) → outcome.ghosts.eq a a ≡ true
outcome_itself (outcomes.Passed a) = (same_frame a a).1 refl
outcome_itself outcomes.Held = refl
outcome_itself (outcomes.Done a) = (same_message a a).1 refl
outcome_itself (outcomes.Fault a) = (same_fault a a).1 refl

-- `==` of outcomes holds exactly where they are the same
pub same_outcome : (a b : Outcome) → Decides (outcome.ghosts.eq a b) (a ≡ b)
same_outcome a b = (outcome_same a b, λ e. let P : Outcome → Type 0 = λ x. outcome.ghosts.eq a x ≡ true in subst P e (outcome_itself a))
