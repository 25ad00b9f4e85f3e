-- Reading the properties that a mask says are set, one step at a time.
use Rattle.std.proofs.Common.{◌≡◌, ℕ, ◌+◌, Bool, List, ◌∷◌, drop, Option, sym, subst, ap, ◌∙◌}
use Rattle.amqp_types.specs.Judging.{Judged, took, ◌>>=◌}
use Rattle.amqp_types.specs.Answers.{Refuses}
use Rattle.amqp_types.specs.Flags.{flag_at}
use Rattle.amqp_types.specs.Slots.{Item, Form}
use Rattle.amqp_types.specs.Properties.{Property, property}
use Rattle.amqp_types.specs.PropertyJudging.{judge_optional, judge_set}
use Rattle.amqp_types.specs.declared.errors.ParserError.{ParserError}
use Rattle.amqp_types.proofs.Judged.{refuses_next}

-- what is refused after a property that was read is refused
pub set_refuses : (error : ParserError) (mask n bit : ℕ) (form : Form) (ps : List Property) (old new : List ℕ) (option : Option Item) (present : Bool)
    → present ≡ flag_at mask bit → judge_optional present form old ≡ took option n → new ≡ drop n old
    → Refuses error (judge_set mask ps new) → Refuses error (judge_set mask (property bit form ∷ ps) old)
unfolding judge_set
set_refuses error mask n bit form ps old new option present set one behind h =
    let P : Judged (Option Item) → Type 0 = λ j. Refuses error (j >>= λ x. judge_set mask ps (drop x.1 old) >>= λ y. took (x.0 ∷ y.0) (x.1 + y.1)) in
    let Q : List ℕ → Type 0 = λ bytes. Refuses error (judge_set mask ps bytes) in
    let first : judge_optional (flag_at mask bit) form old ≡ took option n = ap (λ b. judge_optional b form old) (sym set) ∙ one in
    subst P (sym first) (refuses_next error (judge_set mask ps (drop n old)) _ (subst Q behind h))
