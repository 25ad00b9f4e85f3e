-- What was put is what is generated.
use Rattle.std.proofs.Common.{◌≡◌, ℕ, ◌+◌, List, ◌++◌, length, take, drop, Option, Ok, refl, sym, ap, ◌∙◌}
use Rattle.std.proofs.lemmas.List.{take_at}
use Rattle.amqp_types.specs.Writing.{written}
use Rattle.amqp_wire.specs.Canonical.{canon}
use Rattle.amqp_wire.specs.Frames.{Frame, Meth}
use Rattle.amqp_entries.specs.declared.errors.PutError.{PutError}
use Rattle.amqp_put.specs.Made.{MakesBytes}
use Rattle.amqp_put_laws.specs.PutLaws.{Generated, IsInFront, PutIsGenerated}

-- what was put stands in front
pub in_front : (old new bytes : List ℕ) → new ≡ written old 0 bytes → new ≡ bytes ++ drop (0 + length bytes) old
unfolding written
in_front old new bytes is = is

same : (n : ℕ) (typed frame : Frame) (flaw : Option PutError) (old new before after : List ℕ)
    → typed ≡ frame → MakesBytes old new flaw (canon frame) (Ok n) → Generated before after typed → IsInFront before after new n
same n typed frame flaw old new before after is made generated =
    let bytes = canon frame in
    let rest : List ℕ = drop (0 + length bytes) old in
    let taken : take (length bytes) new ≡ bytes = ap (take (length bytes)) (in_front old new bytes made.2) ∙ take_at bytes rest (length bytes) refl in
    let first : take n new ≡ bytes = ap (λ (k : ℕ). take k new) made.1 ∙ taken in
    generated.1 ∙ ap (λ (bs : List ℕ). before ++ bs) (ap canon is ∙ sym first)

-- what was put is what is generated for the typed struct
pub same_generated : PutIsGenerated
same_generated = record {
  method = λ channel max n class m flaw old new before after is made generated.
      same n _ (Meth channel m) _ old new before after (ap (Meth channel) is) made generated;
  frame = λ max n typed frame flaw old new before after is made generated. same n _ frame _ old new before after is made generated;
  eight = λ n typed frame old new before after is made generated. same n _ frame _ old new before after is made generated;
}
