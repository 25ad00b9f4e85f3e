-- What frames give is what their outlines give.
use Rattle.std.proofs.Common.{◌≡◌, ℕ, cond, Bool, true, false, eqb, List, [], ◌∷◌, map, refl, sym, ap, subst, ◌∙◌, inl, inr}
use Rattle.std.proofs.lemmas.Bool.{cases_Bool}
use Rattle.std.proofs.lemmas.List.{map-append}
use Rattle.amqp_wire.specs.declared.outline.FrameOutline.{FrameOutline}
use Rattle.amqp_turns.specs.declared.mark.Mark.{Mark}
use Rattle.amqp_turns.specs.declared.mark.Mark.TheVariants as marks
use Rattle.amqp_turns.specs.declared.progress.Progress.TheVariants as progresses
use Rattle.amqp_turns.specs.Units.{is_content, size_in, bytes_in, Begun, Nothing, Headed}
use Rattle.amqp_turns.specs.Answers.{Answer, Within, Ends, Answers, fault_after}
use Rattle.amqp_turns.specs.Stands.{State, At, Lost}
use Rattle.amqp_turns.specs.Marks.{itself, begun_progress}
use Rattle.amqp_turns.specs.Steps.{mark_after, begun_with, step_marked, step, run_answers}
use Rattle.amqp_turns.specs.Outlined.{outlined_begun, outlined}
use Rattle.amqp_turns.proofs.Running.{answers_run, run_is_answers}

module _ {X : Type 0} (outline : X → FrameOutline) (max : ℕ) where
  abbrev outlined_state : State X → State FrameOutline
  outlined_state (At begun) = At (outlined_begun outline begun)
  outlined_state Lost = Lost

  abbrev outlined_step : Answer X × State X → Answer FrameOutline × State FrameOutline
  outlined_step pair = (outlined outline pair.0, outlined_state pair.1)

  same_bytes : (xs : List X) → bytes_in itself (map outline xs) ≡ bytes_in outline xs
  same_bytes [] = refl
  same_bytes (x ∷ xs) = rw (same_bytes xs) refl

  same_progress : (begun : Begun X) → begun_progress itself (outlined_begun outline begun) ≡ begun_progress outline begun
  same_progress (Headed opening header bodies) = rw (same_bytes bodies) refl
  same_progress begun = refl

  same_with : (begun : Begun X) (x : X) → outlined_begun outline (begun_with begun x) ≡ begun_with (outlined_begun outline begun) (outline x)
  same_with (Headed opening header bodies) x = rw (map-append outline bodies (x ∷ [])) refl
  same_with begun x = refl

  same_fault : (begun : Begun X) (x : X) → fault_after (outlined_begun outline begun) (outline x) ≡ fault_after begun (outline x)
  same_fault Nothing x = refl
  same_fault begun x = refl

  same_within : (begun : Begun X) (x : X) (ends : Bool)
      → cond ends (Ends (outlined_begun outline begun) (outline x), At Nothing)
      (Within (outlined_begun outline begun) (outline x), At (begun_with (outlined_begun outline begun) (outline x)))
      ≡ outlined_step (cond ends (Ends begun x, At Nothing) (Within begun x, At (begun_with begun x)))
  same_within begun x true = refl
  same_within begun x false = rw (same_with begun x) refl

  same_marked : (begun : Begun X) (x : X) (mark : Mark)
      → step_marked itself (outlined_begun outline begun) (outline x) mark ≡ outlined_step (step_marked outline begun x mark)
  same_marked begun x marks.Opening = same_within begun x false
  same_marked begun x marks.Header = same_within begun x (eqb 0 (size_in (outline x)))
  same_marked begun x (marks.Body before after size) = same_within begun x (eqb after size)
  same_marked begun x mark = refl

  same_step : (state : State X) (x : X) → step itself max (outlined_state state) (outline x) ≡ outlined_step (step outline max state x)
  same_step (At begun) x =
      let mark = mark_after max (begun_progress outline begun) (outline x) in
      elim (cases_Bool (is_content (outline x))) [
        | inl e ↦ rw (e, same_progress begun) (same_marked begun x mark)
        | inr e ↦ rw (e, same_fault begun x) refl
      ]
  same_step Lost x = refl

  same_run : (state : State X) (xs : List X)
      → run_answers itself max (outlined_state state) (map outline xs) ≡ map (outlined outline) (run_answers outline max state xs)
  same_run state [] = refl
  same_run state (x ∷ xs) =
      rw (same_step state x, same_run (step outline max state x).1 xs) refl

-- The outcomes of frames, with outlines in the place of the frames, are the outcomes of their outlines.
pub answers_outlined : {X : Type 0} (outline : X → FrameOutline) (max : ℕ) (xs : List X) (answers : List (Answer X))
    → Answers outline max xs answers → Answers itself max (map outline xs) (map (outlined outline) answers)
answers_outlined outline max xs answers h =
    let are : run_answers itself max (At Nothing) (map outline xs) ≡ map (outlined outline) answers =
    same_run outline max (At Nothing) xs ∙ ap (map (outlined outline)) (sym (answers_run outline max xs answers h)) in
    subst (λ rs. Answers itself max (map outline xs) rs) are (run_is_answers itself max (map outline xs))
