-- What a tracker keeps decides the mark of one more frame, and what to keep after it.
use Rattle.std.proofs.Common.{◌≡◌, ℕ, ◌+◌, true, eqb, leb, List, [], ◌∷◌, ◌++◌, refl, sym, ap, ◌∙◌, Option, Some, None, inl, inr}
use Rattle.std.proofs.lemmas.Bool.{cases_Bool}
use Rattle.amqp_wire.specs.declared.outline.FrameOutline.{FrameOutline}
use Rattle.amqp_wire.specs.declared.outline.FrameOutline.TheVariants as outlines
use Rattle.amqp_turns.specs.declared.mark.Mark.{Mark}
use Rattle.amqp_turns.specs.declared.progress.Progress.{Progress}
use Rattle.amqp_turns.specs.declared.progress.Progress.TheVariants as kept
use Rattle.amqp_turns.specs.Units.{is_content, is_opening_id, size_in, count_in, bytes_in, Begun, Nothing, Opened, Headed}
use Rattle.amqp_turns.specs.Stands.{State, At, Lost, kept_at}
use Rattle.amqp_turns.specs.Marks.{itself, progress_of, mark_of, TrackerStands, Tracks}
use Rattle.amqp_turns.specs.Steps.{mark_after, progress_marked, progress_after, step}
use Rattle.amqp_turns.proofs.Moving.{bytes_in-push}
use Rattle.amqp_turns.proofs.Running.{advance, stands_nothing}

module _ {X : Type 0} (outline : X → FrameOutline) (max : ℕ) where
  -- the mark of a step, and what is kept after it
  pub record IsStepMarked (state : State X) (x : X) : Type 0 where
    pub mark_is : mark_of outline (step outline max state x).0 ≡ mark_after max (progress_of outline state) (outline x)
    pub progress_is : progress_of outline (step outline max state x).1 ≡ progress_after max (progress_of outline state) (outline x)

  marked_at : (begun : Begun X) (x : X) (o : FrameOutline) → outline x ≡ o → is_content o ≡ true → IsStepMarked (At begun) x
  marked_at begun x outlines.ProtocolHeader e h = absurd cc
  marked_at begun x (outlines.Heartbeat channel) e h = absurd cc
  marked_at Nothing x (outlines.Method channel class id) e h = elim (cases_Bool (is_opening_id class id)) [
    | inl opens ↦ record { mark_is = rw (e, opens, e) refl; progress_is = rw (e, opens) refl }
    | inr other ↦ record { mark_is = rw (e, other) refl; progress_is = rw (e, other) refl }
  ]
  marked_at (Opened opening) x (outlines.Header channel class size) e h = elim (cases_Bool (eqb class 60)) [
    | inl basic ↦ elim (cases_Bool (leb size max)) [
      | inl fit ↦ elim (cases_Bool (eqb 0 size)) [
        | inl none ↦ record { mark_is = rw (e, basic, fit, e, none, e) refl; progress_is = rw (e, basic, fit, e, none) refl }
        | inr some ↦ record { mark_is = rw (e, basic, fit, e, some, e) refl; progress_is = rw (e, basic, fit, e, some, e) refl }
      ]
      | inr large ↦ record { mark_is = rw (e, basic, large) refl; progress_is = rw (e, basic, large) refl }
    ]
    | inr other ↦ record { mark_is = rw (e, other) refl; progress_is = rw (e, other) refl }
  ]
  marked_at (Headed opening header bodies) x (outlines.Body channel count) e h =
      let size = size_in (outline header) in
      let seen = bytes_in outline bodies + count in
      elim (cases_Bool (leb seen size)) [
        | inl fit ↦ elim (cases_Bool (eqb seen size)) [
          | inl all ↦ record { mark_is = rw (e, fit, all, e) refl; progress_is = rw (e, fit, all) refl }
          | inr some ↦
              let after : bytes_in outline (bodies ++ x ∷ []) ≡ seen = bytes_in-push outline bodies x ∙ ap (λ o. bytes_in outline bodies + count_in o) e in
              record { mark_is = rw (e, fit, some, e) refl; progress_is = rw (e, fit, some) (ap (λ n. Some (kept.Headed size n)) after) }
        ]
        | inr beyond ↦ record { mark_is = rw (e, beyond) refl; progress_is = rw (e, beyond) refl }
      ]
  marked_at begun x o e h = record { mark_is = rw e refl; progress_is = rw e refl }

  marked_lost : (x : X) (o : FrameOutline) → outline x ≡ o → is_content o ≡ true → IsStepMarked Lost x
  marked_lost x outlines.ProtocolHeader e h = absurd cc
  marked_lost x (outlines.Heartbeat channel) e h = absurd cc
  marked_lost x o e h = record { mark_is = rw e refl; progress_is = rw e refl }

  pub step_marked_is : (state : State X) (x : X) → is_content (outline x) ≡ true → IsStepMarked state x
  step_marked_is (At begun) x h = marked_at begun x (outline x) refl h
  step_marked_is Lost x h = marked_lost x (outline x) refl h

-- a tracker that marks and keeps so keeps its promise
pub tracks_step : (max : ℕ) (before after : Option Progress) (outline : FrameOutline) (mark : Mark) → is_content outline ≡ true
    → mark ≡ mark_after max before outline → after ≡ progress_marked before outline mark → Tracks max before after outline mark
tracks_step max before after outline mark content is kept = record {
  marked = λ outlines h.
      let step = step_marked_is itself max h.state outline content in
      record {
        answer = _;
        last = (advance itself max outlines h.state outline h.stands).last;
        is = rw (is, h.is) (sym step.mark_is);
      };
  stands = λ outlines h.
      let step = step_marked_is itself max h.state outline content in
      record {
        state = _;
        stands = (advance itself max outlines h.state outline h.stands).stands;
        is = rw (kept, is, h.is) (sym step.progress_is);
      };
}

-- nothing is kept of a channel that has had no outline
pub nothing_tracked : (max : ℕ) (progress : Option Progress) → progress ≡ None → TrackerStands max [] progress
nothing_tracked max progress none = record { state = At Nothing; stands = stands_nothing itself max; is = none }

-- nothing is kept before the first outline
pub none_tracked : (max : ℕ) (channels : List (ℕ × Progress)) → channels ≡ [] → (channel : ℕ) → TrackerStands max [] (kept_at channels channel)
none_tracked max channels none channel = nothing_tracked max (kept_at channels channel) (ap (λ cs. kept_at cs channel) none)
