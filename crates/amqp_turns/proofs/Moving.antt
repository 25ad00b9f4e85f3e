-- One frame more on what has begun: a unit is finished, or grows, or the frame is refused.
use Rattle.std.proofs.Common.{◌≡◌, ℕ, ◌+◌, eqb, leb, List, [], ◌∷◌, ◌++◌, append_assoc, refl, sym, ap, ◌∙◌, arith, inl, inr}
use Rattle.std.specs.List.{AllByRecursion}
use Rattle.std.proofs.lemmas.List.{append-nil}
use Rattle.std.proofs.lemmas.Bool.{cases_Bool}
use Rattle.std.proofs.lemmas.Bool.Decides.{nat_tests}
use Rattle.amqp_wire.specs.declared.outline.FrameOutline.{FrameOutline}
use Rattle.amqp_wire.specs.declared.outline.FrameOutline.TheVariants as outlines
use Rattle.amqp_turns.specs.Units.{is_opening_id, IsOpening, IsBody, size_in, count_in, bytes_in, Finished, Lone, Empty, Full, Begun, Nothing, Opened, Headed}
use Rattle.amqp_turns.specs.Units.{begun_frames, finished_frames, IsBegun, IsFinished}
use Rattle.amqp_turns.specs.Answers.{Answer, Within, Ends, Wrong, bodies_within, begun_answers, finished_answers, fault_after}
use Rattle.amqp_turns.specs.Stands.{State, At, Lost}
use Rattle.amqp_turns.specs.Steps.{begun_with, step}

-- ---- one more frame at the end

pub begun_with-frames : {X : Type 0} (begun : Begun X) (x : X) → begun_frames (begun_with begun x) ≡ begun_frames begun ++ x ∷ []
begun_with-frames Nothing x = refl
begun_with-frames begun x = refl

bodies_within-push : {X : Type 0} (opening header : X) (before xs : List X) (x : X)
    → bodies_within opening header before (xs ++ x ∷ []) ≡ bodies_within opening header before xs ++ Within (Headed opening header (before ++ xs)) x ∷ []
bodies_within-push opening header before [] x = rw append-nil refl
bodies_within-push opening header before (y ∷ ys) x =
    ap (λ rs. Within (Headed opening header before) y ∷ rs) (bodies_within-push opening header (before ++ y ∷ []) ys x ∙ rw append_assoc refl)

pub begun_with-answers : {X : Type 0} (begun : Begun X) (x : X) → begun_answers (begun_with begun x) ≡ begun_answers begun ++ Within begun x ∷ []
begun_with-answers (Headed opening header bodies) x =
    ap (λ rs. Within Nothing opening ∷ Within (Opened opening) header ∷ rs) (bodies_within-push opening header [] bodies x)
begun_with-answers begun x = refl

-- What holds of all of two lists holds of all of them together.
pub all-append : {X : Type 0} (P : X → Type 0) (xs ys : List X) → AllByRecursion P xs → AllByRecursion P ys → AllByRecursion P (xs ++ ys)
all-append P [] ys h g = g
all-append P (x ∷ xs) ys h g = (h.0, all-append P xs ys h.1 g)

module _ {X : Type 0} (outline : X → FrameOutline) where
  -- With one frame more, the body bytes are those before and those that it carries.
  pub bytes_in-push : (xs : List X) (x : X) → bytes_in outline (xs ++ x ∷ []) ≡ bytes_in outline xs + count_in (outline x)
  bytes_in-push [] x = omega arith
  bytes_in-push (y ∷ ys) x = omega (arith, bytes_in-push ys x)

  -- what a frame does to what has begun
  pub data Moved (max : ℕ) (begun : Begun X) (x : X) (next : Answer X × State X) : Type 0 where
    closes : (unit : Finished X) → IsFinished outline max unit → finished_frames unit ≡ begun_frames begun ++ x ∷ []
        → finished_answers unit ≡ begun_answers begun ++ next.0 ∷ [] → next.1 ≡ At Nothing → Moved max begun x next
    grows : (more : Begun X) → IsBegun outline max more → begun_frames more ≡ begun_frames begun ++ x ∷ []
        → begun_answers more ≡ begun_answers begun ++ next.0 ∷ [] → next.1 ≡ At more → Moved max begun x next
    refused : next.0 ≡ Wrong (fault_after begun (outline x)) → next.1 ≡ Lost → Moved max begun x next

  refuse : (max : ℕ) (begun : Begun X) (x : X) (next : Answer X × State X) → next ≡ (Wrong (fault_after begun (outline x)), Lost) → Moved max begun x next
  refuse max begun x next e = refused (ap (λ (p : Answer X × State X). p.0) e) (ap (λ (p : Answer X × State X). p.1) e)

  grow : (max : ℕ) (begun : Begun X) (x : X) (next : Answer X × State X) → IsBegun outline max (begun_with begun x)
      → next ≡ (Within begun x, At (begun_with begun x)) → Moved max begun x next
  grow max begun x next h e =
      grows (begun_with begun x) h (begun_with-frames begun x)
      (begun_with-answers begun x ∙ ap (λ (p : Answer X × State X). begun_answers begun ++ p.0 ∷ []) (sym e)) (ap (λ (p : Answer X × State X). p.1) e)

  close : (max : ℕ) (begun : Begun X) (x : X) (next : Answer X × State X) (unit : Finished X)
      → IsFinished outline max unit → finished_frames unit ≡ begun_frames begun ++ x ∷ []
      → finished_answers unit ≡ begun_answers begun ++ Ends begun x ∷ [] → next ≡ (Ends begun x, At Nothing) → Moved max begun x next
  close max begun x next unit h frames answers e =
      closes unit h frames (answers ∙ ap (λ (p : Answer X × State X). begun_answers begun ++ p.0 ∷ []) (sym e)) (ap (λ (p : Answer X × State X). p.1) e)

  -- ---- between units, after an opening, and after a content header

  moved_nothing : (max : ℕ) (x : X) (o : FrameOutline) → outline x ≡ o → Moved max Nothing x (step outline max (At Nothing) x)
  moved_nothing max x (outlines.Method channel class id) e = elim (cases_Bool (is_opening_id class id)) [
    | inl opens ↦ grow max Nothing x _ (rw e opens) (rw (e, opens) refl)
    | inr other ↦ closes (Lone x) (rw e other) refl (rw (e, other) refl) (rw (e, other) refl)
  ]
  moved_nothing max x o e = refuse max Nothing x _ (rw e refl)

  moved_opened : (max : ℕ) (opening x : X) (o : FrameOutline) → IsOpening (outline opening)
      → outline x ≡ o → Moved max (Opened opening) x (step outline max (At (Opened opening)) x)
  moved_opened max opening x (outlines.Header channel class size) h e = elim (cases_Bool (eqb class 60)) [
    | inl basic ↦ elim (cases_Bool (leb size max)) [
      | inl fit ↦ elim (cases_Bool (eqb 0 size)) [
        | inl none ↦
            close max (Opened opening) x _ (Empty opening x)
            (h, rw e (grind (arith, nat_tests)), rw e (grind (arith, nat_tests))) refl refl (rw (e, basic, fit, e, none) refl)
        | inr some ↦
            grow max (Opened opening) x _ (h, rw e (grind (arith, nat_tests)), rw e (grind (arith, nat_tests)), tt, rw e (grind (arith, nat_tests)))
            (rw (e, basic, fit, e, some) refl)
      ]
      | inr large ↦ refuse max (Opened opening) x _ (rw (e, basic, large) refl)
    ]
    | inr other ↦ refuse max (Opened opening) x _ (rw (e, other) refl)
  ]
  moved_opened max opening x o h e = refuse max (Opened opening) x _ (rw e refl)

  moved_headed : (max : ℕ) (opening header : X) (bodies : List X) (x : X) (o : FrameOutline) → IsBegun outline max (Headed opening header bodies)
      → outline x ≡ o → Moved max (Headed opening header bodies) x (step outline max (At (Headed opening header bodies)) x)
  moved_headed max opening header bodies x (outlines.Body channel count) h e =
      let size = size_in (outline header) in
      let seen = bytes_in outline bodies + count in
      elim (cases_Bool (leb seen size)) [
        | inl fit ↦ elim (cases_Bool (eqb seen size)) [
          | inl all ↦
              close max (Headed opening header bodies) x _ (Full opening header bodies x)
              (h, rw e tt, rw e (grind (arith, nat_tests))) refl refl (rw (e, fit, all) refl)
          | inr some ↦
              let is : IsBody (outline x) = rw e tt in
              let counts : count_in (outline x) ≡ count = rw e refl in
              let sum = bytes_in-push bodies x in
              grow max (Headed opening header bodies) x _
              (h.0, h.1, h.2, all-append (λ y. IsBody (outline y)) bodies (x ∷ []) h.3 (is, tt), grind (arith, nat_tests)) (rw (e, fit, some) refl)
        ]
        | inr beyond ↦ refuse max (Headed opening header bodies) x _ (rw (e, beyond) refl)
      ]
  moved_headed max opening header bodies x o h e = refuse max (Headed opening header bodies) x _ (rw e refl)

  -- each frame does one of the three
  pub moved : (max : ℕ) (begun : Begun X) (x : X) → IsBegun outline max begun → Moved max begun x (step outline max (At begun) x)
  moved max Nothing x h = moved_nothing max x (outline x) refl
  moved max (Opened opening) x h = moved_opened max opening x (outline x) h refl
  moved max (Headed opening header bodies) x h = moved_headed max opening header bodies x (outline x) h refl
