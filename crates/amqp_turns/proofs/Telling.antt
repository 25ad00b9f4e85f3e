-- What an assembler keeps decides what one more frame gives, and what to keep after it.
use Rattle.std.proofs.Common.{◌≡◌, ℕ, ◌+◌, true, eqb, leb, List, [], ◌∷◌, ◌++◌, length, refl, sym, ap₂, arith, Option, Some, None, inl, inr}
use Rattle.std.proofs.lemmas.Bool.{cases_Bool}
use Rattle.std.proofs.lemmas.List.{append-nil, append_assoc, length-append}
use Rattle.amqp_types.specs.ContentHeaders.{ContentHeader}
use Rattle.amqp_wire.specs.Frames.{Frame, Proto, Meth, Head, Body, Beat, BadBeat}
use Rattle.amqp_wire.specs.Outlines.{outline_of}
use Rattle.amqp_turns.specs.declared.fault.ContentFault.{ContentFault}
use Rattle.amqp_turns.specs.declared.fault.ContentFault.TheVariants as faults
use Rattle.amqp_turns.specs.declared.mark.Mark.TheVariants as marks
use Rattle.amqp_turns.specs.declared.progress.Progress.TheVariants as progresses
use Rattle.amqp_turns.specs.Units.{is_content, is_opening_id, size_in, count_in, bytes_in, Nothing, Opened, Headed}
use Rattle.amqp_turns.specs.Stands.{State, At}
use Rattle.amqp_turns.specs.Marks.{progress_of}
use Rattle.amqp_turns.specs.Steps.{mark_after, step}
use Rattle.amqp_turns.specs.Messages.{header_in, bytes_of, joined}
use Rattle.amqp_turns.specs.Outcomes.{OutcomeView, answer_outcome, Kept, message, fault, kept_of, kept_progress, marked_outcome, kept_marked, mark_kept, Pushes}
use Rattle.amqp_turns.specs.Outcomes.{IsMessage, IsHeadedThere, with_header}
use Rattle.amqp_turns.proofs.Running.{advance}

-- With one body more, the joined bytes are those before and its own.
pub joined-push : (frames : List Frame) (frame : Frame) → joined (frames ++ frame ∷ []) ≡ joined frames ++ bytes_of frame
joined-push [] frame = append-nil (bytes_of frame)
joined-push (f ∷ fs) frame = rw (joined-push fs frame) (sym (append_assoc (bytes_of f) (joined fs) (bytes_of frame)))

size_kept : (frame : Frame) → (header_in frame).body_size ≡ size_in (outline_of frame)
size_kept (Proto major minor revision) = refl
size_kept frame = refl

count_kept : (frame : Frame) → length (bytes_of frame) ≡ count_in (outline_of frame)
count_kept (Proto major minor revision) = refl
count_kept frame = refl

-- The joined bytes of frames are as many as the body bytes that they carry.
pub length-joined : (frames : List Frame) → length (joined frames) ≡ bytes_in outline_of frames
length-joined [] = refl
length-joined (f ∷ fs) = omega (arith, length-append (bytes_of f) (joined fs), count_kept f, length-joined fs)

-- an assembler's state says what a tracker's does
pub same_progress : (state : State Frame) → kept_progress (kept_of state) ≡ progress_of outline_of state
same_progress (At (Headed opening header bodies)) = ap₂ (λ size seen. Some (progresses.Headed size seen)) (size_kept header) (length-joined bodies)
same_progress (At Nothing) = refl
same_progress state = refl

-- what a step gives, and what is kept after it
record IsStepOutcome (max : ℕ) (state : State Frame) (frame : Frame) : Type 0 where
  outcome_is : answer_outcome (step outline_of max state frame).0
      ≡ marked_outcome (kept_of state) frame (mark_after max (progress_of outline_of state) (outline_of frame))
  kept_is : kept_of (step outline_of max state frame).1 ≡ kept_marked (kept_of state) frame (mark_after max (progress_of outline_of state) (outline_of frame))

step_outcome : (max : ℕ) (state : State Frame) (frame : Frame) → is_content (outline_of frame) ≡ true → IsStepOutcome max state frame
step_outcome max state (Proto major minor revision) h = absurd cc
step_outcome max state Beat h = absurd cc
step_outcome max state (BadBeat channel) h = absurd cc
step_outcome max (At Nothing) (Meth channel m) h = elim (cases_Bool (is_opening_id m.class m.id)) [
  | inl opens ↦ record { outcome_is = rw opens refl; kept_is = rw opens refl }
  | inr other ↦ record { outcome_is = rw other refl; kept_is = rw other refl }
]
step_outcome max (At (Opened opening)) (Head channel header) h = elim (cases_Bool (eqb header.class_id 60)) [
  | inl basic ↦ elim (cases_Bool (leb header.body_size max)) [
    | inl fit ↦ elim (cases_Bool (eqb 0 header.body_size)) [
      | inl none ↦ record { outcome_is = rw (basic, fit, none) refl; kept_is = rw (basic, fit, none) refl }
      | inr some ↦ record { outcome_is = rw (basic, fit, some) refl; kept_is = rw (basic, fit, some) refl }
    ]
    | inr large ↦ record { outcome_is = rw (basic, large) refl; kept_is = rw (basic, large) refl }
  ]
  | inr other ↦ record { outcome_is = rw other refl; kept_is = rw other refl }
]
step_outcome max (At (Headed opening header bodies)) (Body channel content) h =
    let size = size_in (outline_of header) in
    let seen = bytes_in outline_of bodies + length content in
    let more = joined-push bodies (Body channel content) in
    elim (cases_Bool (leb seen size)) [
      | inl fit ↦ elim (cases_Bool (eqb seen size)) [
        | inl all ↦ record { outcome_is = rw (fit, all, more) refl; kept_is = rw (fit, all) refl }
        | inr some ↦ record { outcome_is = rw (fit, some) refl; kept_is = rw (fit, some, more) refl }
      ]
      | inr beyond ↦ record { outcome_is = rw beyond refl; kept_is = rw beyond refl }
    ]
step_outcome max (At Nothing) frame h = record { outcome_is = refl; kept_is = refl }
step_outcome max state frame h = record { outcome_is = refl; kept_is = refl }

-- an assembler that gives and keeps so keeps its promise
pub pushes_step : (max : ℕ) (before after : Option Kept) (frame : Frame) (outcome : OutcomeView)
    → is_content (outline_of frame) ≡ true → outcome ≡ marked_outcome before frame (mark_kept max before frame)
    → after ≡ kept_marked before frame (mark_kept max before frame) → Pushes max before after frame outcome
pushes_step max before after frame outcome content gives keeps = record {
  gives = λ frames h.
      let step = step_outcome max h.state frame content in
      record {
        answer = _;
        last = (advance outline_of max frames h.state frame h.stands).last;
        is = rw (gives, h.is, same_progress h.state) (sym step.outcome_is);
      };
  stands = λ frames h.
      let step = step_outcome max h.state frame content in
      record {
        state = _;
        stands = (advance outline_of max frames h.state frame h.stands).stands;
        is = rw (keeps, h.is, same_progress h.state) (sym step.kept_is);
      };
}

-- ---- content headers in an assembler

-- A message that is given a content header has one.
pub headed_there : (kept : Option Kept) (header : ContentHeader) → IsMessage kept → IsHeadedThere (with_header kept header)
headed_there None header h = absurd h
headed_there (Some (message opening before body)) header h = tt
headed_there (Some fault) header h = absurd h

-- the mark of a content header is no fault only after an opening
pub record IsHeaderTaken (max : ℕ) (kept : Option Kept) (channel : ℕ) (header : ContentHeader) : Type 0 where
  pub mark_is : mark_kept max kept (Head channel header) ≡ marks.Header
  pub begun : IsMessage kept

-- A content header whose mark is no fault comes where a message has begun, and has the mark of a header.
pub header_taken : (max : ℕ) (kept : Option Kept) (channel : ℕ) (header : ContentHeader)
    → ((bad : ContentFault) → mark_kept max kept (Head channel header) ≡ marks.Fault bad → ⊥) → IsHeaderTaken max kept channel header
header_taken max None channel header none = absurd (none faults.UnexpectedHeader refl)
header_taken max (Some (message opening None body)) channel header none = elim (cases_Bool (eqb header.class_id 60)) [
  | inl basic ↦ elim (cases_Bool (leb header.body_size max)) [
    | inl fit ↦ record { mark_is = rw (basic, fit) refl; begun = tt }
    | inr large ↦ absurd (none faults.BodyTooLarge (rw (basic, large) refl))
  ]
  | inr other ↦ absurd (none faults.WrongClass (rw other refl))
]
header_taken max (Some (message opening (Some before) body)) channel header none = absurd (none faults.UnexpectedHeader refl)
header_taken max (Some fault) channel header none = absurd (none faults.Faulted refl)
