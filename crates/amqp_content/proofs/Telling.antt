-- What is taken of a frame is what the frames of its channel so far give; and the mark of a method.
use Rattle.std.proofs.Common.{◌≡◌, ℕ, Option, None, Some, Result, Ok, Err, refl}
use Rattle.std.specs.Prelude.{IfOk, IsTrue, OnErr, OnOk}
use Rattle.amqp_types.specs.Methods.{Method}
use Rattle.amqp_types.specs.declared.errors.NoMemory.{NoMemory}
use Rattle.amqp_wire.specs.Frames.{Frame, Meth}
use Rattle.amqp_turns.proofs.Telling.{pushes_step}
use Rattle.amqp_turns.specs.declared.fault.ContentFault.{ContentFault}
use Rattle.amqp_turns.specs.declared.mark.Mark.TheVariants as marks
use Rattle.amqp_turns.specs.Outcomes.{Kept, TakesFrame, fault, mark_kept, message, wrong}
use Rattle.amqp_turns.specs.Steps.{method_mark}
use Rattle.amqp_turns.specs.Units.{is_opening_id}
use Rattle.amqp_messages.specs.Outcomes.{outcome_of}
use Rattle.amqp_messages.specs.declared.outcome.Outcome.{Outcome}
use Rattle.amqp_content.specs.Laws.{TakenIsAnswered}
use Rattle.amqp_content.specs.Memory.{NeedsMemoryWith}

-- a frame that is taken by its mark gives what the last of the frames of its channel so far gives
pub taken : TakenIsAnswered
taken old new frame outcome content h = pushes_step old.max_body _ _ frame outcome content h.gives h.keeps

-- a method that is not at fault is an opening or is passed
pub method_taken : (max : ℕ) (kept : Option Kept) (channel : ℕ) (m : Method)
    → ((bad : ContentFault) → mark_kept max kept (Meth channel m) ≡ marks.Fault bad → ⊥)
    → mark_kept max kept (Meth channel m) ≡ method_mark m.class m.id
method_taken max None channel m h = refl
method_taken max (Some (message opening None body)) channel m h = absurd (h _ refl)
method_taken max (Some (message opening (Some header) body)) channel m h = absurd (h _ refl)
method_taken max (Some fault) channel m h = absurd (h _ refl)

-- of such a method memory may run out at an opening, where nothing is kept
pub opening_needs : {A : Type 0} (max : ℕ) (kept : Option Kept) (channel : ℕ) (m : Method) (r : Result A NoMemory)
    → mark_kept max kept (Meth channel m) ≡ method_mark m.class m.id → OnErr r (IsTrue (is_opening_id m.class m.id)) → OnErr r (kept ≡ None)
    → OnErr r (NeedsMemoryWith max kept (Meth channel m))
opening_needs max kept channel m (Ok x) is opens absent = tt
opening_needs max kept channel m (Err error) is opens absent = rw (is, opens) absent

-- a frame at fault leaves that of its channel, and nothing else
pub fault_taken : (before after : Option Kept) (frame : Frame) (bad : ContentFault) (r : Result Outcome NoMemory)
    → IfOk r (λ outcome. outcome_of outcome ≡ wrong bad) → OnOk r (after ≡ Some fault)
    → IfOk r (λ outcome. TakesFrame before after frame (marks.Fault bad) (outcome_of outcome))
fault_taken before after frame bad (Ok outcome) gives keeps = record { gives = gives; keeps = keeps }
fault_taken before after frame bad (Err error) gives keeps = tt
