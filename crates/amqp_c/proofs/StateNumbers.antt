-- A step by numbers: what they say is kept, and that they can be given again.
use Rattle.std.proofs.Common.{◌≡◌, ℕ, true, false, eqb, if◌then◌else◌, Option, Some, None, Result, Ok, Err, refl, ◌∙◌, arith}
use Rattle.std.proofs.lemmas.Bool.Decides.{nat_tests}
use Rattle.amqp_wire.specs.declared.frame_type.AMQPFrameType.{AMQPFrameType}
use Rattle.amqp_wire.specs.declared.outline.FrameOutline.{FrameOutline}
use Rattle.amqp_turns.specs.declared.mark.Mark.{Mark}
use Rattle.amqp_turns.specs.declared.mark.Mark.TheVariants as marks
use Rattle.amqp_turns.specs.declared.progress.Progress.{Progress}
use Rattle.amqp_turns.specs.Units.{size_in}
use Rattle.amqp_turns.specs.Faults.{fault_number}
use Rattle.amqp_turns.specs.Steps.{mark_after, progress_after, progress_marked}
use Rattle.amqp_turns.proofs.Tracking.{tracks_step}
use Rattle.amqp_c.specs.declared.turns.ChannelState.{ChannelState}
use Rattle.amqp_c.specs.declared.turns.ChannelStep.{ChannelStep}
use Rattle.amqp_c.specs.declared.turns.NoStep.{NoStep}
use Rattle.amqp_c.specs.declared.turns.NoStep.TheVariants as none
use Rattle.amqp_c.specs.Statuses.{bad_argument}
use Rattle.amqp_c.specs.Turns.{IsOpen, StepsOn, fault_step, kept_headed, kept_plain, mark_by, outline_by, part_step, progress_in, refused_step, state_of}
use Rattle.amqp_c.specs.Turns.{step_to, stepped}

-- what is kept after a frame is open, where it was before
open_after : (max : ℕ) (progress : Option Progress) (outline : FrameOutline) → IsOpen progress → IsOpen (progress_after max progress outline)
open_after max progress outline h = grind (arith, nat_tests)

-- numbers that say what is kept are those of it, and it is open
kept_is : (s : ChannelState) (progress : Option Progress) → progress_in s ≡ Some progress → (s ≡ state_of progress) × IsOpen progress
kept_is s progress is = (grind (arith, nat_tests), grind (arith, nat_tests))

-- the numbers of what is kept can be given again
state_again : (progress : Option Progress) → IsOpen progress → progress_in (state_of progress) ≡ Some progress
state_again progress h = grind (arith, nat_tests)

-- ---- what a step returns, by the mark of the frame

-- what a step returns, by what was kept and the mark of the frame
abbrev pub made : ChannelState → ℕ → Result Mark NoStep → ChannelStep
made s size (Err none.State) = refused_step bad_argument
made s size (Err none.Type) = refused_step 10
made s size (Ok marks.Passed) = if eqb s.state 2 then step_to s else step_to (kept_plain s.state)
made s size (Ok marks.Opening) = part_step 1 false (kept_plain 1)
made s size (Ok marks.Header) = if eqb size 0 then part_step 2 true (kept_plain 0) else part_step 2 false (kept_headed size 0)
made s size (Ok (marks.Body before up_to whole)) =
    if eqb up_to whole then record (part_step 3 true (kept_plain 0)) { before = before; up_to = up_to; size = whole }
    else record (part_step 3 false (kept_headed whole up_to)) { before = before; up_to = up_to; size = whole }
made s size (Ok (marks.Fault fault)) = fault_step (fault_number fault)

made_is : (s : ChannelState) (size : ℕ) (progress : Option Progress) (outline : FrameOutline) (mark : Mark) → s ≡ state_of progress
    → (mark ≡ marks.Header → size_in outline ≡ size) → made s size (Ok mark) ≡ stepped mark (progress_marked progress outline mark)
made_is s size progress outline mark e sized = grind (arith, nat_tests)

-- the last body of a message
pub last_made : (s : ChannelState) (size before up_to whole : ℕ) (mark : Result Mark NoStep) (part : ChannelStep) (after : ChannelState)
    → mark ≡ Ok (marks.Body before up_to whole) → up_to ≡ whole → part ≡ part_step 3 true after → after ≡ kept_plain 0
    → record part { before = before; up_to = up_to; size = whole } ≡ made s size mark
last_made s size before up_to whole mark part after e same part_is after_is = grind (arith, nat_tests)

-- only a content header has the mark of one
sized : (max : ℕ) (progress : Option Progress) (kind : AMQPFrameType) (class method size : ℕ)
    → mark_after max progress (outline_by kind class method size) ≡ marks.Header → size_in (outline_by kind class method size) ≡ size
sized max progress kind class method size h = grind (arith, nat_tests)

after_is : (mark : Mark) (after : Option Progress) → (stepped mark after).after ≡ state_of after
after_is mark after = grind arith

-- ---- a step

by_kept : (max : ℕ) (s : ChannelState) (progress : Option (Option Progress)) (kind : Option AMQPFrameType) (class method size : ℕ) (result : ChannelStep)
    → progress_in s ≡ progress → result ≡ made s size (mark_by max progress kind class method size) → StepsOn max progress kind class method size result
by_kept max s None kind class method size result e is = is
by_kept max s (Some progress) None class method size result e is = is
by_kept max s (Some progress) (Some kind) class method size result e is =
    let outline = outline_by kind class method size in
    let mark = mark_after max progress outline in
    let after = progress_after max progress outline in
    let h = kept_is s progress e in
    let result_is = is ∙ made_is s size progress outline mark h.0 (sized max progress kind class method size) in
    record {
      result_is = result_is;
      again = rw (result_is, after_is mark after) (state_again after (open_after max progress outline h.1));
      tracks = λ content. tracks_step max progress after outline mark content refl refl;
    }

-- a step, by the mark that the frame has
pub steps_made : (max : ℕ) (s : ChannelState) (kind : Option AMQPFrameType) (class method size : ℕ) (mark : Result Mark NoStep) (result : ChannelStep)
    → mark ≡ mark_by max (progress_in s) kind class method size → result ≡ made s size mark
    → StepsOn max (progress_in s) kind class method size result
steps_made max s kind class method size mark result e is = grind (arith, by_kept)
