-- What a writer returns for one frame, by what was judged of it.
use Rattle.amqp_turns.specs as turns
use Rattle.amqp_stream.specs as stream
use Rattle.amqp_in_turn.specs
use Rattle.std.proofs.lemmas.Grind.{common_steps}
use Rattle.std.proofs.Common.{◌≡◌, ℕ, Bool, true, false, List, refl, ap, arith, Option, Ok, Err, IsTrue}
use Rattle.amqp_types.specs.Levels.{plain}
use Rattle.amqp_wire.specs.Verdicts.{is_at, decode_raw}
use Rattle.amqp_wire.specs.Frames.{Raw, Frame}
use Rattle.amqp_wire.specs.Outlines.{outline_of}
use turns.declared.fault.ContentFault.{ContentFault}
use turns.declared.mark.Mark.TheVariants as marks
use turns.declared.progress.Progress.{Progress}
use turns.InTurn.{greatest}
use turns.Steps.{mark_after}
use turns.Units.{is_content}
use stream.declared.decision.Decision.{Decision}
use stream.declared.decision.Decision.TheVariants as decisions
use stream.declared.errors.RunError.{RunError}
use stream.declared.errors.RunError.TheVariants as runs_end
use stream.declared.errors.StreamError.TheVariants as streams
use stream.Decisions.{TakesTo, RefusesTo}
use stream.Ends.{Store}
use stream.Errors.{faulty}
use stream.Steps.{Manner}
use stream.Streaming.{Ending, refused_by, stopped_by, error_ending, WritesBy}
use Rattle.amqp_stream.proofs.Writes.{kept}
use specs.declared.errors.Refusal.{Refusal}
use specs.declared.errors.Refusal.TheVariants as refusals
use specs.Judging.{given, JudgesKept, RefusesFrame}

-- ---- marks

-- a frame outside of content is passed, whatever is kept of its channel
pub passed_mark : (progress : Option Progress) (frame : Frame) → is_content (outline_of frame) ≡ false
    → mark_after greatest progress (outline_of frame) ≡ marks.Passed
passed_mark progress frame h = grind arith

-- ---- what is returned, by a writer that reads frames at level plain and is compact

module _ {S : Type 0} (w : Manner S Refusal) (level : w.level ≡ plain) (compact : IsTrue w.compact) where
  at_plain : (raw : Raw) → is_at w.level raw ≡ true
  at_plain raw = ap (λ l. is_at l raw) level

  refused_as : (s : S) (raw : Raw) (bad : ContentFault) (ending : Ending Refusal) (a : Store) (x y : List ℕ)
      → y ≡ x → ((frame : Frame) → decode_raw raw ≡ Ok frame → w.step s frame ≡ Err (refusals.BadContent bad))
      → RefusesFrame raw bad ending → WritesBy w s s raw a a x y ending
  refused_as s raw bad (refused_by (refusals.BadContent other)) a x y same steps h = grind (arith, common_steps, at_plain, kept)
  refused_as s raw bad (stopped_by (faulty worse)) a x y same steps h = grind (arith, common_steps, kept)
  refused_as s raw bad ending a x y same steps h = absurd h

  -- a frame that is not in turn, before anything is written for it
  pub turn_refuses : (s : S) (raw : Raw) (bad : ContentFault) (error : RunError Refusal)
      → ((frame : Frame) → decode_raw raw ≡ Ok frame → w.step s frame ≡ Err (refusals.BadContent bad))
      → RefusesFrame raw bad (error_ending error) → RefusesTo w s s raw error
  turn_refuses s raw bad error steps h = grind (arith, common_steps, refused_as)

  -- a frame that was taken, and what is kept then
  pub judged_takes : (s t u : S) (keep : Bool) (raw : Raw) (decision : Decision) → u ≡ t
      → ((frame : Frame) → decode_raw raw ≡ Ok frame → w.step s frame ≡ Ok (given keep frame, t)) → JudgesKept keep raw (Ok decision)
      → TakesTo w s u raw decision
  judged_takes s t u keep raw (decisions.Kept judged) is steps h = record {
    is_judged = h.1;
    step = record { frame = h.1.frame; is_whole = h.1.is; at_level = at_plain _; steps = rw (steps h.1.frame h.1.is, h.0, is) };
    compact = compact;
  }
  judged_takes s t u keep raw decisions.Dropped is steps h = grind (arith, common_steps, at_plain)

  -- memory ran out at a frame that may take some
  pub memory_refuses : (s u : S) (raw : Raw) → IsTrue (w.wants raw.kind) → RefusesTo w s u raw (runs_end.Stream streams.NoMemory)
  memory_refuses s u raw is = λ store pending. (is, kept store pending pending refl)
