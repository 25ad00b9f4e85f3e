-- Frames recut once: they are in turn, with the same messages, and their bodies are cut.
use Rattle.std.proofs.lemmas.Grind.{common_steps}
use Rattle.std.proofs.Common.{arith, ◌≡◌, ℕ, ◌≤◌, List, ◌++◌, refl, sym, ap₂, subst, ◌∙◌}
use Rattle.std.specs.List.{AllByRecursion, flat_map}
use Rattle.amqp_wire.specs.Frames.{Frame}
use Rattle.amqp_wire.specs.Outlines.{outline_of}
use Rattle.amqp_turns.specs.Units.{of_channel, Nothing, begun_frames, finished_frames, IsInTurn}
use Rattle.amqp_turns.specs.Stands.{At}
use Rattle.amqp_turns.proofs.Messages.{IsOn, all_on, all_front, turn_done}
use Rattle.amqp_turns.specs.InTurn.{greatest, AreInTurn}
use Rattle.amqp_recut.specs.Cuts.{recut}
use Rattle.amqp_recut.specs.Laws.{messages_on, AreCut}
use Rattle.amqp_recut.proofs.LawsChannels.{recut_on, AreCutAfter, cut_append, are_cut}
use Rattle.amqp_recut.proofs.LawsUnits.{unit_recut, begun_recut, units_cut, AllRemade, all_remade, BegunRemade, begun_remade}

-- the frames of a channel, recut, by its units
pub by_units : (size channel : ℕ) (frames : List Frame) → 1 ≤ size → (h : IsInTurn outline_of greatest (of_channel outline_of channel frames))
    → of_channel outline_of channel (recut size frames) ≡ flat_map (unit_recut size channel) h.units ++ begun_recut size channel h.begun
by_units size channel frames some h = grind (arith, common_steps, all_on, recut_on, units_cut)

-- units of a channel that are the frames recut, with the same messages
pub record IsRemade (size channel : ℕ) (frames : List Frame) (h : IsInTurn outline_of greatest (of_channel outline_of channel frames)) : Type 0 where
  pub units : AllRemade size channel h.units
  pub begun : BegunRemade size channel h.begun
  pub turn : IsInTurn outline_of greatest (of_channel outline_of channel (recut size frames))
  pub units_are : turn.units ≡ units.made
  pub begun_is : turn.begun ≡ begun.made

-- The frames of a channel in turn, recut, are its units recut one by one, with the same messages.
pub is_remade : (size channel : ℕ) (frames : List Frame) → 1 ≤ size
    → (h : IsInTurn outline_of greatest (of_channel outline_of channel frames)) → IsRemade size channel frames h
is_remade size channel frames some h =
    let on = subst (AllByRecursion (IsOn channel)) h.are (all_on channel frames) in
    let units = all_remade size channel h.units some h.finished (all_front (IsOn channel) (flat_map finished_frames h.units) (begun_frames h.begun) on) in
    let begun = begun_remade size channel h.begun some h.is_begun in
    record {
      units = units;
      begun = begun;
      turn = record {
        units = units.made;
        begun = begun.made;
        finished = units.finished;
        is_begun = begun.is_begun;
        are = by_units size channel frames some h ∙ ap₂ (λ xs ys. xs ++ ys) (sym units.frames) (sym begun.frames);
      };
      units_are = refl;
      begun_is = refl;
    }

-- Frames in turn are in turn when they are recut.
pub stays_in_turn : (size : ℕ) (frames : List Frame) → 1 ≤ size → AreInTurn frames → AreInTurn (recut size frames)
stays_in_turn size frames some turn channel = (is_remade size channel frames some (turn channel)).turn

-- Frames in turn have the same messages on each channel when they are recut.
pub messages_stay : (size : ℕ) (frames : List Frame) → 1 ≤ size → AreInTurn frames
    → (channel : ℕ) → messages_on channel (recut size frames) ≡ messages_on channel frames
messages_stay size frames some turn channel =
    let h = turn channel in
    let made = is_remade size channel frames some h in
    rw (turn_done (of_channel outline_of channel (recut size frames)) made.turn, turn_done (of_channel outline_of channel frames) h, made.units_are)
    made.units.same

-- The bodies of frames in turn are cut to the size when these are recut.
pub bodies_are_cut : (size : ℕ) (frames : List Frame) → 1 ≤ size → AreInTurn frames → AreCut size (recut size frames)
bodies_are_cut size frames some turn = are_cut size (recut size frames) (λ channel. on_channel channel (is_remade size channel frames some (turn channel)))
  where
    on_channel : (channel : ℕ) → IsRemade size channel frames (turn channel) → AreCutAfter size (At Nothing) (of_channel outline_of channel (recut size frames))
    on_channel channel made =
        let h = turn channel in
        let front = flat_map (unit_recut size channel) h.units in
        let back = begun_recut size channel h.begun in
        rw (by_units size channel frames some h) (cut_append size (At Nothing) front back made.units.cut (rw made.units.ends made.begun.cut))
