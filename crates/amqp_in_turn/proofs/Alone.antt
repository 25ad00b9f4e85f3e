-- Frames of many channels of which each becomes frames of its own channel: those of a channel come of its frames alone, unit by unit.
use Rattle.amqp_turns.specs as turns
use Rattle.std.proofs.lemmas.Grind.{common_steps}
use Rattle.std.proofs.Common.{arith, ◌≡◌, ℕ, Bool, true, false, cond, List, [], ◌∷◌, ◌++◌, append_assoc, refl, ap}
use Rattle.std.specs.List.{AllByRecursion, flat_map, filter}
use Rattle.std.proofs.lemmas.List.Elements.{filter-append}
use Rattle.amqp_wire.specs.Frames.{Frame, channel_id_of}
use Rattle.amqp_wire.specs.Outlines.{outline_of}
use turns.Units.{Finished, Begun, Nothing, begun_frames, finished_frames, frames_in, IsFinished, IsInTurn, is_of_channel, of_channel}
use turns.Stands.{State, At}
use turns.Steps.{step}
use turns.InTurn.{greatest, state_on}
use Rattle.amqp_turns.proofs.Apart.{of_channel-in, of_channel-out}
use Rattle.amqp_turns.proofs.Messages.{IsOn, channel_is, all_on, all_front, all_back}
use Rattle.amqp_turns.proofs.Running.{run_state-append}

-- Frames after earlier ones become this, each by what has come on its channel: frames that are of its channel where it is. Of a channel's frames `inside`
-- says what they become.
pub record GoesByChannel (each inside : State Frame → Frame → List Frame) (after : List Frame → List Frame → List Frame) : Type 0 where
  pub none : (earlier : List Frame) → after earlier [] ≡ []
  pub more : (earlier : List Frame) (frame : Frame) (frames : List Frame)
      → after earlier (frame ∷ frames) ≡ each (state_on earlier (channel_id_of frame)) frame ++ after (earlier ++ frame ∷ []) frames
  pub alike : (channel : ℕ) (state : State Frame) (frame : Frame)
      → AllByRecursion (λ x. is_of_channel outline_of channel x ≡ is_of_channel outline_of channel frame) (each state frame)
  pub inside_is : (channel : ℕ) (state : State Frame) (frame : Frame) → is_of_channel outline_of channel frame ≡ true → each state frame ≡ inside state frame

filter_alike : {X : Type 0} (test : X → Bool) (b : Bool) (xs : List X) → AllByRecursion (λ x. test x ≡ b) xs → filter test xs ≡ cond b xs []
filter_alike test b [] h = grind arith
filter_alike test b (x ∷ xs) h = grind (arith, common_steps, filter_alike test b xs h.1)

-- what frames of one channel become, after what has come on it
abbrev pub channel_made : (State Frame → Frame → List Frame) → State Frame → List Frame → List Frame
channel_made inside state [] = []
channel_made inside state (frame ∷ frames) = inside state frame ++ channel_made inside (step outline_of greatest state frame).1 frames

-- The frames of a channel that frames become are those that the frames of the channel become by themselves.
pub made_on : {each inside : State Frame → Frame → List Frame} {after : List Frame → List Frame → List Frame} → GoesByChannel each inside after
    → (channel : ℕ) (earlier frames : List Frame)
    → of_channel outline_of channel (after earlier frames) ≡ channel_made inside (state_on earlier channel) (of_channel outline_of channel frames)
made_on by channel earlier [] = ap (of_channel outline_of channel) (by.none earlier)
made_on {each = each} {inside = inside} {after = after} by channel earlier (frame ∷ frames) =
    let test = is_of_channel outline_of channel in
    rw (
      by.more earlier frame frames,
      filter-append test first (after (earlier ++ frame ∷ []) frames),
      filter_alike test (test frame) first (by.alike channel (state_on earlier (channel_id_of frame)) frame),
      made_on by channel (earlier ++ frame ∷ []) frames,
    ) (by_test (is_of_channel outline_of channel frame) refl)
  where
    first : List Frame
    first = each (state_on earlier (channel_id_of frame)) frame

    by_test : (b : Bool) → is_of_channel outline_of channel frame ≡ b
        → cond b first [] ++ channel_made inside (state_on (earlier ++ frame ∷ []) channel) (of_channel outline_of channel frames)
        ≡ channel_made inside (state_on earlier channel) (of_channel outline_of channel (frame ∷ frames))
    by_test true e =
        let own : first ≡ inside (state_on earlier channel) frame =
        rw (channel_is channel frame e) (by.inside_is channel (state_on earlier channel) frame e) in
        rw (
          e,
          own,
          of_channel-in channel earlier frame e,
          run_state-append outline_of greatest (At Nothing) (of_channel outline_of channel earlier) (frame ∷ []),
        )
    by_test false e =
        rw (e, of_channel-out channel earlier frame e)

module _ (inside : State Frame → Frame → List Frame) where
  -- a frame that leads from one state to another, and frames after it
  pub first_made : (state : State Frame) {next : State Frame} (frame : Frame) (frames : List Frame) → (step outline_of greatest state frame).1 ≡ next
      → channel_made inside state (frame ∷ frames) ≡ inside state frame ++ channel_made inside next frames
  first_made state frame frames e = grind (arith, common_steps)

  -- Where each unit becomes this, and what has begun that, units and what has begun become these one after another.
  pub units_made : (P : Finished Frame → Type 0) (made : Finished Frame → List Frame) (begun : Begun Frame) (rest : List Frame)
      → ((unit : Finished Frame) (frames : List Frame) → P unit
      → channel_made inside (At Nothing) (finished_frames unit ++ frames) ≡ made unit ++ channel_made inside (At Nothing) frames)
      → channel_made inside (At Nothing) (begun_frames begun) ≡ rest → (units : List (Finished Frame)) → AllByRecursion P units
      → channel_made inside (At Nothing) (frames_in units begun) ≡ flat_map made units ++ rest
  units_made P made begun rest each last [] h = last
  units_made P made begun rest each last (unit ∷ units) h = grind (arith, common_steps, append_assoc, units_made P made begun rest each last units h.1)

-- a finished unit with frames of this channel alone
abbrev pub IsUnitOn : ℕ → Finished Frame → Type 0
IsUnitOn channel unit = IsFinished outline_of greatest unit × AllByRecursion (IsOn channel) (finished_frames unit)

-- Of finished units with frames of one channel alone each is one.
pub units_on : (channel : ℕ) (units : List (Finished Frame)) → AllByRecursion (IsFinished outline_of greatest) units
    → AllByRecursion (IsOn channel) (flat_map finished_frames units) → AllByRecursion (IsUnitOn channel) units
units_on channel [] finished on = tt
units_on channel (unit ∷ units) finished on =
    let more = flat_map finished_frames units in (
      (finished.0, all_front (IsOn channel) (finished_frames unit) more on),
      units_on channel units finished.1 (all_back (IsOn channel) (finished_frames unit) more on),
    )

-- the units of a channel's frames are
pub turn_on : (channel : ℕ) (frames : List Frame) (turn : IsInTurn outline_of greatest (of_channel outline_of channel frames))
    → AllByRecursion (IsUnitOn channel) turn.units
turn_on channel frames turn = grind (arith, common_steps, IsOn, all_front, all_on, units_on)
