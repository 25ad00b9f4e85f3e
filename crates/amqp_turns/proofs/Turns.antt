-- What has come on each channel after frames of many channels, and which of them are in turn.
use Rattle.std.proofs.Common.{◌≡◌, ◌≢◌, ℕ, ◌≤◌, true, false, List, [], ◌∷◌, ◌++◌, length, refl, ap, ◌∙◌, arith, inl, inr, ◌⊎◌}
use Rattle.std.proofs.lemmas.List.{append-nil}
use Rattle.std.proofs.lemmas.List.Elements.{filter-append}
use Rattle.amqp_wire.specs.Frames.{Frame, channel_id_of}
use Rattle.amqp_wire.specs.Outlines.{outline_of}
use Rattle.amqp_turns.specs.Units.{is_content, is_of_channel, Begun, Nothing, IsBegun, frames_in, IsInTurn, Reading}
use Rattle.amqp_turns.specs.Stands.{State, At, Lost, state_after}
use Rattle.amqp_turns.specs.Steps.{step, run_state}
use Rattle.amqp_turns.proofs.Running.{run_state-append, run_stands, turn_runs}
use Rattle.amqp_turns.proofs.Apart.{frames_on, of_channel-in, of_channel-out, of_own, of_other, of_none}
use Rattle.amqp_turns.specs.InTurn.{greatest, AreInTurn, state_on}

-- ---- what has come on a channel

-- One more frame of content is one step of its channel.
pub state_on-own : (earlier : List Frame) (frame : Frame) → is_content (outline_of frame) ≡ true
    → state_on (earlier ++ frame ∷ []) (channel_id_of frame) ≡ (step outline_of greatest (state_on earlier (channel_id_of frame)) frame).1
state_on-own earlier frame h =
    rw (of_channel-in (channel_id_of frame) earlier frame (of_own frame h))
    (run_state-append outline_of greatest (At Nothing) (frames_on (channel_id_of frame) earlier) (frame ∷ []))

-- One more frame leaves what has come on other channels.
pub state_on-other : (earlier : List Frame) (frame : Frame) (channel : ℕ)
    → channel ≢ channel_id_of frame → state_on (earlier ++ frame ∷ []) channel ≡ state_on earlier channel
state_on-other earlier frame channel apart =
    rw (of_channel-out channel earlier frame (of_other channel frame apart)) refl

-- One more frame that is no content leaves what has come on each channel.
pub state_on-outside : (earlier : List Frame) (frame : Frame) (channel : ℕ)
    → is_content (outline_of frame) ≡ false → state_on (earlier ++ frame ∷ []) channel ≡ state_on earlier channel
state_on-outside earlier frame channel h = rw (of_channel-out channel earlier frame (of_none channel frame h)) refl

-- a state in turn is what has begun
pub record IsAt (now : State Frame) : Type 0 where
  pub begun : Begun Frame
  pub is : now ≡ At begun
  pub is_begun : IsBegun outline_of greatest begun

at_reading : (begun : Begun Frame) (rest : List Frame) (now : State Frame)
    → IsBegun outline_of greatest begun → now ≡ state_after begun rest → now ≢ Lost → IsAt now
at_reading begun [] now h e turn = record { begun = begun; is = e; is_begun = h }
at_reading begun (frame ∷ rest) now h e turn = absurd (turn e)

-- A channel that no fault has come on is at a begun unit, or between units.
pub begun_on : (frames : List Frame) (channel : ℕ) → state_on frames channel ≢ Lost → IsAt (state_on frames channel)
begun_on frames channel turn =
    let stands = run_stands outline_of greatest (frames_on channel frames) in
    at_reading stands.reading.begun stands.reading.rest (state_on frames channel) stands.reading.is_begun stands.is turn

-- ---- in turn

turn_at : (max : ℕ) (xs : List Frame) (reading : Reading outline_of max xs) (rest : List Frame)
    → reading.rest ≡ rest → state_after reading.begun rest ≢ Lost → IsInTurn outline_of max xs
turn_at max xs reading [] e turn = record {
  units = reading.units;
  begun = reading.begun;
  finished = reading.finished;
  is_begun = reading.is_begun;
  are = reading.are ∙ ap (λ r. frames_in reading.units reading.begun ++ r) e ∙ append-nil (frames_in reading.units reading.begun);
}
turn_at max xs reading (frame ∷ rest) e turn = absurd (turn refl)

-- Frames by which no channel has a fault are in turn.
pub are_in_turn : (frames : List Frame) → ((channel : ℕ) → state_on frames channel ≢ Lost) → AreInTurn frames
are_in_turn frames turn channel =
    let xs = frames_on channel frames in
    let stands = run_stands outline_of greatest xs in
    turn_at greatest xs stands.reading stands.reading.rest refl (λ lost. turn channel (stands.is ∙ lost))

-- After frames in turn no channel has a fault.
pub none_lost : (frames : List Frame) (channel : ℕ) → AreInTurn frames → state_on frames channel ≢ Lost
none_lost frames channel turn lost =
    let h = turn channel in
    let at : state_on frames channel ≡ At h.begun =
    ap (run_state outline_of greatest (At Nothing)) h.are ∙ (turn_runs outline_of greatest h.units h.begun h.finished h.is_begun).state_is in
    absurd cc

lost_stays : (frames : List Frame) → run_state outline_of greatest Lost frames ≡ Lost
lost_stays [] = refl
lost_stays (frame ∷ frames) = lost_stays frames

-- A channel that has a fault has it after more frames too.
pub lost_later : (front back : List Frame) (channel : ℕ) → state_on front channel ≡ Lost → state_on (front ++ back) channel ≡ Lost
lost_later front back channel lost =
    ap (run_state outline_of greatest (At Nothing)) (filter-append (is_of_channel outline_of channel) front back)
    ∙ run_state-append outline_of greatest (At Nothing) (frames_on channel front) (frames_on channel back)
    ∙ ap (λ s. run_state outline_of greatest s (frames_on channel back)) lost
    ∙ lost_stays (frames_on channel back)

-- a prefix ends before a frame, or has it
pub before_or_with : (front : List Frame) (next : Frame) (more other back : List Frame) → front ++ next ∷ more ≡ other ++ back
    → (length other ≤ length front) ⊎ ((middle : List Frame) × (other ≡ (front ++ next ∷ []) ++ middle))
before_or_with front next more [] back e = inl (omega arith)
before_or_with [] next more (f ∷ fs) back e = inr (fs, cc)
before_or_with (g ∷ gs) next more (f ∷ fs) back e =
    let tails : gs ++ next ∷ more ≡ fs ++ back = cc in
    let heads : g ≡ f = cc in
    elim (before_or_with gs next more fs back tails) [
      | inl short ↦ inl (omega arith)
      | inr found ↦ inr (found.0, let rest : fs ≡ (gs ++ next ∷ []) ++ found.0 = found.1 in cc)
    ]
