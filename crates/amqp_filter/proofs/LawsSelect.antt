-- Where channels alone decide, a frame is decided as the opening of its message is.
use Rattle.std.proofs.Common.{◌≡◌, ◌≢◌, ℕ, Bool, true, false, List, [], ◌∷◌, ◌++◌, append_assoc, refl, sym, ap, subst, ◌∙◌}
use Rattle.std.specs.List.{AllByRecursion, flat_map}
use Rattle.amqp_wire.specs.declared.outline.FrameOutline.{FrameOutline}
use Rattle.amqp_wire.specs.Frames.{Frame, channel_id_of}
use Rattle.amqp_wire.specs.Outlines.{outline_of, outline_channel}
use Rattle.amqp_wire.proofs.Outlined.{outline_of-channel}
use Rattle.amqp_turns.specs.Units.{Begun, Nothing, Opened, Headed, is_content, of_channel, begun_frames, finished_frames, frames_in, Reading}
use Rattle.amqp_turns.specs.Stands.{State, At, Lost, state_after}
use Rattle.amqp_turns.proofs.Apart.{of_own}
use Rattle.amqp_turns.proofs.Running.{run_stands}
use Rattle.amqp_select.specs.declared.rule.Rule.{Rule}
use Rattle.amqp_select.specs.Matching.{decides, kept}
use Rattle.amqp_turns.proofs.Messages.{IsOn, channel_is, all_on, all_front, all_back}
use Rattle.amqp_turns.specs.InTurn.{greatest, AreInTurn, state_on}
use Rattle.amqp_filter.specs.Kept.{opening_or, decider, is_kept, if_kept, kept_after, kept_of}
use Rattle.amqp_turns.proofs.Turns.{none_lost, lost_later}
use Rattle.amqp_filter.proofs.Channels.{itself_decides}

-- what has begun on a channel is frames of that channel
record BegunOn (channel : ℕ) (now : State Frame) : Type 0 where
  begun : Begun Frame
  is : now ≡ At begun
  on : AllByRecursion (IsOn channel) (begun_frames begun)

begun_at : (channel : ℕ) (xs : List Frame) (now : State Frame) (reading : Reading outline_of greatest xs) (rest : List Frame)
    → reading.rest ≡ rest → now ≡ state_after reading.begun rest → now ≢ Lost → AllByRecursion (IsOn channel) xs → BegunOn channel now
begun_at channel xs now reading [] e is turn on =
    let parts = subst (AllByRecursion (IsOn channel)) reading.are on in
    let front = all_front (IsOn channel) (frames_in reading.units reading.begun) reading.rest parts in
    record { begun = reading.begun; is = is; on = all_back (IsOn channel) (flat_map finished_frames reading.units) (begun_frames reading.begun) front }
begun_at channel xs now reading (frame ∷ rest) e is turn on = absurd (turn is)

begun_of : (earlier : List Frame) (channel : ℕ) → state_on earlier channel ≢ Lost → BegunOn channel (state_on earlier channel)
begun_of earlier channel turn =
    let xs = of_channel outline_of channel earlier in
    let stands = run_stands outline_of greatest xs in
    begun_at channel xs (state_on earlier channel) stands.reading stands.reading.rest refl stands.is turn (all_on channel earlier)

opening_on : (channel : ℕ) (begun : Begun Frame) (frame : Frame)
    → AllByRecursion (IsOn channel) (begun_frames begun) → IsOn channel frame → IsOn channel (opening_or begun frame)
opening_on channel Nothing frame h on = on
opening_on channel (Opened opening) frame h on = h.0
opening_on channel (Headed opening header bodies) frame h on = h.0

module _ (rules : List Rule) (alike : (a b : FrameOutline) → outline_channel a ≡ outline_channel b → decides rules a ≡ decides rules b) where
  by_channel : (a b : Frame) → channel_id_of a ≡ channel_id_of b → decides rules (outline_of a) ≡ decides rules (outline_of b)
  by_channel a b e = alike (outline_of a) (outline_of b) (outline_of-channel a ∙ e ∙ sym (outline_of-channel b))

  one_alike : (earlier : List Frame) (frame : Frame) (content : Bool) → is_content (outline_of frame) ≡ content
      → state_on earlier (channel_id_of frame) ≢ Lost → is_kept (decides rules) earlier frame ≡ decides rules (outline_of frame)
  one_alike earlier frame false e turn = ap (λ f. decides rules (outline_of f)) (itself_decides (state_on earlier (channel_id_of frame)) frame e)
  one_alike earlier frame true e turn =
      let channel = channel_id_of frame in
      let at = begun_of earlier channel turn in
      let opening : decider (state_on earlier channel) frame ≡ opening_or at.begun frame = ap (λ st. decider st frame) at.is ∙ rw e refl in
      let on = opening_on channel at.begun frame at.on (of_own frame e) in
      ap (λ f. decides rules (outline_of f)) opening ∙ by_channel (opening_or at.begun frame) frame (channel_is channel (opening_or at.begun frame) on)

  first_alike : (frame : Frame) (frames : List Frame) (b : Bool) → decides rules (outline_of frame) ≡ b
      → kept rules (frame ∷ frames) ≡ if_kept b frame ++ kept rules frames
  first_alike frame frames true e = rw e refl
  first_alike frame frames false e = rw e refl

  alike_after : (earlier frames : List Frame) → ((channel : ℕ) → state_on (earlier ++ frames) channel ≢ Lost)
      → kept_after (decides rules) earlier frames ≡ kept rules frames
  alike_after earlier [] turn = refl
  alike_after earlier (frame ∷ frames) turn =
      let whole : (earlier ++ frame ∷ []) ++ frames ≡ earlier ++ frame ∷ frames = append_assoc earlier (frame ∷ []) frames in
      let one =
      one_alike earlier frame (is_content (outline_of frame)) refl
      (λ lost. turn (channel_id_of frame) (lost_later earlier (frame ∷ frames) (channel_id_of frame) lost)) in
      let rest = alike_after (earlier ++ frame ∷ []) frames (λ channel lost. turn channel (ap (λ fs. state_on fs channel) (sym whole) ∙ lost)) in
      ap (λ b. if_kept b frame ++ kept_after (decides rules) (earlier ++ frame ∷ []) frames) one
      ∙ ap (λ fs. if_kept (decides rules (outline_of frame)) frame ++ fs) rest
      ∙ sym (first_alike frame frames (decides rules (outline_of frame)) refl)

  -- Where rules decide by channels alone, filtering frames in turn keeps those that selecting keeps.
  pub selects_alike : (frames : List Frame) → AreInTurn frames → kept_of (decides rules) frames ≡ kept rules frames
  selects_alike frames turn = alike_after [] frames (λ channel. none_lost frames channel turn)
