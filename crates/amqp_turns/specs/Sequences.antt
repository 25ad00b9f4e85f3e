-- Frames of many channels one after another, and what an assembler gives for each.
use Rattle.std.specs.Prelude.{◌≡◌, ℕ, true, false, List, [], ◌∷◌, ◌++◌, if◌then◌else◌}
use Rattle.amqp_wire.specs.Frames.{Frame, channel_id_of}
use Rattle.amqp_wire.specs.Outlines.{outline_of}
use Rattle.amqp_turns.specs.Units.{is_content, is_of_channel, of_channel}
use Rattle.amqp_turns.specs.Outcomes.{OutcomeView, passed, IsOutcomeOf}

-- What a frame gives after these: outside of all content it is passed; else it gives the last of
-- the outcomes of its channel's frames up to it.
pub record IsGiven (max : ℕ) (before : List Frame)
    (frame : Frame) (outcome : OutcomeView) : Type 0 where
  pub outside : is_content (outline_of frame) ≡ false → outcome ≡ passed frame
  pub inside : is_content (outline_of frame) ≡ true
      → IsOutcomeOf max (of_channel outline_of (channel_id_of frame) (before ++ frame ∷ [])) outcome

-- what each of these frames gives, after those before it
abbrev pub AreGiven : ℕ → List Frame → List Frame → List OutcomeView → Type 0
AreGiven max before [] [] = Unit {0}
AreGiven max before [] (outcome ∷ outcomes) = ⊥
AreGiven max before (frame ∷ frames) [] = ⊥
AreGiven max before (frame ∷ frames) (outcome ∷ outcomes) =
    IsGiven max before frame outcome × AreGiven max (before ++ frame ∷ []) frames outcomes

-- what the content of one channel gives
abbrev pub given_of : ℕ → List Frame → List OutcomeView → List OutcomeView
given_of channel [] outcomes = []
given_of channel (frame ∷ frames) [] = []
given_of channel (frame ∷ frames) (outcome ∷ outcomes) =
    if is_of_channel outline_of channel frame then outcome ∷ given_of channel frames outcomes
    else given_of channel frames outcomes
