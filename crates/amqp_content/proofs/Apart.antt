-- The loop of `assemble`: what holds after one frame more.
use Rattle.std.proofs.Common.{◌≡◌, ◌≢◌, ℕ, true, false, List, [], ◌∷◌, ◌++◌, map, sym, ap, subst, Result, Ok}
use Rattle.std.proofs.lemmas.List.{map_push}
use Rattle.amqp_types.specs.declared.errors.NoMemory.{NoMemory}
use Rattle.amqp_wire.specs.Frames.{Frame, channel_id_of}
use Rattle.amqp_wire.specs.Outlines.{outline_of}
use Rattle.amqp_frame.specs.declared.frame.AMQPFrame.{AMQPFrame}
use Rattle.amqp_frame.specs.Frames.{frame_of}
use Rattle.amqp_turns.specs.Units.{is_content}
use Rattle.amqp_turns.specs.Stands.{kept_at}
use Rattle.amqp_turns.specs.Outcomes.{OutcomeView, passed, Kept, Assembling, Pushes}
use Rattle.amqp_turns.specs.Sequences.{AreGiven}
use Rattle.amqp_turns.proofs.Apart.{AllStand, stands-push, is_given, given-push}
use Rattle.amqp_messages.specs.declared.outcome.Outcome.{Outcome}
use Rattle.amqp_messages.specs.declared.outcome.Outcome.TheVariants as given_as
use Rattle.amqp_content.specs.Outcomes.{outcome_of}

-- no frames give no outcomes
pub none_given : (max : ℕ) (outcomes : List Outcome) → outcomes ≡ [] → AreGiven max [] [] (map outcome_of outcomes)
none_given max outcomes none = subst (λ (os : List Outcome). AreGiven max [] [] (map outcome_of os)) (sym none) tt

-- what holds after one frame more
pub record Assembled (max : ℕ) (frames : List AMQPFrame) (outcomes : List Outcome) (channels : List (ℕ × Kept)) : Type 0 where
  pub stand : AllStand max (map frame_of frames) channels
  pub given : AreGiven max [] (map frame_of frames) (map outcome_of outcomes)

-- what `push` promises of a frame outside of all content, and of one that is content
abbrev pub OutsideIs : Assembling → Assembling → AMQPFrame → Outcome → Type 0
OutsideIs before after frame outcome =
    is_content (outline_of (frame_of frame)) ≡ false → (◌≡◌ {A = Result Outcome NoMemory} (Ok outcome) (Ok (given_as.Passed frame))) × (after ≡ before)

-- a frame more that `push` takes gives one outcome more, and what is kept of each channel stands for the longer list
pub assembled_step : (max : ℕ) (before after : Assembling) (frames : List AMQPFrame) (outcomes : List Outcome) (frame : AMQPFrame) (outcome : Outcome)
    → before.max_body ≡ max → AllStand max (map frame_of frames) before.channels
    → AreGiven max [] (map frame_of frames) (map outcome_of outcomes) → OutsideIs before after frame outcome
    → (is_content (outline_of (frame_of frame)) ≡ true
    → Pushes before.max_body (kept_at before.channels (channel_id_of (frame_of frame)))
    (kept_at after.channels (channel_id_of (frame_of frame))) (frame_of frame) (outcome_of outcome))
    → ((other : ℕ) → other ≢ channel_id_of (frame_of frame) → kept_at after.channels other ≡ kept_at before.channels other)
    → Assembled max (frames ++ frame ∷ []) (outcomes ++ outcome ∷ []) after.channels
assembled_step max before after frames outcomes frame outcome is old given outside pushes others =
    let at = λ (e : is_content (outline_of (frame_of frame)) ≡ true).
    subst
    (λ (m : ℕ).
    Pushes m (kept_at before.channels (channel_id_of (frame_of frame)))
    (kept_at after.channels (channel_id_of (frame_of frame))) (frame_of frame) (outcome_of outcome))
    is (pushes e) in
    let stand =
    stands-push max (map frame_of frames) (frame_of frame) before.channels after.channels old
    (λ e. ap (λ (a : Assembling). a.channels) (outside e).1) (λ e. (at e).stands) others in
    let one =
    is_given max (map frame_of frames) (frame_of frame) before.channels (outcome_of outcome) old
    (λ e. outcome_passed outcome frame (outside e).0) (λ e. (at e).gives) in
    let all = given-push max [] (map frame_of frames) (map outcome_of outcomes) (frame_of frame) (outcome_of outcome) given one in
    record {
      stand = subst (λ (fs : List Frame). AllStand max fs after.channels) (sym (map_push frame_of frames frame)) stand;
      given =
          subst (λ (fs : List Frame). AreGiven max [] fs (map outcome_of (outcomes ++ outcome ∷ []))) (sym (map_push frame_of frames frame))
          (subst (λ (ts : List OutcomeView). AreGiven max [] (map frame_of frames ++ frame_of frame ∷ []) ts) (sym (map_push outcome_of outcomes outcome)) all);
    }
  where
    outcome_passed : (o : Outcome) (f : AMQPFrame) → ◌≡◌ {A = Result Outcome NoMemory} (Ok o) (Ok (given_as.Passed f)) → outcome_of o ≡ passed (frame_of f)
    outcome_passed o f e =
        let same : o ≡ given_as.Passed f = cc in
        ap outcome_of same
