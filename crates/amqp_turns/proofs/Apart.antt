-- Frames of many channels: what a channel's content gives depends on its own frames alone.
use Rattle.std.proofs.Common.{◌≡◌, ◌≢◌, ℕ, true, false, List, [], ◌∷◌, ◌++◌, map, refl, sym, ap, ◌∙◌, inl, inr, Option, None}
use Rattle.std.proofs.lemmas.List.{append-nil, append_assoc, same_from_push}
use Rattle.std.proofs.lemmas.Bool.{cases_eq, cases_Bool, eq-eqb, eqb-true, ne_eqb, and_parts}
use Rattle.std.proofs.lemmas.List.Elements.{filter-append}
use Rattle.amqp_wire.specs.Frames.{Frame, channel_id_of}
use Rattle.amqp_wire.specs.Outlines.{outline_of}
use Rattle.amqp_wire.proofs.Outlined.{outline_of-channel}
use Rattle.amqp_turns.specs.Units.{is_content, is_of_channel, of_channel, Nothing}
use Rattle.amqp_turns.specs.Answers.{Answer, Answers}
use Rattle.amqp_turns.specs.Stands.{State, At, kept_at}
use Rattle.amqp_turns.specs.Steps.{step, run_answers, run_state}
use Rattle.amqp_turns.specs.Outcomes.{OutcomeView, passed, answer_outcome, Kept, AssemblerStands, IsOutcomeOf}
use Rattle.amqp_turns.specs.Sequences.{IsGiven, AreGiven, given_of}
use Rattle.amqp_turns.proofs.Running.{run_answers-append, run_state-append, answers_run, stands_nothing}

-- ---- the frames of a channel

-- the frames of this channel's content
abbrev pub frames_on : ℕ → List Frame → List Frame
frames_on = of_channel outline_of

-- A frame of a channel's content at the end of some frames is at the end of those of the channel.
pub of_channel-in : (channel : ℕ) (frames : List Frame) (frame : Frame) → is_of_channel outline_of channel frame ≡ true
    → frames_on channel (frames ++ frame ∷ []) ≡ frames_on channel frames ++ frame ∷ []
of_channel-in channel frames frame h =
    rw h at (filter-append (is_of_channel outline_of channel) frames (frame ∷ []))

-- A frame that is not of a channel's content, at the end of some frames, leaves those of the channel.
pub of_channel-out : (channel : ℕ) (frames : List Frame) (frame : Frame) → is_of_channel outline_of channel frame ≡ false
    → frames_on channel (frames ++ frame ∷ []) ≡ frames_on channel frames
of_channel-out channel frames frame h =
    rw h at (filter-append (is_of_channel outline_of channel) frames (frame ∷ [])) ∙ append-nil (frames_on channel frames)

-- A frame of content is of its own channel.
pub of_own : (frame : Frame) → is_content (outline_of frame) ≡ true → is_of_channel outline_of (channel_id_of frame) frame ≡ true
of_own frame h = rw h (eq-eqb _ _ (outline_of-channel frame))

-- A frame is of no other channel than its own.
pub of_other : (channel : ℕ) (frame : Frame) → channel ≢ channel_id_of frame → is_of_channel outline_of channel frame ≡ false
of_other channel frame ne = elim (cases_Bool (is_content (outline_of frame))) [
  | inl e ↦ rw e (ne_eqb _ _ (λ same. ne (sym same ∙ outline_of-channel frame)))
  | inr e ↦ rw e refl
]

-- A frame that is no content is of no channel.
pub of_none : (channel : ℕ) (frame : Frame) → is_content (outline_of frame) ≡ false → is_of_channel outline_of channel frame ≡ false
of_none channel frame h = rw h refl

-- a frame of a channel is content, and has the channel's number
record IsOf (channel : ℕ) (frame : Frame) : Type 0 where
  content : is_content (outline_of frame) ≡ true
  channel_is : channel_id_of frame ≡ channel

of_channel-is : (channel : ℕ) (frame : Frame) → is_of_channel outline_of channel frame ≡ true → IsOf channel frame
of_channel-is channel frame h =
    let both = and_parts (is_content (outline_of frame)) _ h in
    record { content = both.0; channel_is = sym (outline_of-channel frame) ∙ eqb-true _ _ both.1 }

-- ---- what is given

-- one frame more
pub given-push : (max : ℕ) (before frames : List Frame) (outcomes : List OutcomeView) (frame : Frame) (outcome : OutcomeView)
    → AreGiven max before frames outcomes → IsGiven max (before ++ frames) frame outcome → AreGiven max before (frames ++ frame ∷ []) (outcomes ++ outcome ∷ [])
given-push max before [] [] frame outcome h last = (rw (← append-nil before) last, tt)
given-push max before (f ∷ fs) (o ∷ os) frame outcome h last = (
  h.0,
  given-push max (before ++ f ∷ []) fs os frame outcome h.1 (rw (append_assoc before (f ∷ []) fs) last),
)
given-push max before frames outcomes frame outcome h last = absurd h

-- the state of a channel after some frames
abbrev state_of : ℕ → ℕ → List Frame → State Frame
state_of max channel frames = run_state outline_of max (At Nothing) (frames_on channel frames)

-- the last outcome is that of the step
outcome_last : (max : ℕ) (frames : List Frame) (frame : Frame) (outcome : OutcomeView) → IsOutcomeOf max (frames ++ frame ∷ []) outcome
    → outcome ≡ answer_outcome (step outline_of max (run_state outline_of max (At Nothing) frames) frame).0
outcome_last max frames frame outcome h =
    let all = sym (answers_run outline_of max (frames ++ frame ∷ []) (h.last.before ++ h.answer ∷ []) h.last.answers) in
    let steps = run_answers-append outline_of max (At Nothing) frames (frame ∷ []) in
    h.is ∙ ap answer_outcome (sym (same_from_push (run_answers outline_of max (At Nothing) frames) h.last.before _ h.answer (sym steps ∙ all)).1)

given_run : (max channel : ℕ) (before frames : List Frame) (outcomes : List OutcomeView) → AreGiven max before frames outcomes
    → given_of channel frames outcomes ≡ map answer_outcome (run_answers outline_of max (state_of max channel before) (frames_on channel frames))
given_run max channel before [] [] h = refl
given_run max channel before [] (o ∷ os) h = refl
given_run max channel before (f ∷ fs) [] h = absurd h
given_run max channel before (f ∷ fs) (o ∷ os) h =
    let rest = given_run max channel (before ++ f ∷ []) fs os h.1 in
    elim (cases_Bool (is_of_channel outline_of channel f)) [
      | inl e ↦
          let is = of_channel-is channel f e in
          let last = outcome_last max (frames_on channel before) f o (rw (is.channel_is, of_channel-in channel before f e) at (h.0.inside is.content)) in
          let state = run_state-append outline_of max (At Nothing) (frames_on channel before) (f ∷ []) in
          rw (e, last)
          (ap (λ ts. answer_outcome (step outline_of max (state_of max channel before) f).0 ∷ ts) (rw (of_channel-in channel before f e, state) at rest))
      | inr e ↦
          rw e (rw (of_channel-out channel before f e) at rest)
    ]

-- What the content of a channel gives among frames of many channels are the outcomes of the channel's frames alone.
pub channels_answered : (max channel : ℕ) (frames : List Frame) (outcomes : List OutcomeView) → AreGiven max [] frames outcomes
    → (answers : List (Answer Frame)) → Answers outline_of max (frames_on channel frames) answers
    → given_of channel frames outcomes ≡ map answer_outcome answers
channels_answered max channel frames outcomes h answers are =
    given_run max channel [] frames outcomes h ∙ ap (map answer_outcome) (sym (answers_run outline_of max (frames_on channel frames) answers are))

-- Two sequences with the same frames on a channel give the same on it, whatever comes on other channels.
pub channels_apart : (max channel : ℕ) (frames others : List Frame) (outcomes given : List OutcomeView) → AreGiven max [] frames outcomes
    → AreGiven max [] others given → frames_on channel frames ≡ frames_on channel others
    → given_of channel frames outcomes ≡ given_of channel others given
channels_apart max channel frames others outcomes given h g same =
    given_run max channel [] frames outcomes h ∙ ap (λ gs. map answer_outcome (run_answers outline_of max (At Nothing) gs)) same
    ∙ sym (given_run max channel [] others given g)

-- ---- one frame more in an assembler

-- what is kept of each channel stands for its frames
abbrev pub AllStand : ℕ → List Frame → List (ℕ × Kept) → Type 0
AllStand max frames channels = (channel : ℕ) → AssemblerStands max (frames_on channel frames) (kept_at channels channel)

-- Where one more frame changes what is kept of its channel as it has to, and of no other, what is kept of each channel stands for its frames.
pub stands-push : (max : ℕ) (frames : List Frame) (frame : Frame) (before after : List (ℕ × Kept))
    → AllStand max frames before → (is_content (outline_of frame) ≡ false → after ≡ before)
    → (is_content (outline_of frame) ≡ true → (fs : List Frame) → AssemblerStands max fs (kept_at before (channel_id_of frame))
    → AssemblerStands max (fs ++ frame ∷ []) (kept_at after (channel_id_of frame)))
    → ((other : ℕ) → other ≢ channel_id_of frame → kept_at after other ≡ kept_at before other) → AllStand max (frames ++ frame ∷ []) after
stands-push max frames frame before after old stays more others = λ channel.
    elim (cases_Bool (is_content (outline_of frame))) [
      | inl e ↦ elim (cases_eq channel (channel_id_of frame)) [
        | inl same ↦
            rw (same, of_channel-in (channel_id_of frame) frames frame (of_own frame e))
            (more e (frames_on (channel_id_of frame) frames) (old (channel_id_of frame)))
        | inr apart ↦ rw (of_channel-out channel frames frame (of_other channel frame apart), others channel apart) (old channel)
      ]
      | inr e ↦ rw (of_channel-out channel frames frame (of_none channel frame e), stays e) (old channel)
    ]

-- What a frame gives by what is kept of its channel is what it gives after the frames before it.
pub is_given : (max : ℕ) (frames : List Frame) (frame : Frame) (before : List (ℕ × Kept)) (outcome : OutcomeView)
    → AllStand max frames before → (is_content (outline_of frame) ≡ false → outcome ≡ passed frame)
    → (is_content (outline_of frame) ≡ true → (fs : List Frame)
    → AssemblerStands max fs (kept_at before (channel_id_of frame)) → IsOutcomeOf max (fs ++ frame ∷ []) outcome)
    → IsGiven max frames frame outcome
is_given max frames frame before outcome old outside inside = record {
  outside = outside;
  inside = λ e.
      rw (of_channel-in (channel_id_of frame) frames frame (of_own frame e)) (inside e (frames_on (channel_id_of frame) frames) (old (channel_id_of frame)));
}

-- Where nothing is kept of a channel, it stands for no frames.
pub nothing_stands : (max : ℕ) (kept : Option Kept) → kept ≡ None → AssemblerStands max [] kept
nothing_stands max kept none = record { state = At Nothing; stands = stands_nothing outline_of max; is = none }

-- Where nothing is kept of any channel, it stands for no frames.
pub none_stand : (max : ℕ) (channels : List (ℕ × Kept)) → channels ≡ [] → AllStand max [] channels
none_stand max channels none = λ channel. nothing_stands max (kept_at channels channel) (ap (λ cs. kept_at cs channel) none)
