-- Messages that are split into frames come back whole and in order.
use Rattle.std.proofs.Common.{◌≡◌, ℕ, ◌≤◌, true, List, [], ◌∷◌, length, map, refl, ap, subst, sym, ◌∙◌}
use Rattle.std.specs.List.{AllByRecursion, flat_map}
use Rattle.amqp_wire.specs.Frames.{Frame, Meth}
use Rattle.amqp_wire.specs.Outlines.{outline_of}
use Rattle.amqp_turns.specs.Units.{is_opening_id, of_channel, Nothing, Opened}
use Rattle.amqp_turns.specs.Answers.{Answer}
use Rattle.amqp_turns.specs.Stands.{At}
use Rattle.amqp_turns.specs.Steps.{run_answers}
use Rattle.amqp_turns.specs.Outcomes.{OutcomeView, answer_outcome}
use Rattle.amqp_turns.specs.Sequences.{AreGiven, given_of}
use Rattle.amqp_turns.specs.Laws.{done_in, IsNoFault}
use Rattle.amqp_turns.specs.Splits.{pieces}
use Rattle.amqp_turns.proofs.Pieces.{pieces_are}
use Rattle.amqp_turns.proofs.Apart.{channels_answered}
use Rattle.amqp_turns.proofs.Running.{opening_step, answers_run, run_is_answers}
use Rattle.amqp_turns.proofs.WholeMessages.{GivesWhole, held_first, header_gives, after_whole}
use Rattle.amqp_messages.specs.declared.opening.Opening.{Opening}
use Rattle.amqp_messages.specs.declared.opening.Opening.TheVariants as openings
use Rattle.amqp_messages.specs.Messages.{Parts, content_of, opening_method}
use Rattle.amqp_messages.specs.Splits.{Sent, sent_frames, split_header, split_of}
use Rattle.amqp_content.specs.Laws.{AreSendable, AreWhole, ComesBack}

opens : (opening : Opening) → is_opening_id (opening_method opening).class (opening_method opening).id ≡ true
opens (openings.Publish m) = refl
opens (openings.Return m) = refl
opens (openings.Deliver m) = refl
opens (openings.GetOk m) = refl

message_gives : (max m : ℕ) (message : Parts) → 1 ≤ m → length message.body ≤ max → GivesWhole max (At Nothing) (split_of m message) (content_of message ∷ [])
message_gives max m message some fits =
    let opening = Meth message.channel (opening_method message.opening) in
    let rest =
    header_gives max message.channel opening (split_header message) message.body (pieces m message.body) refl refl fits (pieces_are m message.body some) in
    held_first max (At Nothing) (At (Opened opening)) Nothing opening _ _
    (opening_step outline_of max opening (outline_of opening) refl (opens message.opening)) rest

messages_give : (max : ℕ) (messages : List Sent) → AreSendable max messages
    → GivesWhole max (At Nothing) (flat_map sent_frames messages) (map (λ sent. content_of sent.message) messages)
messages_give max [] fits = record { state_is = refl; done_are = refl; no_fault = tt }
messages_give max (sent ∷ messages) fits =
    after_whole max (sent_frames sent) (flat_map sent_frames messages) (content_of sent.message ∷ [])
    (map (λ s. content_of s.message) messages) (message_gives max sent.size sent.message fits.0.0 fits.0.1) (messages_give max messages fits.1)

same_contents : (messages : List Sent) → map (λ sent. content_of sent.message) messages ≡ map content_of (map (λ sent. sent.message) messages)
same_contents [] = refl
same_contents (sent ∷ messages) = ap (λ cs. content_of sent.message ∷ cs) (same_contents messages)

-- messages of one channel that are split come back whole and in order, and no frame is a fault
pub splits_whole : (max : ℕ) (messages : List Sent) → AreSendable max messages
    → AreWhole max (flat_map sent_frames messages) (map (λ sent. sent.message) messages)
splits_whole max messages fits =
    let given = messages_give max messages fits in
    record {
      messages_are = λ answers h.
          ap (λ rs. done_in (map answer_outcome rs)) (answers_run outline_of max (flat_map sent_frames messages) answers h)
          ∙ given.done_are ∙ same_contents messages;
      no_fault = λ answers h.
          subst (λ (rs : List (Answer Frame)). AllByRecursion IsNoFault (map answer_outcome rs))
          (sym (answers_run outline_of max (flat_map sent_frames messages) answers h)) given.no_fault;
    }

-- the same of messages of many channels, in whatever order their frames come
pub interleaved_whole : (max : ℕ) (messages : ℕ → List Sent) (frames : List Frame) (outcomes : List OutcomeView)
    → ((channel : ℕ) → AreSendable max (messages channel)) → ((channel : ℕ) → of_channel outline_of channel frames ≡ flat_map sent_frames (messages channel))
    → AreGiven max [] frames outcomes → (channel : ℕ) → ComesBack channel frames outcomes (messages channel)
interleaved_whole max messages frames outcomes fits are given channel =
    let whole = messages_give max (messages channel) (fits channel) in
    let answers = run_answers outline_of max (At Nothing) (of_channel outline_of channel frames) in
    let here : given_of channel frames outcomes ≡ map answer_outcome answers =
    channels_answered max channel frames outcomes given answers (run_is_answers outline_of max (of_channel outline_of channel frames)) in
    let split : given_of channel frames outcomes ≡ map answer_outcome (run_answers outline_of max (At Nothing) (flat_map sent_frames (messages channel))) =
    here ∙ ap (λ fs. map answer_outcome (run_answers outline_of max (At Nothing) fs)) (are channel) in
    record {
      messages_are = ap done_in split ∙ whole.done_are;
      no_fault = subst (λ (os : List OutcomeView). AllByRecursion IsNoFault os) (sym split) whole.no_fault;
    }
