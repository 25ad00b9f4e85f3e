-- The frames of whole messages, one after another, give these messages and no fault.
use Rattle.std.proofs.Common.{◌≡◌, ℕ, ◌+◌, ◌<◌, ◌≤◌, List, [], ◌∷◌, ◌++◌, length, map, refl, sym, ap, ◌∙◌, arith}
use Rattle.std.proofs.lemmas.List.{append-nil, append_assoc, length-append, map-append}
use Rattle.std.specs.List.{AllByRecursion, flat_map}
use Rattle.amqp_types.specs.ContentHeaders.{ContentHeader}
use Rattle.amqp_wire.specs.Frames.{Frame, Head, Body}
use Rattle.amqp_wire.specs.Outlines.{outline_of}
use Rattle.amqp_turns.specs.Units.{size_in, bytes_in, Begun, Nothing, Opened, Headed}
use Rattle.amqp_turns.specs.Answers.{Answer, Within, Ends}
use Rattle.amqp_turns.specs.Stands.{State, At}
use Rattle.amqp_turns.specs.Steps.{step, run_answers, run_state}
use Rattle.amqp_turns.specs.Messages.{Content, method_in, header_in, joined, content_with}
use Rattle.amqp_turns.specs.Outcomes.{OutcomeView, done, answer_outcome}
use Rattle.amqp_turns.specs.Laws.{done_in, IsNoFault}
use Rattle.amqp_turns.proofs.Moving.{all-append, bytes_in-push}
use Rattle.amqp_turns.proofs.Running.{header_step, empty_step, body_step, last_step, run_answers-append, run_state-append}
use Rattle.amqp_turns.proofs.Telling.{joined-push}
use Rattle.amqp_turns.proofs.Pieces.{ArePieces}

-- The messages that outcomes complete one after the other are those of the first, and then those of the others.
pub done_in-append : (xs ys : List OutcomeView) → done_in (xs ++ ys) ≡ done_in xs ++ done_in ys
done_in-append [] ys = refl
done_in-append (done content ∷ xs) ys = ap (λ cs. content ∷ cs) (done_in-append xs ys)
done_in-append (x ∷ xs) ys = done_in-append xs ys

-- the outcomes of frames from a state on
abbrev pub outcomes_of : ℕ → State Frame → List Frame → List OutcomeView
outcomes_of max state frames = map answer_outcome (run_answers outline_of max state frames)

-- frames that leave nothing begun, and give just these messages
pub record GivesWhole (max : ℕ) (state : State Frame) (frames : List Frame) (contents : List Content) : Type 0 where
  pub state_is : run_state outline_of max state frames ≡ At Nothing
  pub done_are : done_in (outcomes_of max state frames) ≡ contents
  pub no_fault : AllByRecursion IsNoFault (outcomes_of max state frames)

-- ---- one message

-- A part of a message in front of frames that give whole messages gives the same messages with them.
pub held_first : (max : ℕ) (state next : State Frame) (begun : Begun Frame) (frame : Frame) (frames : List Frame) (contents : List Content)
    → step outline_of max state frame ≡ (Within begun frame, next) → GivesWhole max next frames contents → GivesWhole max state (frame ∷ frames) contents
held_first max state next begun frame frames contents e h =
    record { state_is = rw e h.state_is; done_are = rw e h.done_are; no_fault = rw e (tt, h.no_fault) }

done_last : (max : ℕ) (state : State Frame) (begun : Begun Frame) (frame : Frame)
    → step outline_of max state frame ≡ (Ends begun frame, At Nothing) → GivesWhole max state (frame ∷ []) (content_with begun frame ∷ [])
done_last max state begun frame e = record { state_is = ap (λ (p : Answer Frame × State Frame). p.1) e; done_are = rw e refl; no_fault = rw e (tt, tt) }

-- a message with this body
abbrev message_with : ℕ → Frame → Frame → List ℕ → Content
message_with channel opening header body = record { channel = channel; opening = method_in opening; properties = (header_in header).options; body = body }

bodies_give : (max channel : ℕ) (opening header : Frame) (before : List Frame) (part : List ℕ) (parts : List (List ℕ))
    → AllByRecursion (λ p. 1 ≤ length p) parts → bytes_in outline_of before + length (flat_map (λ p. p) (part ∷ parts)) ≡ size_in (outline_of header)
    → GivesWhole max (At (Headed opening header before)) (map (λ p. Body channel p) (part ∷ parts))
    (message_with channel opening header (joined before ++ flat_map (λ p. p) (part ∷ parts)) ∷ [])
bodies_give max channel opening header before part [] some total =
    let sum : bytes_in outline_of before + length part ≡ size_in (outline_of header) = omega (arith, total, length-append part []) in
    let body : joined (before ++ Body channel part ∷ []) ≡ joined before ++ (part ++ []) =
    joined-push before (Body channel part) ∙ ap (λ b. joined before ++ b) (sym (append-nil part)) in
    rw (← body)
    (done_last max (At (Headed opening header before)) (Headed opening header before) (Body channel part)
    (last_step outline_of max opening header before (Body channel part) (outline_of (Body channel part)) refl tt sum))
bodies_give max channel opening header before part (next ∷ parts) some total =
    let more : bytes_in outline_of before + length part < size_in (outline_of header) =
    omega (arith, total, some.0, length-append part (flat_map (λ p. p) (next ∷ parts)), length-append next (flat_map (λ p. p) parts)) in
    let sum : bytes_in outline_of (before ++ Body channel part ∷ []) + length (flat_map (λ p. p) (next ∷ parts)) ≡ size_in (outline_of header) =
    omega (arith, total, bytes_in-push outline_of before (Body channel part), length-append part (flat_map (λ p. p) (next ∷ parts))) in
    let rest = bodies_give max channel opening header (before ++ Body channel part ∷ []) next parts some.1 sum in
    let body : joined (before ++ Body channel part ∷ []) ++ flat_map (λ p. p) (next ∷ parts) ≡ joined before ++ (part ++ flat_map (λ p. p) (next ∷ parts)) =
    ap (λ b. b ++ flat_map (λ p. p) (next ∷ parts)) (joined-push before (Body channel part))
    ∙ append_assoc (joined before) part (flat_map (λ p. p) (next ∷ parts)) in
    rw (← body)
    (held_first max (At (Headed opening header before)) (At (Headed opening header (before ++ Body channel part ∷ [])))
    (Headed opening header before) (Body channel part) (map (λ p. Body channel p) (next ∷ parts)) _
    (body_step outline_of max opening header before (Body channel part) (outline_of (Body channel part)) refl tt more) rest)

-- after the opening
pub header_gives : (max channel : ℕ) (opening : Frame) (header : ContentHeader) (body : List ℕ) (parts : List (List ℕ))
    → header.class_id ≡ 60 → header.body_size ≡ length body → length body ≤ max → ArePieces body parts
    → GivesWhole max (At (Opened opening)) (Head channel header ∷ map (λ p. Body channel p) parts)
    (record { channel = channel; opening = method_in opening; properties = header.options; body = body } ∷ [])
header_gives max channel opening header body [] basic size fits are =
    let none : size_in (outline_of (Head channel header)) ≡ 0 = size ∙ ap length (sym are.joined) in
    rw (← are.joined)
    (done_last max (At (Opened opening)) (Opened opening) (Head channel header)
    (empty_step outline_of max opening (Head channel header) (outline_of (Head channel header)) refl basic none))
header_gives max channel opening header body (part ∷ parts) basic size fits are =
    let total : length (flat_map (λ p. p) (part ∷ parts)) ≡ length body = ap length are.joined in
    let long : 1 ≤ length body = omega (arith, total, are.some.0, length-append part (flat_map (λ p. p) parts)) in
    let rest = bodies_give max channel opening (Head channel header) [] part parts are.some.1 (omega (arith, total, size)) in
    rw (← are.joined)
    (held_first max (At (Opened opening)) (At (Headed opening (Head channel header) []))
    (Opened opening) (Head channel header) (map (λ p. Body channel p) (part ∷ parts)) _
    (header_step outline_of max opening (Head channel header) (outline_of (Head channel header)) refl basic (omega (arith, size)) (omega (arith, size))) rest)

-- ---- one message after another

-- The frames of whole messages, and then those of more whole messages, give all of these, and no fault.
pub after_whole : (max : ℕ) (front back : List Frame) (contents more : List Content) → GivesWhole max (At Nothing) front contents
    → GivesWhole max (At Nothing) back more → GivesWhole max (At Nothing) (front ++ back) (contents ++ more)
after_whole max front back contents more h g =
    let answers : outcomes_of max (At Nothing) (front ++ back) ≡ outcomes_of max (At Nothing) front ++ outcomes_of max (At Nothing) back =
    rw (run_answers-append outline_of max (At Nothing) front back, h.state_is, map-append) refl in
    record {
      state_is = rw (run_state-append outline_of max (At Nothing) front back, h.state_is) g.state_is;
      done_are = rw (answers, done_in-append (outcomes_of max (At Nothing) front) (outcomes_of max (At Nothing) back), h.done_are, g.done_are) refl;
      no_fault =
          rw answers
          (all-append IsNoFault (outcomes_of max (At Nothing) front) (outcomes_of max (At Nothing) back) h.no_fault g.no_fault);
    }
