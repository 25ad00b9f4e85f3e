-- The outcomes of the frames of one channel, by their longest prefix of finished units and at most
-- one begun unit.
use Rattle.std.specs.Prelude.{◌≡◌, ℕ, ◌==◌, List, [], ◌∷◌, ◌++◌, map, if◌then◌else◌}
use Rattle.std.specs.List.{flat_map}
use Rattle.amqp_wire.specs.declared.outline.FrameOutline.{FrameOutline}
use Rattle.amqp_wire.specs.declared.outline.FrameOutline.TheVariants as outlines
use Rattle.amqp_turns.specs.declared.fault.ContentFault.{ContentFault}
use Rattle.amqp_turns.specs.declared.fault.ContentFault.TheVariants as faults
use Rattle.amqp_turns.specs.Units.{Finished, Lone, Empty, Full, Begun}
use Rattle.amqp_turns.specs.Units.{Nothing, Opened, Headed, Reading}

-- A method stands alone; a frame continues what has begun, or is the last of it; or it
-- is not in turn.
pub data Answer (X : Type 0) : Type 0 where
  Alone : (x : X) → Answer X
  Within : (begun : Begun X) (x : X) → Answer X
  Ends : (begun : Begun X) (x : X) → Answer X
  Wrong : (fault : ContentFault) → Answer X

-- ---- in turn

-- bodies that continue a message, after those that it has
abbrev pub bodies_within : {X : Type 0} → X → X → List X → List X → List (Answer X)
bodies_within opening header before [] = []
bodies_within opening header before (x ∷ xs) =
    Within (Headed opening header before) x ∷ bodies_within opening header (before ++ x ∷ []) xs

-- the opening, the content header and the bodies of a begun unit continue it
abbrev pub begun_answers : {X : Type 0} → Begun X → List (Answer X)
begun_answers Nothing = []
begun_answers (Opened opening) = Within Nothing opening ∷ []
begun_answers (Headed opening header bodies) =
    Within Nothing opening ∷ Within (Opened opening) header ∷ bodies_within opening header [] bodies

-- the last frame of a message ends it
abbrev pub finished_answers : {X : Type 0} → Finished X → List (Answer X)
finished_answers (Lone method) = Alone method ∷ []
finished_answers (Empty opening header) = Within Nothing opening ∷ Ends (Opened opening) header ∷ []
finished_answers (Full opening header bodies last) =
    begun_answers (Headed opening header bodies) ++ Ends (Headed opening header bodies) last ∷ []

-- the outcomes of the frames of finished units and a begun unit
abbrev pub answers_in : {X : Type 0} → List (Finished X) → Begun X → List (Answer X)
answers_in units begun = flat_map finished_answers units ++ begun_answers begun

-- ---- out of turn

-- Between units neither a content header nor a body is in turn. (Any method is; here and below a
-- frame outside of all content is `Faulted`.)
abbrev pub fault_between : FrameOutline → ContentFault
fault_between (outlines.Header channel class size) = faults.UnexpectedHeader
fault_between (outlines.Body channel count) = faults.UnexpectedBody
fault_between (outlines.Method channel class id) = faults.UnexpectedMethod
fault_between outlines.ProtocolHeader = faults.Faulted
fault_between (outlines.Heartbeat channel) = faults.Faulted

-- after an opening only a content header of the class basic, of an allowed size, is in turn
abbrev pub fault_opened : FrameOutline → ContentFault
fault_opened (outlines.Method channel class id) = faults.UnexpectedMethod
fault_opened (outlines.Body channel count) = faults.UnexpectedBody
fault_opened (outlines.Header channel class size) =
    if class == 60 then faults.BodyTooLarge else faults.WrongClass
fault_opened outlines.ProtocolHeader = faults.Faulted
fault_opened (outlines.Heartbeat channel) = faults.Faulted

-- after a content header only bodies are in turn, up to its size
abbrev pub fault_headed : FrameOutline → ContentFault
fault_headed (outlines.Method channel class id) = faults.UnexpectedMethod
fault_headed (outlines.Header channel class size) = faults.UnexpectedHeader
fault_headed (outlines.Body channel count) = faults.BodyOverrun
fault_headed outlines.ProtocolHeader = faults.Faulted
fault_headed (outlines.Heartbeat channel) = faults.Faulted

-- the fault of a frame after what has begun
abbrev pub fault_after : {X : Type 0} → Begun X → FrameOutline → ContentFault
fault_after Nothing o = fault_between o
fault_after (Opened opening) o = fault_opened o
fault_after (Headed opening header bodies) o = fault_headed o

module _ {X : Type 0} (outline : X → FrameOutline) where
  -- the first frame that is not in turn has its fault, and each later one finds the channel faulted
  abbrev pub rest_answers : Begun X → List X → List (Answer X)
  rest_answers begun [] = []
  rest_answers begun (x ∷ xs) =
      Wrong (fault_after begun (outline x)) ∷ map (λ _. Wrong faults.Faulted) xs

  -- the outcomes by a reading of the frames
  abbrev pub answers_of : (max : ℕ) (xs : List X) → Reading outline max xs → List (Answer X)
  answers_of max xs reading =
      answers_in reading.units reading.begun ++ rest_answers reading.begun reading.rest

  -- the outcomes of frames of one channel, one for each
  pub record Answers (max : ℕ) (xs : List X) (answers : List (Answer X)) : Type 0 where
    pub reading : Reading outline max xs
    pub are : answers ≡ answers_of max xs reading

  -- the last of the outcomes
  pub record IsLastAnswer (max : ℕ) (xs : List X) (answer : Answer X) : Type 0 where
    pub before : List (Answer X)
    pub answers : Answers max xs (before ++ answer ∷ [])
