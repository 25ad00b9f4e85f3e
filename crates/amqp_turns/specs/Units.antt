-- The units of a channel's content (AMQP 0-9-1, section 4.2.6): methods that stand alone, and
-- messages, each an opening, a content header and bodies.
use Rattle.std.specs.Prelude.{◌≡◌, ℕ, ◌+◌, ◌<◌, ◌≤◌, ◌==◌, ◌&&◌, ◌||◌, Bool, true, false}
use Rattle.std.specs.Prelude.{IsTrue, List, [], ◌∷◌, ◌++◌, length}
use Rattle.std.specs.List.{AllByRecursion, flat_map, filter}
use Rattle.amqp_wire.specs.declared.outline.FrameOutline.{FrameOutline}
use Rattle.amqp_wire.specs.declared.outline.FrameOutline.TheVariants as outlines
use Rattle.amqp_wire.specs.Outlines.{outline_channel}

-- ---- what a frame is to a channel's content

-- a method, a content header or a body; other frames stand outside of all content
abbrev pub is_content : FrameOutline → Bool
is_content outlines.ProtocolHeader = false
is_content (outlines.Method channel class id) = true
is_content (outlines.Header channel class size) = true
is_content (outlines.Body channel count) = true
is_content (outlines.Heartbeat channel) = false

-- basic Publish, Return, Deliver and GetOk (class 60, methods 40, 50, 60 and 71): a content header
-- has to follow them
abbrev pub is_opening_id : ℕ → ℕ → Bool
is_opening_id class id = (class == 60) && ((id == 40) || ((id == 50) || ((id == 60) || (id == 71))))

-- a method that opens a message
abbrev pub IsOpening : FrameOutline → Type 0
IsOpening (outlines.Method channel class id) = IsTrue (is_opening_id class id)
IsOpening outlines.ProtocolHeader = ⊥
IsOpening (outlines.Header channel class size) = ⊥
IsOpening (outlines.Body channel count) = ⊥
IsOpening (outlines.Heartbeat channel) = ⊥

-- a method that opens none
abbrev pub IsOtherMethod : FrameOutline → Type 0
IsOtherMethod (outlines.Method channel class id) = is_opening_id class id ≡ false
IsOtherMethod outlines.ProtocolHeader = ⊥
IsOtherMethod (outlines.Header channel class size) = ⊥
IsOtherMethod (outlines.Body channel count) = ⊥
IsOtherMethod (outlines.Heartbeat channel) = ⊥

-- a content header of the class basic
abbrev pub IsBasicHeader : FrameOutline → Type 0
IsBasicHeader (outlines.Header channel class size) = class ≡ 60
IsBasicHeader outlines.ProtocolHeader = ⊥
IsBasicHeader (outlines.Method channel class id) = ⊥
IsBasicHeader (outlines.Body channel count) = ⊥
IsBasicHeader (outlines.Heartbeat channel) = ⊥

-- a body
abbrev pub IsBody : FrameOutline → Type 0
IsBody (outlines.Body channel count) = Unit {0}
IsBody outlines.ProtocolHeader = ⊥
IsBody (outlines.Method channel class id) = ⊥
IsBody (outlines.Header channel class size) = ⊥
IsBody (outlines.Heartbeat channel) = ⊥

-- the size of the whole body that a content header announces
abbrev pub size_in : FrameOutline → ℕ
size_in (outlines.Header channel class size) = size
size_in outlines.ProtocolHeader = 0
size_in (outlines.Method channel class id) = 0
size_in (outlines.Body channel count) = 0
size_in (outlines.Heartbeat channel) = 0

-- the number of body bytes that a frame carries
abbrev pub count_in : FrameOutline → ℕ
count_in (outlines.Body channel count) = count
count_in outlines.ProtocolHeader = 0
count_in (outlines.Method channel class id) = 0
count_in (outlines.Header channel class size) = 0
count_in (outlines.Heartbeat channel) = 0

-- ---- units of frames of any kind that has an outline

-- a method alone; a message without a body; a message whose last body completes it
pub data Finished (X : Type 0) : Type 0 where
  Lone : (method : X) → Finished X
  Empty : (opening header : X) → Finished X
  Full : (opening header : X) (bodies : List X) (last : X) → Finished X

-- between units; an opening alone; an opening and a content header whose body is not complete
pub data Begun (X : Type 0) : Type 0 where
  Nothing : Begun X
  Opened : (opening : X) → Begun X
  Headed : (opening header : X) (bodies : List X) → Begun X

-- the frames of a begun unit
abbrev pub begun_frames : {X : Type 0} → Begun X → List X
begun_frames Nothing = []
begun_frames (Opened opening) = opening ∷ []
begun_frames (Headed opening header bodies) = opening ∷ header ∷ bodies

-- the frames of a finished unit
abbrev pub finished_frames : {X : Type 0} → Finished X → List X
finished_frames (Lone method) = method ∷ []
finished_frames (Empty opening header) = opening ∷ header ∷ []
finished_frames (Full opening header bodies last) = opening ∷ header ∷ (bodies ++ last ∷ [])

-- finished units and at most one begun unit
abbrev pub frames_in : {X : Type 0} → List (Finished X) → Begun X → List X
frames_in units begun = flat_map finished_frames units ++ begun_frames begun

module _ {X : Type 0} (outline : X → FrameOutline) where
  -- a frame that is content, on this channel
  abbrev pub is_of_channel : ℕ → X → Bool
  is_of_channel channel x = is_content (outline x) && (outline_channel (outline x) == channel)

  -- the methods, content headers and bodies of a channel, in order
  abbrev pub of_channel : ℕ → List X → List X
  of_channel channel xs = filter (is_of_channel channel) xs

  -- the number of body bytes that frames carry
  abbrev pub bytes_in : List X → ℕ
  bytes_in [] = 0
  bytes_in (x ∷ xs) = count_in (outline x) + bytes_in xs

  -- What has begun: nothing; an opening; or an opening, a content header of the class basic and of
  -- a size up to the greatest, and bodies of fewer bytes than that.
  abbrev pub IsBegun : ℕ → Begun X → Type 0
  IsBegun max Nothing = Unit {0}
  IsBegun max (Opened opening) = IsOpening (outline opening)
  IsBegun max (Headed opening header bodies) =
      IsOpening (outline opening) × IsBasicHeader (outline header)
      × (size_in (outline header) ≤ max) × AllByRecursion (λ x. IsBody (outline x)) bodies
      × (bytes_in bodies < size_in (outline header))

  -- What is finished: a method that opens no message; or a message, whose bodies add up to its
  -- size, and all but the last to less.
  abbrev pub IsFinished : ℕ → Finished X → Type 0
  IsFinished max (Lone method) = IsOtherMethod (outline method)
  IsFinished max (Empty opening header) =
      IsOpening (outline opening) × IsBasicHeader (outline header) × (size_in (outline header) ≡ 0)
  IsFinished max (Full opening header bodies last) =
      IsBegun max (Headed opening header bodies) × IsBody (outline last)
      × (bytes_in bodies + count_in (outline last) ≡ size_in (outline header))

  -- frames that are finished units and at most one begun unit
  pub record IsInTurn (max : ℕ) (xs : List X) : Type 0 where
    pub units : List (Finished X)
    pub begun : Begun X
    pub finished : AllByRecursion (IsFinished max) units
    pub is_begun : IsBegun max begun
    pub are : xs ≡ frames_in units begun

  -- the longest prefix of frames that is in turn, and what comes after it
  pub record Reading (max : ℕ) (xs : List X) : Type 0 where
    pub units : List (Finished X)
    pub begun : Begun X
    pub rest : List X
    pub finished : AllByRecursion (IsFinished max) units
    pub is_begun : IsBegun max begun
    pub are : xs ≡ frames_in units begun ++ rest
    pub longest : (front back : List X) → xs ≡ front ++ back
        → IsInTurn max front → length front ≤ length (frames_in units begun)
