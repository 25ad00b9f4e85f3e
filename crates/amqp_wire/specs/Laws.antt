-- Laws of frames and sequences.
use Rattle.std.specs.Prelude.{◌≡◌, ◌≢◌, ◌↔◌, ℕ, ◌+◌, ◌≤◌, ◌<◌, ◌^◌, false, List, [], ◌∷◌}
use Rattle.std.specs.Prelude.{◌++◌, length, Option, None, Ok}
use Rattle.std.specs.List.{AllByRecursion}
use Rattle.amqp_types.specs.Levels.{Level, plain, tidy, strict}
use Rattle.amqp_types.specs.Judging.{Judged, Fault, past, took, fault, ◌>>=◌, IsBytes, IsExact}
use Rattle.amqp_types.specs.ContentHeaders.{IsHeaderHeld}
use Rattle.amqp_laws.specs.HeldMethods.{IsHeldMethod}
use Rattle.amqp_wire.specs.declared.frame_type.AMQPFrameType.{AMQPFrameType}
use Rattle.amqp_wire.specs.declared.frame_type.AMQPFrameType.TheVariants as kinds
use Rattle.amqp_wire.specs.Frames.{Frame, Proto, Meth, Head, Body, Beat, BadBeat, Raw}
use Rattle.amqp_wire.specs.HeaderScan.{judge_frame_type, judge_version}
use Rattle.amqp_wire.specs.HeaderScan.{judge_raw, version_raw, scan}
use Rattle.amqp_wire.specs.Spelling.{Spells, IsWithin, SpellsFrames}
use Rattle.amqp_wire.specs.Canonical.{canon, canon_frames, is_deep, is_long, size_of, read_back}
use Rattle.amqp_wire.specs.Verdicts.{judge_frame}
use Rattle.amqp_wire.specs.Fronts.{front, place}

-- no bytes encode two sequences at one level
abbrev pub OneMeaning : Type 0
OneMeaning =
    (level : Level) (m : Option ℕ) (bytes : List ℕ) (fs gs : List Frame)
    → SpellsFrames level m bytes fs → SpellsFrames level m bytes gs → fs ≡ gs

-- no encoding of a frame is a proper front of an encoding of a frame
abbrev pub NoFrameBeginsAnother : Type 0
NoFrameBeginsAnother =
    (level : Level) (bytes rest : List ℕ) (f g : Frame)
    → Spells level bytes f → Spells level (bytes ++ rest) g → rest ≡ []

-- a frame that is encoded within a limit
abbrev pub SpellsWithin : Level → Option ℕ → List ℕ → Frame → Type 0
SpellsWithin level m bytes frame = Spells level bytes frame × IsWithin m bytes

-- a verdict is a frame exactly where the first bytes encode it within the limit
abbrev pub VerdictsAreSpellings : Type 0
VerdictsAreSpellings =
    (level : Level) (m : Option ℕ) → IsExact (judge_frame level m) (SpellsWithin level m)

-- a verdict other than incomplete stays, whatever follows
abbrev pub VerdictsAreStable : Type 0
VerdictsAreStable =
    (level : Level) (m : Option ℕ) (bytes rest : List ℕ) → judge_frame level m bytes ≢ past
    → judge_frame level m (bytes ++ rest) ≡ judge_frame level m bytes

-- what is strict is tidy, and what is tidy is plain
pub record LevelsNest : Type 0 where
  pub strict_is_tidy : (m : Option ℕ) (bytes : List ℕ) (frames : List Frame)
      → SpellsFrames strict m bytes frames → SpellsFrames tidy m bytes frames
  pub tidy_is_plain : (m : Option ℕ) (bytes : List ℕ) (frames : List Frame)
      → SpellsFrames tidy m bytes frames → SpellsFrames plain m bytes frames

-- the canonical bytes are the one strict encoding of these frames, within the limit
pub record HasOneStrict (m : Option ℕ) (frames : List Frame) : Type 0 where
  pub canonical : SpellsFrames strict m (canon_frames frames) frames
  pub only : (bytes : List ℕ) → SpellsFrames strict m bytes frames → bytes ≡ canon_frames frames

-- what is encoded at any level has one strict encoding
abbrev pub OneCanonicalSpelling : Type 0
OneCanonicalSpelling =
    (level : Level) (m : Option ℕ) (bytes : List ℕ) (frames : List Frame)
    → SpellsFrames level m bytes frames → HasOneStrict m frames

-- What programs hold in a frame: a method of the table with items of its fields, a content header
-- with items of its properties, and numbers that fit the bytes in which they are written.
abbrev pub IsFrameHeld : Frame → Type 0
IsFrameHeld (Proto major minor revision) = (major < 2 ^ 8) × (minor < 2 ^ 8) × (revision < 2 ^ 8)
IsFrameHeld (Meth channel m) = (channel < 2 ^ 16) × IsHeldMethod m
IsFrameHeld (Head channel header) = (channel < 2 ^ 16) × IsHeaderHeld header
IsFrameHeld (Body channel content) = channel < 2 ^ 16
IsFrameHeld Beat = Unit {0}
IsFrameHeld (BadBeat channel) = channel < 2 ^ 16

-- two sequences, each encoded within a limit, have equal canonical bytes exactly where they are
-- the same frames
abbrev pub EqualBytesAreEqualFrames : Type 0
EqualBytesAreEqualFrames =
    (level : Level) (m : Option ℕ) (a b : List ℕ) (fs gs : List Frame) → SpellsFrames level m a fs
    → SpellsFrames level m b gs → (canon_frames fs ≡ canon_frames gs) ↔ (fs ≡ gs)

-- the canonical bytes of a frame are decoded to it, a bad heartbeat on channel 0 to a heartbeat,
-- whatever follows; fewer are incomplete
pub record ReadsBack (level : Level) (frame : Frame) : Type 0 where
  pub whole : (rest : List ℕ)
      → judge_frame level None (canon frame ++ rest) ≡ took (read_back frame) (length (canon frame))
  pub fewer : (first rest : List ℕ) → canon frame ≡ first ++ rest
      → rest ≢ [] → judge_frame level None first ≡ past

-- each frame that programs hold, and that is neither too deep nor long, is read back from its
-- canonical bytes
abbrev pub CanonicalBytesReadBack : Type 0
CanonicalBytesReadBack =
    (level : Level) (frame : Frame) → IsFrameHeld frame
    → size_of frame ≡ Ok (length (canon frame)) → ReadsBack level frame

-- canonical bytes are as short as these bytes, and no frame is long or too deep
pub record IsShortest (bytes : List ℕ) (frames : List Frame) : Type 0 where
  pub shortest : length (canon_frames frames) ≤ length bytes
  pub none_is_deep : AllByRecursion (λ frame. is_deep frame ≡ false) frames
  pub none_is_long : AllByRecursion (λ frame. is_long frame ≡ false) frames

-- canonical bytes are as short as any encoding of the same frames
abbrev pub CanonicalBytesAreShortest : Type 0
CanonicalBytesAreShortest =
    (level : Level) (m : Option ℕ) (bytes : List ℕ) (frames : List Frame)
    → SpellsFrames level m bytes frames → IsShortest bytes frames

-- the bytes begin with a sequence of these frames, as long as any, and then comes the rest
pub record IsLongestSequence (level : Level) (m : Option ℕ)
    (bytes : List ℕ) (frames : List Frame) (rest : List ℕ) : Type 0 where
  pub spelled : List ℕ
  pub parts : bytes ≡ spelled ++ rest
  pub sequence : SpellsFrames level m spelled frames
  pub longest : (other more : List ℕ) (fs : List Frame) → bytes ≡ other ++ more
      → SpellsFrames level m other fs → length other ≤ length spelled

-- the front of some bytes is the longest sequence that they begin with
abbrev pub FrontIsLongest : Type 0
FrontIsLongest =
    (level : Level) (m : Option ℕ) (bytes : List ℕ) → IsBytes bytes
    → IsLongestSequence level m bytes (front level m bytes) (place level m bytes)

-- the bytes are decoded whole, and are the canonical bytes of their frames
pub record GivesItself (m : Option ℕ) (bytes : List ℕ) : Type 0 where
  pub whole : place plain m bytes ≡ []
  pub same : canon_frames (front plain m bytes) ≡ bytes

-- what was written, given again, is decoded whole and written as itself
abbrev pub WrittenAgain : Type 0
WrittenAgain =
    (level : Level) (m : Option ℕ) (bytes : List ℕ) → IsBytes bytes
    → GivesItself m (canon_frames (front level m bytes))

-- what was decoded after the first byte, with that byte counted too
abbrev pub behind_first : Judged Raw → Judged Raw
behind_first judged = judged >>= λ raw. took raw.0 (1 + raw.1)

-- The header scan without a limit is put together of its parts: the type byte, and after it a
-- version or a raw frame.
pub record HeaderScanIsItsParts : Type 0 where
  pub none : scan None [] ≡ past
  pub unknown : (bytes : List ℕ) (bad : Fault)
      → judge_frame_type bytes ≡ fault bad → scan None bytes ≡ fault bad
  pub version : (byte : ℕ) (bytes : List ℕ)
      → judge_frame_type (byte ∷ bytes) ≡ took kinds.ProtocolHeader 1
      → scan None (byte ∷ bytes)
      ≡ behind_first (judge_version bytes >>= λ v. took (version_raw v.0) v.1)
  pub framed : (byte : ℕ) (bytes : List ℕ) (kind : AMQPFrameType)
      → kind ≢ kinds.ProtocolHeader → judge_frame_type (byte ∷ bytes) ≡ took kind 1
      → scan None (byte ∷ bytes) ≡ behind_first (judge_raw None kind bytes)
