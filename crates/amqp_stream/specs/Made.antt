-- The stream that is generated: four frames in turn, of which the canonical encoding leaves only
-- the second as it is.
use Rattle.std.specs.Prelude.{◌≡◌, ℕ, zero, suc, ◌+◌, ◌%◌, ◌==◌, List, [], ◌∷◌}
use Rattle.std.specs.Prelude.{◌++◌, length, Some, if◌then◌else◌}
use Rattle.amqp_types.specs.Levels.{plain}
use Rattle.amqp_wire.specs.Frames.{Frame}
use Rattle.amqp_wire.specs.Spelling.{framed, SpellsFrames}
use Rattle.amqp_types.specs.Constants.{method_byte, body_byte, heartbeat_byte}

-- the most frames that are generated
abbrev pub most_frames : ℕ
most_frames = 100000

-- `confirm.select`, with all bits of its flag byte set, of which one has a meaning
abbrev pub select_payload : List ℕ
select_payload = 0 ∷ 85 ∷ 0 ∷ 10 ∷ 255 ∷ []

-- `queue.declare`: a reserved number that is not 0, an empty name, all bits of the flag byte set,
-- of which five have a meaning, and a table that has the key `a` twice, first false and then
-- true, encoded as 7
abbrev pub declare_payload : List ℕ
declare_payload =
    0 ∷ 50 ∷ 0 ∷ 10 ∷ 0 ∷ 9 ∷ 0 ∷ 255 ∷ 0 ∷ 0 ∷ 0 ∷ 8 ∷ 1 ∷ 97 ∷ 116 ∷ 0 ∷ 1 ∷ 97 ∷ 116 ∷ 7 ∷ []

-- channels 1 to 1000, one after another
abbrev pub made_channel : ℕ → ℕ
made_channel i = 1 + i % 1000

-- the payload of a heartbeat or a body: one byte, which counts up
abbrev pub made_payload : ℕ → List ℕ
made_payload i = i % 256 ∷ []

-- frame i: a heartbeat that carries a byte, a body, and two methods
unfoldable pub made_frame : ℕ → List ℕ
made_frame i =
    if i % 4 == 0 then framed heartbeat_byte 0 (made_payload i)
    else (if i % 4 == 1 then framed body_byte (made_channel i) (made_payload i)
    else (if i % 4 == 2 then framed method_byte (made_channel i) select_payload
    else framed method_byte (made_channel i) declare_payload))

-- n frames, from frame i on
abbrev pub made_from : ℕ → ℕ → List ℕ
made_from i zero = []
made_from i (suc n) = made_frame i ++ made_from (i + 1) n

-- the first n frames
abbrev pub made : ℕ → List ℕ
made n = made_from 0 n

-- bytes that are a sequence of n frames, with payloads of at most 131,072 bytes
pub record IsSequenceOf (n : ℕ) (bytes : List ℕ) : Type 0 where
  pub frames : List Frame
  pub spelled : SpellsFrames plain (Some 131072) bytes frames
  pub count : length frames ≡ n

-- the first n frames are n frames
abbrev pub MadeIsASequence : Type 0
MadeIsASequence = (n : ℕ) → IsSequenceOf n (made n)
