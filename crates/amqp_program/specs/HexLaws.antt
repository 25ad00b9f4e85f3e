-- What equal texts of `hex` say.
use Rattle.std.specs.Prelude.{◌≡◌, ◌↔◌, ℕ, List, Some}
use Rattle.hex.specs.Hex.{encode_lower}
use Rattle.amqp_types.specs.Judging.{IsBytes}
use Rattle.amqp_types.specs.Levels.{Level}
use Rattle.amqp_wire.specs.Frames.{Frame}
use Rattle.amqp_wire.specs.Fronts.{front}
use Rattle.amqp_stream.specs.Ends.{Supply}
use Rattle.amqp_program.specs.Reports.{max_payload}
use Rattle.amqp_program.specs.Runs.{AcceptsHex}

-- two lists of bytes whose lower-case hex is the same are the same
abbrev pub EqualHexIsEqualBytes : Type 0
EqualHexIsEqualBytes =
    (a b : List ℕ) → IsBytes a → IsBytes b → encode_lower a ≡ encode_lower b → a ≡ b

-- the frames that an accepted text encodes
abbrev pub frames_accepted : (level : Level) (text written : List ℕ) (b : Supply)
    → AcceptsHex level text written b → List Frame
frames_accepted level text written b accepted = front level (Some max_payload) accepted.bytes

-- What was written for two accepted texts is equal exactly where these encode the same frames.
abbrev pub EqualOutputIsEqualFrames : Type 0
EqualOutputIsEqualFrames = (level : Level) (text other written output : List ℕ) (b c : Supply)
    (one : AcceptsHex level text written b) (two : AcceptsHex level other output c)
    → (written ≡ output)
    ↔ (frames_accepted level text written b one ≡ frames_accepted level other output c two)
