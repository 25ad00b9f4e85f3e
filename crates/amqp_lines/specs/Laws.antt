-- Laws of lines.
use Rattle.std.specs.Prelude.{◌≡◌, ◌≢◌, ◌≤◌, ◌+◌, ◌*◌, ℕ, List, ◌++◌, length, codes}
use Rattle.std.specs.List.{AllByRecursion}
use Rattle.amqp_wire.specs.Frames.{Frame}
use Rattle.amqp_types.specs.Levels.{strict}
use Rattle.amqp_types.specs.Judging.{IsBytes}
use Rattle.amqp_wire.specs.Spelling.{Spells}
use Rattle.amqp_wire.specs.Canonical.{canon}
use Rattle.amqp_lines.specs.Lines.{line, lines}

-- one newline, which is the last byte
pub record HasOneNewline (text : List ℕ) : Type 0 where
  pub front : List ℕ
  pub parts : text ≡ front ++ codes "\n"
  pub none_before : AllByRecursion (λ byte. byte ≢ 10) front

-- each frame, strict or not, has such a line
abbrev pub LinesHaveOneNewline : Type 0
LinesHaveOneNewline = (frame : Frame) → HasOneNewline (line frame)

-- The line of a frame is at most four times as long as the bytes that encode it
-- strictly, and 400 bytes.
abbrev pub LinesAreBounded : Type 0
LinesAreBounded =
    (bytes : List ℕ) (frame : Frame) → Spells strict bytes frame
    → length (line frame) ≤ 4 * length bytes + 400

-- A frame that its canonical bytes encode strictly. So it is no heartbeat on channel 0 that does
-- not belong there, it is not long and not too deep.
pub record IsStrict (frame : Frame) : Type 0 where
  pub are_bytes : IsBytes (canon frame)
  pub encodes : Spells strict (canon frame) frame

-- two such frames with equal lines are equal
abbrev pub EqualLinesAreEqualFrames : Type 0
EqualLinesAreEqualFrames = (f g : Frame) → IsStrict f → IsStrict g → line f ≡ line g → f ≡ g

-- two sequences of such frames with equal text are equal
abbrev pub EqualTextsAreEqualSequences : Type 0
EqualTextsAreEqualSequences =
    (fs gs : List Frame) → AllByRecursion IsStrict fs
    → AllByRecursion IsStrict gs → lines fs ≡ lines gs → fs ≡ gs
