-- Laws of reading lines back.
use Rattle.std.specs.Prelude.{◌≡◌, ◌≢◌, ◌↔◌, ◌≤◌, ℕ, List, [], length, Some}
use Rattle.std.specs.Prelude.{Result, Ok, Err, false}
use Rattle.amqp_types.specs.Levels.{plain, strict}
use Rattle.amqp_types.specs.Judging.{IsBytes}
use Rattle.amqp_wire.specs.Frames.{Frame, BadBeat}
use Rattle.amqp_wire.specs.Fronts.{front}
use Rattle.amqp_wire.specs.Spelling.{SpellsFrames}
use Rattle.amqp_wire.specs.Canonical.{canon, canon_frames, is_deep, is_long}
use Rattle.amqp_wire.specs.Laws.{IsFrameHeld}
use Rattle.amqp_stream.specs.Changes.{Change}
use Rattle.amqp_stream.specs.Ends.{Supply, Store, Gains}
use Rattle.amqp_stream.specs.Calls.{Call}
use Rattle.amqp_lines.specs.Dumping.{dumped}
use Rattle.amqp_lines.specs.Laws.{IsStrict}
use Rattle.amqp_lines.specs.Lines.{line, lines, longest_line}
use Rattle.amqp_lines.specs.OneLine.{IsStrictWithin}
use Rattle.amqp_lines.specs.Undumping.{IsLongestText, UndumpsExactly}
use Rattle.amqp_lines.specs.declared.errors.UndumpError.{UndumpError}
use Rattle.amqp_lines.specs.declared.errors.UndumpError.TheVariants as errors

-- the line of a frame within a limit on payloads is no longer than `longest_line` says
abbrev pub LinesFitTheLimit : Type 0
LinesFitTheLimit =
    (m : ℕ) (frame : Frame) → IsStrictWithin m frame → length (line frame) ≤ longest_line m

-- two longest texts are the same: the frames, and the bytes after them
pub record IsSameText (fs gs : List Frame) (rest more : List ℕ) : Type 0 where
  pub frames : fs ≡ gs
  pub rests : rest ≡ more

-- within a limit, some bytes begin with at most one longest text
abbrev pub OneLongestText : Type 0
OneLongestText =
    (m : ℕ) (bytes : List ℕ) (fs gs : List Frame) (rest more : List ℕ)
    → IsLongestText m bytes fs rest → IsLongestText m bytes gs more → IsSameText fs gs rest more

-- What `dump` writes for some bytes is, to its end, the text of the frames at the
-- front of the bytes.
abbrev pub DumpedTextIsReadBack : Type 0
DumpedTextIsReadBack =
    (m : ℕ) (bytes : List ℕ) → IsBytes bytes
    → IsLongestText m (dumped m bytes) (front plain (Some m) bytes) []

-- What `undump` returns and writes over what `dump` writes for some bytes: it finds no bad text and
-- no line cut short, and at the end of input has written the canonical bytes of the frames at the
-- front of the bytes.
pub record Undoes (m : ℕ) (bytes : List ℕ) (sink : Change Store)
    (result : Result (Unit {0}) UndumpError) : Type 0 where
  pub never_bad : result ≢ Err errors.BadText
  pub never_short : result ≢ Err errors.CutShort
  pub written : result ≡ Ok tt
      → Gains sink.old sink.new (canon_frames (front plain (Some m) bytes))

-- so it is for both calls with the same limit, where the source of `undump` reports its bytes
abbrev pub UndumpUndoesDump : Type 0
UndumpUndoesDump =
    (call : Call Supply Store) (bytes : List ℕ) (result : Result (Unit {0}) UndumpError)
    → IsBytes bytes → UndumpsExactly call (dumped call.limit bytes) result
    → Undoes call.limit bytes call.sink result

-- bytes that encode a sequence of frames strictly within a limit, and its text
pub record AreBytesAndText (m : ℕ) (bytes text : List ℕ) : Type 0 where
  pub are_bytes : IsBytes bytes
  pub frames : List Frame
  pub is_sequence : SpellsFrames strict (Some m) bytes frames
  pub is_text : text ≡ lines frames

-- they correspond one to one
pub record CorrespondOneToOne : Type 0 where
  pub one_text : (m : ℕ) (bytes t u : List ℕ)
      → AreBytesAndText m bytes t → AreBytesAndText m bytes u → t ≡ u
  pub one_sequence : (m : ℕ) (b c text : List ℕ)
      → AreBytesAndText m b text → AreBytesAndText m c text → b ≡ c

-- a frame that is no heartbeat on channel 0 that does not belong there, and neither
-- too deep nor long
pub record IsUsual (frame : Frame) : Type 0 where
  pub belongs : frame ≢ BadBeat 0
  pub not_deep : is_deep frame ≡ false
  pub not_long : is_long frame ≡ false

-- a frame that programs hold, and whose canonical bytes are bytes, is encoded strictly by them
-- exactly where it is usual
abbrev pub StrictFramesAreUsual : Type 0
StrictFramesAreUsual =
    (frame : Frame) → IsFrameHeld frame → IsBytes (canon frame) → IsStrict frame ↔ IsUsual frame
