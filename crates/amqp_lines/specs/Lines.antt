-- The line of a frame, and the text of a sequence of frames.
use Rattle.std.specs.Prelude.{ℕ, ◌+◌, ◌*◌, ◌==◌, List, [], ◌++◌, codes, unwrap_or, if◌then◌else◌}
use Rattle.std.specs.Fmt.{decimal}
use Rattle.std.specs.List.{flat_map}
use Rattle.amqp_types.specs.Rows.{slots_at}
use Rattle.amqp_types.specs.Properties.{properties}
use Rattle.amqp_types.specs.Methods.{Method}
use Rattle.amqp_types.specs.ContentHeaders.{ContentHeader}
use Rattle.amqp_wire.specs.Frames.{Frame, Proto, Meth, Head, Body, Beat, BadBeat}
use Rattle.amqp_lines.specs.Words.{hex}
use Rattle.amqp_lines.specs.Slots.{slots_text, set_text}

-- a number with a space in front
unfoldable pub spaced : ℕ → List ℕ
spaced number = codes " " ++ decimal number

-- the class and the method by their numbers, and a word for each field that is not reserved
unfoldable pub method_words : Method → List ℕ
method_words m =
    spaced m.class
    ++ (codes "." ++ (decimal m.id ++ slots_text (unwrap_or (slots_at m.class m.id) []) m.items))

-- the class, the size of the body, and each property that is set
unfoldable pub header_words : ContentHeader → List ℕ
header_words header =
    spaced header.class_id ++ (spaced header.body_size ++ set_text properties header.options)

-- A heartbeat on a channel where none belongs names that channel; on channel 0 it is a heartbeat.
abbrev pub beat_words : ℕ → List ℕ
beat_words channel = if channel == 0 then [] else spaced channel

-- what a line says of a frame
unfoldable pub words : Frame → List ℕ
words (Proto major minor revision) =
    codes "proto "
    ++ (decimal major ++ (codes "." ++ (decimal minor ++ (codes "." ++ decimal revision))))
words (Meth channel m) = codes "method" ++ (spaced channel ++ method_words m)
words (Head channel header) = codes "header" ++ (spaced channel ++ header_words header)
words (Body channel content) = codes "body" ++ (spaced channel ++ (codes " x" ++ hex content))
words Beat = codes "beat"
words (BadBeat channel) = codes "beat" ++ beat_words channel

-- the line of a frame, which ends with its one newline
unfoldable pub line : Frame → List ℕ
line frame = words frame ++ codes "\n"

-- the text of a sequence of frames: their lines
unfoldable pub lines : List Frame → List ℕ
lines frames = flat_map line frames

-- how many bytes a line has at most, where the payload of its frame has at most m: four for each
-- byte of the frame, and 400
abbrev pub longest_line : ℕ → ℕ
longest_line m = 4 * (m + 8) + 400
