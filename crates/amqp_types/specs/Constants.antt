-- The numbers of the standard: the first byte of each type of frame and the last of all (AMQP
-- 0-9-1, section 4.2.3), and how deep values nest.
use Rattle.std.specs.Prelude.{ℕ, List, [], ◌∷◌}

-- the first byte of a protocol header, an `A`
abbrev pub protocol_byte : ℕ
protocol_byte = 65

-- what follows it there: `MQP` and a zero
abbrev pub protocol_mark : List ℕ
protocol_mark = 77 ∷ 81 ∷ 80 ∷ 0 ∷ []

-- the first byte of a method frame
abbrev pub method_byte : ℕ
method_byte = 1

-- the first byte of a content header frame
abbrev pub header_byte : ℕ
header_byte = 2

-- the first byte of a content body frame
abbrev pub body_byte : ℕ
body_byte = 3

-- the first byte of a heartbeat frame
abbrev pub heartbeat_byte : ℕ
heartbeat_byte = 8

-- the last byte of each frame but a protocol header
abbrev pub end_byte : ℕ
end_byte = 206

-- how many tables and arrays may stand one inside another
abbrev pub max_depth : ℕ
max_depth = 64

-- how many may stand inside a field that is itself a table or an array
abbrev pub inner_depth : ℕ
inner_depth = 63
