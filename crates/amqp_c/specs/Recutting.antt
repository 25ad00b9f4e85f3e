-- Bodies cut anew, by numbers.
use Rattle.std.specs.Prelude.{◌≡◌, ℕ, ◌+◌, ◌-◌, ◌%◌, ◌≤◌, Bool, true, false, List, [], ◌∷◌, ◌++◌}
use Rattle.std.specs.Prelude.{take, drop, length, Option, Some, None}
use Rattle.std.specs.List.{flat_map}
use Rattle.amqp_wire.specs.Frames.{Frame, Body}
use Rattle.amqp_turns.specs.Splits.{frames_given, left_over}
use Rattle.amqp_c.specs.declared.recutting.BodyCut.{BodyCut}
use Rattle.amqp_c.specs.declared.recutting.BodyPiece.{BodyPiece}
use Rattle.amqp_c.specs.Statuses.{bad_argument}

-- nothing is cut
abbrev pub no_cut : BodyCut
no_cut = record { pieces = 0; left = 0; status = bad_argument }

-- no piece
abbrev pub no_piece : BodyPiece
no_piece = record { held_start = 0; held_length = 0; start = 0; length = 0 }

-- the bytes that are held after a body: where it ends its message, none
abbrev pub bytes_left : ℕ → Bool → List ℕ → List ℕ
bytes_left size true bytes = []
bytes_left size false bytes = left_over size bytes

-- how many bytes are left then of so many
abbrev pub left_count : ℕ → Bool → ℕ → ℕ
left_count size true n = 0
left_count size false n = n % size

-- How held bytes and a body after them are cut: how many frames are given, and how many of the last
-- bytes are held after them.
pub record IsCut (size : ℕ) (ends : Bool) (held body : List ℕ) (cut : BodyCut) : Type 0 where
  pub pieces : (channel : ℕ) → length (frames_given size channel ends (held ++ body)) ≡ cut.pieces
  pub left : length (bytes_left size ends (held ++ body)) ≡ cut.left
  pub last : bytes_left size ends (held ++ body)
      ≡ drop ((length held + length body) - cut.left) (held ++ body)
  pub status : cut.status ≡ 0

-- the bytes of a span
abbrev pub span : ℕ → ℕ → List ℕ → List ℕ
span start count bytes = take count (drop start bytes)

-- the bytes of a piece, of those held and then of the body
abbrev pub piece_of : BodyPiece → List ℕ → List ℕ → List ℕ
piece_of piece held body =
    span piece.held_start piece.held_length held ++ span piece.start piece.length body

-- the payload of this frame on the channel is the piece; there is no piece where there is no frame
abbrev pub IsPieceOf : ℕ → List ℕ → List ℕ → BodyPiece → Option Frame → Type 0
IsPieceOf channel held body piece (Some frame) = frame ≡ Body channel (piece_of piece held body)
IsPieceOf channel held body piece None = piece ≡ no_piece

-- What is given for the bodies of a message one after another, the last apart: what is left of each
-- is held for the next.
abbrev pub body_by_body : ℕ → ℕ → List ℕ → List (List ℕ) → List ℕ → List Frame
body_by_body size channel held [] last = frames_given size channel true (held ++ last)
body_by_body size channel held (body ∷ bodies) last =
    frames_given size channel false (held ++ body)
    ++ body_by_body size channel (left_over size (held ++ body)) bodies last

-- The frames given for the bodies of a message, one body after another, are those of its whole body
-- at once, however it came in bodies.
abbrev pub BodiesAreCutAsOne : Type 0
BodiesAreCutAsOne =
    (size channel : ℕ) (bodies : List (List ℕ)) (last : List ℕ)
    → 1 ≤ size
    → body_by_body size channel [] bodies last
    ≡ frames_given size channel true (flat_map (λ body. body) bodies ++ last)
