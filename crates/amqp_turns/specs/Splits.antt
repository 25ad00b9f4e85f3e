-- A body, cut into pieces.
use Rattle.std.specs.Prelude.{ℕ, zero, suc, ◌+◌, ◌-◌, ◌*◌, ◌/◌, Bool, true, false, List}
use Rattle.std.specs.Prelude.{[], ◌∷◌, map, take, drop, length}
use Rattle.amqp_wire.specs.Frames.{Frame, Body}

-- the first n chunks of some bytes: m bytes each, or as many as are left
abbrev pub chunks : ℕ → ℕ → List ℕ → List (List ℕ)
chunks m zero bytes = []
chunks m (suc n) bytes = take m bytes ∷ chunks m n (drop m bytes)

-- How many pieces of m bytes are cut off n bytes: at the end of a body all, of which the last may
-- be shorter, and else those of the whole size.
abbrev pub cut_count : ℕ → Bool → ℕ → ℕ
cut_count m true n = (n + (m - 1)) / m
cut_count m false n = n / m

-- the pieces that are cut off some bytes of a body
abbrev pub pieces_given : ℕ → Bool → List ℕ → List (List ℕ)
pieces_given m ends bytes = chunks m (cut_count m ends (length bytes)) bytes

-- the pieces of a whole body
abbrev pub pieces : ℕ → List ℕ → List (List ℕ)
pieces m bytes = pieces_given m true bytes

-- the pieces of some bytes that have the whole size
abbrev pub whole_pieces : ℕ → List ℕ → List (List ℕ)
whole_pieces m bytes = pieces_given m false bytes

-- the bytes after them
abbrev pub left_over : ℕ → List ℕ → List ℕ
left_over m bytes = drop ((length bytes / m) * m) bytes

-- the body frames on a channel with the pieces that are cut off, in order
abbrev pub frames_given : ℕ → ℕ → Bool → List ℕ → List Frame
frames_given m channel ends bytes = map (λ piece. Body channel piece) (pieces_given m ends bytes)
