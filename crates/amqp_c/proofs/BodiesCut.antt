-- Bodies cut anew, by numbers.
use Rattle.std.proofs.Common.{◌≡◌, ℕ, ◌+◌, ◌-◌, ◌*◌, ◌<◌, ◌≤◌, min, Bool, true, false, List, [], ◌∷◌, ◌++◌, length, map, take, drop, refl, sym, ap, ap₂, ◌∙◌}
use Rattle.std.proofs.Common.{arith}
use Rattle.std.specs.Prelude.{slice_get}
use Rattle.std.specs.List.{flat_map}
use Rattle.std.proofs.Math.Seq.{take-length, take-append-add, drop-append-add}
use Rattle.std.proofs.lemmas.List.{append_assoc, drop_all, length-append, length-drop, length-map, map-append, take_min}
use Rattle.std.proofs.lemmas.Option.{slice_get-map, slice_get_past}
use Rattle.amqp_wire.specs.Frames.{Body}
use Rattle.amqp_turns.specs.Splits.{cut_count, pieces_given, frames_given, left_over}
use Rattle.amqp_turns.proofs.Pieces.{chunk_at, given_after, left_is, length-chunks, piece_starts}
use Rattle.amqp_c.specs.declared.recutting.BodyCut.{BodyCut}
use Rattle.amqp_c.specs.declared.recutting.BodyPiece.{BodyPiece}
use Rattle.amqp_c.specs.Recutting.{BodiesAreCutAsOne, IsCut, IsPieceOf, body_by_body, left_count, no_piece, piece_of, span}

-- ---- how much

module _ (size total : ℕ) (ends : Bool) (held body : List ℕ) (sum : length held + length body ≡ total) where
  total_is : length (held ++ body) ≡ total
  total_is = length-append held body ∙ sum

  count_is : (channel : ℕ) → length (frames_given size channel ends (held ++ body)) ≡ cut_count size ends total
  count_is channel = rw (length-map, length-chunks, total_is) refl

-- The count of pieces and of bytes left, by numbers, is how held bytes and a body after them are cut.
pub cut_is : (size total : ℕ) (ends : Bool) (held body : List ℕ) (cut : BodyCut) → length held + length body ≡ total
    → cut.pieces ≡ cut_count size ends total → cut.left ≡ left_count size ends total → cut.status ≡ 0 → IsCut size ends held body cut
cut_is size total ends held body cut sum pieces left status = grind (arith, count_is, drop_all, length-append, total_is, length-drop, left_is)

-- ---- which bytes

at_least_once : (k m : ℕ) → 1 ≤ k → m ≤ k * m
at_least_once k m h = grind arith

module _ (size total k channel : ℕ) (ends : Bool) (held body : List ℕ) (sum : length held + length body ≡ total) where
  -- Past the last piece of held bytes and a body there is none.
  pub no_piece_at : (piece : BodyPiece) → cut_count size ends total ≤ k → piece ≡ no_piece
      → IsPieceOf channel held body piece (slice_get (frames_given size channel ends (held ++ body)) k)
  no_piece_at piece over is = grind (arith, slice_get_past, frames_given, count_is)

  piece_at : (piece : BodyPiece) → k < cut_count size ends total → take size (drop (k * size) (held ++ body)) ≡ piece_of piece held body
      → IsPieceOf channel held body piece (slice_get (frames_given size channel ends (held ++ body)) k)
  piece_at piece less is = grind (arith, total_is, slice_get-map, chunk_at)

  -- as many bytes of two parts as there are, from a place in the first
  taken_first : (count : ℕ) → length held < size → count ≡ min total size
      → take size (held ++ body) ≡ span 0 (length held) held ++ span 0 (count - length held) body
  taken_first count less is =
      let rest : length held + (size - length held) ≡ size = omega arith in
      let few : count - length held ≡ min (size - length held) (length body) = omega arith in
      ap (λ n. take n (held ++ body)) (sym rest)
      ∙ take-append-add held body (size - length held)
      ∙ ap₂ (λ (xs ys : List ℕ). xs ++ ys) (sym (take-length held)) (sym (take_min (size - length held) body) ∙ ap (λ n. take n body) (sym few))

  -- or from a place in the second
  taken_later : (place count : ℕ) → length held ≤ place → count ≡ min (total - place) size
      → take size (drop place (held ++ body)) ≡ span (place - length held) count body
  taken_later place count more is =
      let rest : length held + (place - length held) ≡ place = omega arith in
      let bytes = drop (place - length held) body in
      let few : count ≡ min size (length bytes) = omega (arith, length-drop (place - length held) body) in
      ap (λ n. take size (drop n (held ++ body))) (sym rest)
      ∙ ap (take size) (drop-append-add held body (place - length held))
      ∙ sym (take_min size bytes)
      ∙ ap (λ n. take n bytes) (sym few)

  -- the first frame
  pub first_at : (count n : ℕ) → length held ≡ n → n < size → k ≡ 0 → k < cut_count size ends total → count ≡ min (total - k * size) size
      → IsPieceOf channel held body (record { held_start = 0; held_length = n; start = 0; length = count - n })
      (slice_get (frames_given size channel ends (held ++ body)) k)
  first_at count n long less none some is =
      let start : k * size ≡ 0 = ap (λ j. j * size) none ∙ omega arith in
      rw (sym long) (piece_at (record { held_start = 0; held_length = length held; start = 0; length = count - length held }) some
      (ap (λ p. take size (drop p (held ++ body))) start
      ∙ taken_first count (omega (arith, long, less)) (is ∙ ap (λ p. min (total - p) size) start ∙ omega arith)))

  -- a frame after it
  pub later_at : (start count n : ℕ) → length held ≡ n → n < size → 1 ≤ k → k < cut_count size ends total → start ≡ k * size - n
      → count ≡ min (total - k * size) size
      → IsPieceOf channel held body (record { held_start = 0; held_length = 0; start = start; length = count })
      (slice_get (frames_given size channel ends (held ++ body)) k)
  later_at start count n long less later some place is =
      let most = at_least_once k size later in
      rw (place, sym long) (piece_at (record { held_start = 0; held_length = 0; start = k * size - length held; length = count }) some
      (taken_later (k * size) count (omega (arith, long, less, most)) is))

-- its bytes are bytes of the body
pub later_within : (size total k start count n len : ℕ) (ends : Bool) → n < size → total ≡ n + len → 1 ≤ k
    → k < cut_count size ends total → start ≡ k * size - n → count ≡ min (total - k * size) size → start + count ≤ len
later_within size total k start count n len ends less sum later some place is = grind (arith, at_least_once, piece_starts)

-- ---- a whole message

bodies_after : (size channel : ℕ) (held : List ℕ) (bodies : List (List ℕ)) (last : List ℕ) → 1 ≤ size
    → body_by_body size channel held bodies last ≡ frames_given size channel true (held ++ (flat_map (λ body. body) bodies ++ last))
bodies_after size channel held [] last h = refl
bodies_after size channel held (body ∷ bodies) last h =
    let first = held ++ body in
    let rest = flat_map (λ b. b) bodies ++ last in
    let place : first ++ rest ≡ held ++ ((body ++ flat_map (λ b. b) bodies) ++ last) =
    append_assoc held body rest ∙ ap (λ (bs : List ℕ). held ++ bs) (sym (append_assoc body (flat_map (λ b. b) bodies) last)) in
    ap (λ fs. frames_given size channel false first ++ fs) (bodies_after size channel (left_over size first) bodies last h)
    ∙ sym (map-append (λ piece. Body channel piece) (pieces_given size false first) (pieces_given size true (left_over size first ++ rest)))
    ∙ ap (map (λ piece. Body channel piece)) (given_after size true first rest h)
    ∙ ap (frames_given size channel true) place

-- The frames given for the bodies of a message, one after another, are those of its whole body at once.
pub bodies_as_one : BodiesAreCutAsOne
bodies_as_one size channel bodies last h = bodies_after size channel [] bodies last h
