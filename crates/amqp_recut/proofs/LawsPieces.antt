-- Bodies of one message after another, recut: the pieces of their joined bytes.
use Rattle.amqp_turns.specs as turns
use Rattle.std.proofs.lemmas
use lemmas.Grind.{common_steps}
use Rattle.std.proofs.Common.{◌≡◌, ℕ, ◌+◌, ◌<◌, ◌≤◌, zero, suc, Bool, true, false, ltb, List, [], ◌∷◌, ◌++◌, length, map, drop, refl, sym, ap, arith, inl, inr}
use Rattle.std.specs.List.{AllByRecursion, flat_map}
use lemmas.Bool.{cases_lt}
use lemmas.List.{append-nil, append_assoc, length-drop, length-take-le, length-append, map-append}
use Rattle.amqp_wire.specs.Frames.{Frame, Body}
use Rattle.amqp_wire.specs.Outlines.{outline_of}
use turns.Units.{Nothing, Headed, size_in, bytes_in, IsBody}
use turns.Stands.{State, At}
use turns.Steps.{step}
use turns.Messages.{joined}
use turns.Splits.{pieces, whole_pieces, left_over, pieces_given}
use Rattle.amqp_turns.proofs.Pieces.{given_after, given-more, given-ended, given-nothing, left-more, left_short, whole-none}
use Rattle.amqp_turns.proofs.Moving.{bytes_in-push}
use Rattle.amqp_turns.proofs.Telling.{joined-push, length-joined}
use turns.InTurn.{greatest}
use Rattle.amqp_recut.proofs.Cutting.{brought}
use Rattle.amqp_recut.proofs.LawsChannels.{channel_recut, AreCutAfter}

-- ---- bodies with these bytes

-- the body frames on a channel with these parts
abbrev pub bodies_with : ℕ → List (List ℕ) → List Frame
bodies_with channel parts = map (λ part. Body channel part) parts

-- parts, joined
abbrev pub flat : List (List ℕ) → List ℕ
flat parts = flat_map (λ part. part) parts

-- The joined bytes of body frames are their parts joined.
pub joined_bodies : (channel : ℕ) (parts : List (List ℕ)) → joined (bodies_with channel parts) ≡ flat parts
joined_bodies channel [] = refl
joined_bodies channel (part ∷ parts) = ap (λ bs. part ++ bs) (joined_bodies channel parts)

-- Body frames carry as many bytes as their parts joined.
pub bytes_bodies : (channel : ℕ) (parts : List (List ℕ)) → bytes_in outline_of (bodies_with channel parts) ≡ length (flat parts)
bytes_bodies channel parts = rw (← length-joined (bodies_with channel parts), joined_bodies)

-- Body frames with parts are all bodies.
pub all_bodies : (channel : ℕ) (parts : List (List ℕ)) → AllByRecursion (λ x. IsBody (outline_of x)) (bodies_with channel parts)
all_bodies channel [] = tt
all_bodies channel (part ∷ parts) = (tt, all_bodies channel parts)

-- With one part more at the end, the parts joined are those before joined, and this part.
pub flat_push : (parts : List (List ℕ)) (part : List ℕ) → flat (parts ++ part ∷ []) ≡ flat parts ++ part
flat_push [] part = append-nil part
flat_push (p ∷ ps) part = rw (flat_push ps part) (sym (append_assoc p (flat ps) part))

-- ---- bodies recut

module _ (size channel : ℕ) (opening header : Frame) (some : 1 ≤ size) where
  -- a message that has these bodies
  abbrev headed : List Frame → State Frame
  headed bodies = At (Headed opening header bodies)

  -- so many bytes of a message have come, where they end it or not
  abbrev pub Fits : Bool → ℕ → Type 0
  Fits true n = n ≡ size_in (outline_of header)
  Fits false n = n < size_in (outline_of header)

  grown : (before : List Frame) (part : List ℕ) → Fits false (bytes_in outline_of before + length part)
      → (step outline_of greatest (headed before) (Body channel part)).1 ≡ headed (before ++ Body channel part ∷ [])
  grown before part less = grind (arith, common_steps)

  ended : (before : List Frame) (part : List ℕ) → Fits true (bytes_in outline_of before + length part)
      → (step outline_of greatest (headed before) (Body channel part)).1 ≡ At Nothing
  ended before part all = grind (arith, common_steps)

  -- a body before the last
  one_more : (before : List Frame) (part : List ℕ) (frames : List Frame) → Fits false (bytes_in outline_of before + length part)
      → channel_recut size (headed before) (Body channel part ∷ frames)
      ≡ bodies_with channel (whole_pieces size (left_over size (joined before) ++ part))
      ++ channel_recut size (headed (before ++ Body channel part ∷ [])) frames
  one_more before part frames less = grind (arith, common_steps, brought, grown)

  -- its pieces, and those of the bytes after it
  pieces_more : (ends : Bool) (before : List Frame) (part bytes : List ℕ)
      → bodies_with channel (whole_pieces size (left_over size (joined before) ++ part))
      ++ bodies_with channel (pieces_given size ends (left_over size (joined (before ++ Body channel part ∷ [])) ++ bytes))
      ≡ bodies_with channel (pieces_given size ends (left_over size (joined before) ++ (part ++ bytes)))
  pieces_more ends before part bytes =
      let first = left_over size (joined before) ++ part in
      rw (
        joined-push before (Body channel part),
        ← left-more size (joined before) part some,
        ← map-append (λ p. Body channel p) (whole_pieces size first) (pieces_given size ends (left_over size first ++ bytes)),
        given_after size ends first bytes some,
        append_assoc (left_over size (joined before)) part bytes,
      )

  -- bodies of a message that is not complete then
  pub open_bodies : (before : List Frame) (parts : List (List ℕ)) → Fits false (bytes_in outline_of before + length (flat parts))
      → channel_recut size (headed before) (bodies_with channel parts) ≡ bodies_with channel (whole_pieces size (left_over size (joined before) ++ flat parts))
  open_bodies before [] less = grind (arith, common_steps, left_short, length-append, whole-none)
  open_bodies before (part ∷ parts) less =
      let total = length-append part (flat parts) in
      let rest = open_bodies (before ++ Body channel part ∷ []) parts (omega (arith, total, bytes_in-push outline_of before (Body channel part))) in
      rw (one_more before part (bodies_with channel parts) (omega (arith, total)), rest) (pieces_more false before part (flat parts))

  -- bodies of a message up to its last
  pub closed_bodies : (before : List Frame) (parts : List (List ℕ)) (last : List ℕ) (frames : List Frame)
      → Fits false (bytes_in outline_of before + length (flat parts)) → Fits true (bytes_in outline_of before + length (flat parts) + length last)
      → channel_recut size (headed before) (bodies_with channel parts ++ Body channel last ∷ frames)
      ≡ bodies_with channel (pieces size (left_over size (joined before) ++ (flat parts ++ last))) ++ channel_recut size (At Nothing) frames
  closed_bodies before [] last frames less all = grind (arith, common_steps, brought, ended)
  closed_bodies before (part ∷ parts) last frames less all =
      let total = length-append part (flat parts) in
      let grown = bytes_in-push outline_of before (Body channel part) in
      let rest = closed_bodies (before ++ Body channel part ∷ []) parts last frames (omega (arith, total, grown)) (omega (arith, total, grown)) in
      rw (
        one_more before part (bodies_with channel parts ++ Body channel last ∷ frames) (omega (arith, total)),
        rest,
        ← append_assoc,
        pieces_more true before part (flat parts ++ last),
        append_assoc part (flat parts) last,
      )

  -- ---- pieces are cut

  fits_within : (ends : Bool) (n : ℕ) → Fits ends n → n ≤ size_in (outline_of header)
  fits_within true n h = omega arith
  fits_within false n h = omega arith

  cut_nothing : (ends : Bool) (state : State Frame) (bytes : List ℕ) → length bytes ≡ 0
      → AreCutAfter size state (bodies_with channel (pieces_given size ends bytes))
  cut_nothing ends state bytes none = grind (arith, common_steps, given-nothing)

  -- the last piece, or bytes that are kept back
  cut_short : (ends : Bool) (before : List Frame) (bytes : List ℕ) → length bytes < size → 1 ≤ length bytes
      → Fits ends (bytes_in outline_of before + length bytes) → AreCutAfter size (headed before) (bodies_with channel (pieces_given size ends bytes))
  cut_short ends before bytes less one h = grind (arith, common_steps, given-ended, whole-none)

  -- what comes after a piece of the whole size
  cut_next : (ends more : Bool) (before : List Frame) (piece bytes : List ℕ) → length piece ≡ size
      → ltb (bytes_in outline_of before + size) (size_in (outline_of header)) ≡ more → Fits ends (bytes_in outline_of before + (size + length bytes))
      → (Fits ends (bytes_in outline_of (before ++ Body channel piece ∷ []) + length bytes)
      → AreCutAfter size (headed (before ++ Body channel piece ∷ [])) (bodies_with channel (pieces_given size ends bytes)))
      → AreCutAfter size (step outline_of greatest (headed before) (Body channel piece)).1 (bodies_with channel (pieces_given size ends bytes))
  cut_next ends more before piece bytes long e h rest = grind (arith, common_steps, bytes_in-push, cut_nothing, fits_within, grown)

  cut_long : (ends : Bool) (before : List Frame) (bytes : List ℕ) → size ≤ length bytes → Fits ends (bytes_in outline_of before + length bytes)
      → ((next : List Frame) → Fits ends (bytes_in outline_of next + length (drop size bytes))
      → AreCutAfter size (headed next) (bodies_with channel (pieces_given size ends (drop size bytes))))
      → AreCutAfter size (headed before) (bodies_with channel (pieces_given size ends bytes))
  cut_long ends before bytes fits h rest = grind (arith, common_steps, cut_next, fits_within, given-more, length-drop, length-take-le)

  cut_within : (ends : Bool) (fuel : ℕ) (before : List Frame) (bytes : List ℕ) → length bytes ≤ fuel
      → Fits ends (bytes_in outline_of before + length bytes) → AreCutAfter size (headed before) (bodies_with channel (pieces_given size ends bytes))
  cut_within ends zero before bytes enough h = cut_nothing ends (headed before) bytes (omega arith)
  cut_within ends (suc fuel) before bytes enough h =
      elim (cases_lt (length bytes) size) [
        | inl less ↦ elim (cases_lt 0 (length bytes)) [
          | inl one ↦ cut_short ends before bytes less one h
          | inr none ↦ cut_nothing ends (headed before) bytes (omega arith)
        ]
        | inr fits ↦ cut_long ends before bytes fits h (λ next. cut_within ends fuel next (drop size bytes) (omega (arith, length-drop size bytes)))
      ]

  -- The body frames with the pieces of what is still to come of a message are cut to the size.
  pub cut_given : (ends : Bool) (before : List Frame) (bytes : List ℕ) → Fits ends (bytes_in outline_of before + length bytes)
      → AreCutAfter size (headed before) (bodies_with channel (pieces_given size ends bytes))
  cut_given ends before bytes h = cut_within ends (length bytes) before bytes (omega arith) h
