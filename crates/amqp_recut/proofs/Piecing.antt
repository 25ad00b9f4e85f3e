-- Pieces that are cut out of two parts.
use Rattle.std.proofs.lemmas
use lemmas.Grind.{common_steps}
use Rattle.std.proofs.Common.{◌≡◌, ℕ, ◌+◌, ◌-◌, ◌<◌, ◌≤◌, min, Bool, true, false, List, [], ◌∷◌, ◌++◌, length, take, drop, ap, ◌∙◌, arith, inl, inr}
use Rattle.std.proofs.Common.{append_assoc, append-nil, Result}
use lemmas.Bool.{cases_lt}
use lemmas.List.{length-append, take-append-le, drop-append-le, take_all, drop_all, take_rest, length-drop}
use Rattle.std.proofs.Math.Seq.{take-append-add, drop-append-add}
use Rattle.amqp_wire.specs.Frames.{Body}
use Rattle.amqp_wire.specs.Spelling.{framed, head}
use Rattle.amqp_wire.specs.Canonical.{canon, canon_frames}
use Rattle.amqp_stream.specs.Ends.{Store}
use Rattle.amqp_stream.specs.declared.sink.SinkFault.{SinkFault}
use Rattle.amqp_stream.specs.Writing.{Gathered, GatherFails, Gathers}
use Rattle.amqp_turns.specs.Splits.{frames_given}
use Rattle.amqp_turns.proofs.Pieces.{given-more, given-ended, given-nothing, short_take, short_drop, whole-none}
use Rattle.amqp_recut.proofs.Gathering.{gather_fails_later, gathers_then, gathers_less, gathers_as}
use Rattle.amqp_stream.proofs.Transcribing.{gathered_then}

-- a body frame of two parts
pub piece_bytes : (channel n : ℕ) (h front back : List ℕ) → h ≡ head 3 channel n
    → n ≡ length front + length back → h ++ (front ++ (back ++ 206 ∷ [])) ≡ framed 3 channel (front ++ back)
piece_bytes channel n h front back e is = grind (arith, common_steps, append_assoc, length-append)

-- the first bytes of two parts
pub first_of_two : (size : ℕ) (front back : List ℕ) → take size (front ++ back) ≡ take size front ++ take (size - length front) back
first_of_two size front back = elim (cases_lt size (length front)) [
  | inl less ↦
      let none : size - length front ≡ 0 = omega arith in
      rw (none, append-nil) (take-append-le size front back (omega arith))
  | inr more ↦
      let whole : length front + (size - length front) ≡ size = omega arith in
      rw (take_all size front (omega arith)) (rw whole at (take-append-add front back (size - length front)))
]

-- the bytes after them
pub rest_of_two : (size : ℕ) (front back : List ℕ) → drop size (front ++ back) ≡ drop size front ++ drop (size - length front) back
rest_of_two size front back = grind (arith, common_steps, cases_lt, drop-append-add, drop-append-le, drop_all)

-- as much of the first part as there is, and of the second what is still needed
pub first_parts : (size : ℕ) (front back : List ℕ)
    → take (min (length front) size) front ++ take (size - min (length front) size) back ≡ take size (front ++ back)
first_parts size front back = grind (arith, common_steps, first_of_two, short_take)

pub rest_parts : (size : ℕ) (front back : List ℕ)
    → drop (min (length front) size) front ++ drop (size - min (length front) size) back ≡ drop size (front ++ back)
rest_parts size front back = grind (arith, common_steps, rest_of_two, short_drop)

-- the last bytes of two parts
pub last_parts : (front back : List ℕ) (count m : ℕ) → m ≡ min count (length back) → count ≤ length front + length back
    → take (length front - (length front - (count - m))) (drop (length front - (count - m)) front)
    ++ take (length back - (length back - m)) (drop (length back - m) back)
    ≡ drop (length front + length back - count) (front ++ back)
last_parts front back count m is fits = grind (arith, common_steps, cases_lt, drop_all, rest_of_two, take_rest)

-- what is left of some bytes is no longer
pub rest_shorter : (n most : ℕ) (bytes : List ℕ) → length bytes ≤ most → length (take (length bytes - n) (drop n bytes)) ≤ most
rest_shorter n most bytes h = omega (arith, ap length (take_rest bytes n), length-drop n bytes, h)

-- ---- pieces one after another

-- the bytes of the body frames that are to be given of these bytes
abbrev pub to_give : ℕ → ℕ → Bool → List ℕ → List ℕ
to_give size channel ends bytes = canon_frames (frames_given size channel ends bytes)

-- some of what is to be given was gathered, and this is left to give
pub record HasGiven (old new : Store) (before after all left : List ℕ) : Type 0 where
  pub done : List ℕ
  pub gathered : Gathered old new before after done
  pub parts : done ++ left ≡ all

-- the first piece, and those after it
given_first : (size channel : ℕ) (ends : Bool) (bytes : List ℕ) → 1 ≤ size → size ≤ length bytes
    → to_give size channel ends bytes ≡ framed 3 channel (take size bytes) ++ to_give size channel ends (drop size bytes)
unfolding canon
given_first size channel ends bytes h fits = rw (given-more size ends bytes h fits)

-- The last piece of a body is what is left of it.
pub last_piece : (size channel : ℕ) (bytes : List ℕ) → 1 ≤ length bytes → length bytes ≤ size → to_give size channel true bytes ≡ canon (Body channel bytes)
last_piece size channel bytes some few = grind (arith, common_steps, append-nil, given-ended)

-- Fewer bytes than the size of a piece give no body frames where the message goes on.
pub given_too_few : (size channel : ℕ) (bytes : List ℕ) → length bytes < size → to_give size channel false bytes ≡ []
given_too_few size channel bytes less = grind (arith, common_steps, whole-none)

module _ {a b : Store} {x y all : List ℕ} (size channel : ℕ) (ends : Bool) (some : 1 ≤ size) where
  -- one piece more
  given_on : {c : Store} {z : List ℕ} (bytes : List ℕ) → size ≤ length bytes → HasGiven a b x y all (to_give size channel ends bytes)
      → Gathered b c y z (framed 3 channel (take size bytes)) → HasGiven a c x z all (to_give size channel ends (drop size bytes))
  given_on bytes fits so_far g = record {
    done = so_far.done ++ framed 3 channel (take size bytes);
    gathered = gathered_then so_far.gathered g;
    parts = rw (append_assoc, ← given_first size channel ends bytes some fits) so_far.parts;
  }

  module _ {c : Store} {z : List ℕ} (front back : List ℕ) (n m : ℕ) (fits : size ≤ length front + length back) (is : n ≡ min (length front) size)
      (rest : m ≡ size - n) (so_far : HasGiven a b x y all (to_give size channel ends (front ++ back))) where
    -- one piece more, of two parts
    pub given_of_two : Gathered b c y z (framed 3 channel (take n front ++ take m back))
        → HasGiven a c x z all (to_give size channel ends (take (length front - n) (drop n front) ++ take (length back - m) (drop m back)))
    given_of_two g = grind (arith, common_steps, first_parts, given_on, length-append, rest_parts, take_rest)

    -- a piece could not be written
    pub given_fails : GatherFails b c y z (framed 3 channel (take n front ++ take m back)) → GatherFails a c x z all
    given_fails g =
        let place : m ≡ size - min (length front) size = rest ∙ ap (λ k. size - k) is in
        let piece : take n front ++ take m back ≡ take size (front ++ back) = rw (is, place) (first_parts size front back) in
        let next = given_first size channel ends (front ++ back) some (omega (arith, length-append front back)) in
        let less = gathers_less (to_give size channel ends (drop size (front ++ back))) (rw piece at g) in
        rw (← next, so_far.parts) at (gather_fails_later so_far.gathered less)

  module _ (bytes : List ℕ) (less : length bytes < size) (so_far : HasGiven a b x y all (to_give size channel ends bytes)) where
    -- the last piece of a body was gathered, or not
    pub given_end : (c : Store) (z : List ℕ) (r : Result (Unit {0}) SinkFault) → 1 ≤ length bytes → ends ≡ true
        → Gathers b c y z (framed 3 channel bytes) r → Gathers a c x z all r
    unfolding canon
    given_end c z r one e g =
        let last = last_piece size channel bytes one (omega arith) in
        gathers_as a c x z r (rw (e, last) at so_far.parts) (gathers_then c z (framed 3 channel bytes) r so_far.gathered g)

    -- nothing more is to be given: the body goes on
    pub given_short : ends ≡ false → Gathered a b x y all
    given_short e = grind (arith, common_steps, append-nil, given_too_few)

    -- Where no bytes are left to give, what was gathered is all.
    pub given_whole : length bytes ≡ 0 → Gathered a b x y all
    given_whole none = grind (arith, common_steps, append-nil, given-nothing)
