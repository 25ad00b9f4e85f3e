-- Valid text ends well, but for memory that runs out.
use Rattle.amqp_lines.proofs
use proofs.Names.{◌≡◌, ◌≢◌, ℕ, List, [], ◌∷◌, ◌++◌, length, drop, Option, Some, None, Ok, Err, refl, sym, ap, ◌∙◌, inl, inr, append_assoc, append-nil, arith}
use proofs.Names.{flat_map, Frame, ◌⇒◌, call_of, Supply, Store, IsEmpty, taken_of, line, lines, HoldsNewline, Undumps, lengths, Answer}
use proofs.Names.errors
use Rattle.amqp_stream.specs.Ends.{prepended}
use Rattle.amqp_stream.specs.Causes.{NoFaults}
use Rattle.amqp_lines.specs.Undumping.{IsValidText, IsOkOrNoMemory}
use proofs.Newlines.{one_newline}
use proofs.TextFronts.{AllStrict, all_strict, holds_none, first_line, line_front, line_first, IsAtNone}
use proofs.Deciding.{first_or}
use proofs.Gathering.{at_none}
use proofs.LinesApart.{line_some}

-- ---- the lines after those of a sequence

record Others (m : ℕ) (text : List ℕ) : Type 0 where
  frames : List Frame
  good : AllStrict m frames
  is : lines frames ≡ text

others : (m : ℕ) (fs gs : List Frame) (more : List ℕ) → AllStrict m gs → lines gs ≡ lines fs ++ more → Others m more
unfolding lines
others m [] gs more good e = record { frames = gs; good = good; is = e }
others m (f ∷ fs) [] more good e = absurd (line_some f (flat_map line fs ++ more) (e ∙ append_assoc (line f) (flat_map line fs) more))
others m (f ∷ fs) (g ∷ gs) more good e =
    let a = one_newline f in
    let left = e ∙ append_assoc (line f) (flat_map line fs) more ∙ line_front f (flat_map line fs ++ more) in
    others m fs gs more good.1 (line_first g a.front (flat_map line gs) (flat_map line fs ++ more) a.none_before left).1

-- ---- what is left of valid text

-- where a line ends in what is left, and it is that of no frame, none begins more bytes
pub at_none_more : (m : ℕ) (rest more : List ℕ) → HoldsNewline rest → IsAtNone m rest → IsAtNone m (rest ++ more)
unfolding IsAtNone
at_none_more m rest more holds none f x good e = elim (first_or rest) [
  | inr clean ↦ holds_none rest clean holds
  | inl h ↦
      let first = h.is_first in
      let tail = drop h.end rest in
      let whole = first_line rest h.end first in
      let same =
      line_first f first.front x (tail ++ more) first.none_before (cc (e, whole, append_assoc first.front (10 ∷ tail) more)) in
      none f tail good (cc (same.0, append_assoc first.front (10 ∷ []) tail, whole))
]

-- no text but the empty one is lines of frames where no line is in front
no_others : (m : ℕ) (text : List ℕ) → text ≢ [] → IsAtNone m text → Others m text → ⊥
unfolding lines IsAtNone
no_others m text some none h = by_frames h.frames h.good h.is
  where
    by_frames : (gs : List Frame) → AllStrict m gs → lines gs ≡ text → ⊥
    by_frames [] good e = some (sym e)
    by_frames (g ∷ gs) good e = none g _ good.0 e

-- ---- a source that reports its bytes

-- a source that had some bytes and gave those that were taken has the others left
pub record Left (bytes taken : List ℕ) (left : Option (List ℕ)) : Type 0 where
  pub more : List ℕ
  pub parts : bytes ≡ taken ++ more
  pub is : left ≡ Some more

-- Where a source reports all of its bytes, those that were not taken yet are left.
pub left_of : {bytes taken : List ℕ} {left : Option (List ℕ)} → Some bytes ≡ prepended taken left → Left bytes taken left
left_of {left = None} h = absurd cc
left_of {left = Some more} h = record { more = more; parts = cc; is = refl }

-- Where a source has nothing left, what is left is empty.
pub empty_left : {left : Option (List ℕ)} {more : List ℕ} → left ≡ Some more → IsEmpty left → more ≡ []
empty_left is empty = rw is at empty

-- Over a source that reports the bytes of a valid text, without faults of source or sink, the call returns no error but out of memory.
pub complete : {m budget : ℕ} {a b : Supply} {k l : Store} {r : Answer} (bytes : List ℕ)
    → Undumps (call_of m budget (a ⇒ b) (k ⇒ l)) r → a.left ≡ Some bytes → IsValidText m budget bytes → NoFaults (a ⇒ b) (k ⇒ l) → IsOkOrNoMemory r
complete {m = m} {budget = budget} {a = a} {b = b} {k = k} {l = l} {r = r} bytes run left valid faults =
    by_answer r run (left_of (taken_of left run.takes))
  where
    after : (taken more rest : List ℕ) (frames : List Frame) → bytes ≡ taken ++ more → taken ≡ lines frames ++ rest → Others m (rest ++ more)
    after taken more rest frames parts is =
        others m frames valid.frames _ (all_strict m valid.frames valid.are_strict)
        (sym valid.is_text ∙ parts ∙ ap (λ xs. xs ++ more) is ∙ append_assoc _ rest more)

    by_answer : (r : Answer) (u : Undumps (call_of m budget (a ⇒ b) (k ⇒ l)) r) → Left bytes u.taken b.left → IsOkOrNoMemory r
    by_answer (Ok done) u is = tt
    by_answer (Err errors.NoMemory) u is = tt
    by_answer (Err errors.BadText) u is =
        no_others m _ (λ e. omega (lengths, ap length e, ap length u.cause.parts))
        (at_none_more m u.rest is.more u.cause (at_none u.text)) (after u.taken is.more u.rest u.frames is.parts u.text.parts)
    by_answer (Err errors.CutShort) u is =
        no_others m u.rest u.cause.0 (at_none u.text)
        (rw (empty_left is.is u.cause.2, append-nil) at (after u.taken is.more u.rest u.frames is.parts u.text.parts))
    by_answer (Err errors.TurnsSpent) u is = omega (lengths, valid.enough, u.cause.0, ap length is.parts)
    by_answer (Err errors.ReadFault) u is = omega (arith, u.cause.0 faults.source_below, faults.source)
    by_answer (Err errors.WriteFault) u is = omega (arith, u.cause faults.sink_below, faults.sink)
