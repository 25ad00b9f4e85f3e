-- Bytes that are fed in pieces.
use Rattle.std.proofs.Common.{◌≡◌, ℕ, List, [], ◌∷◌, ◌++◌, Option, Some, arith, sym, ap, ◌∙◌, append_assoc, append-nil}
use Rattle.std.proofs.lemmas.List.Concat.{flat_map-append}
use Rattle.std.specs.List.{concat}
use Rattle.amqp_types.specs.Levels.{Level}
use Rattle.amqp_types.specs.Judging.{Fault, Judged, past, fault}
use Rattle.amqp_wire.specs.Frames.{Raw}
use Rattle.amqp_wire.specs.Fronts.{front, place}
use Rattle.amqp_wire.specs.Verdicts.{judge_scanned, judge_frame}
use Rattle.amqp_wire.proofs.Cuts.{front-stop, verdict-append, verdict-none}
use Rattle.amqp_wire.proofs.HeaderScan.{scan-past_few}
use Rattle.amqp_wire.proofs.Sequences.{splits_of, front_fault}
use Rattle.amqp_stream.specs.Canonicalizing.{canon_of}
use Rattle.amqp_stream.specs.Causes.{answer_at}
use Rattle.amqp_c.specs.Rewriting.{FaultsStay, LittleIsLeft, PiecesAreWhole, called, fed_after, then_called}
use Rattle.amqp_c.specs.Scans.{fault_status}
use Rattle.amqp_stream.specs.Errors.{status_of}

-- ---- more bytes after some: only what was left of these is read again

module _ (level : Level) (m : Option ℕ) (a b : List ℕ) where
  after_used : a ++ b ≡ (splits_of level m a).used ++ (place level m a ++ b)
  after_used = let s = splits_of level m a in cc (s.parts, append_assoc s.used (place level m a) b)

  front_more : front level m (a ++ b) ≡ front level m a ++ front level m (place level m a ++ b)
  front_more = ap (front level m) after_used ∙ (splits_of level m a).sequence.sequence (place level m a ++ b)

  place_more : place level m (a ++ b) ≡ place level m (place level m a ++ b)
  place_more = ap (place level m) after_used ∙ (splits_of level m a).sequence.after (place level m a ++ b)

text_more : (level : Level) (m : ℕ) (a b : List ℕ) → canon_of level m (a ++ b) ≡ canon_of level m a ++ canon_of level m (place level (Some m) a ++ b)
text_more level m a b = grind (arith, front_more, flat_map-append)

-- the status at a place
abbrev status_at : Level → ℕ → List ℕ → ℕ
status_at level m bytes = status_of (answer_at bytes (judge_frame level (Some m) bytes))

called_more : (level : Level) (m : ℕ) (a b : List ℕ) → then_called level m (called level m a) b ≡ called level m (a ++ b)
called_more level m a b = grind (arith, place_more, text_more)

fed_more : (level : Level) (m : ℕ) (a : List ℕ) (pieces : List (List ℕ)) → fed_after level m (called level m a) pieces ≡ called level m (a ++ concat pieces)
fed_more level m a [] = ap (called level m) (sym (append-nil a))
fed_more level m a (piece ∷ pieces) =
    rw (called_more level m a piece) (fed_more level m (a ++ piece) pieces ∙ ap (called level m) (append_assoc a piece (concat pieces)))

-- Bytes that are fed in pieces give what one call with all of them gives.
pub pieces_are_whole : PiecesAreWhole
pieces_are_whole level m first pieces = fed_more level m first pieces

-- ---- a fault

status_fault : (level : Level) (m : ℕ) (bytes : List ℕ) (bad : Fault)
    → judge_frame level (Some m) bytes ≡ fault bad → status_at level m bytes ≡ fault_status bad
status_fault level m bytes bad e = grind (arith, verdict-none)

-- After a fault nothing more is used or written, whatever is fed.
pub faults_stay : FaultsStay
faults_stay level m bytes more bad e =
    let left = place level (Some m) bytes ++ more in
    let again = verdict-append level (Some m) (place level (Some m) bytes) more (λ h. absurd cc) ∙ e in
    let stays = place_more level (Some m) bytes more ∙ (front-stop level (Some m) left (rw again tt)).1 in
    cc (front_fault level (Some m) bytes more bad e, stays, ap (status_at level m) stays, status_fault level m left bad again)

-- ---- what is left where more bytes are needed

judged_past : (level : Level) (j : Judged Raw) → judge_scanned level j ≡ past → j ≡ past
judged_past level j e = grind arith

-- Where more bytes are needed, fewer are left than a frame of the largest size has.
pub little_is_left : LittleIsLeft
unfolding judge_frame
little_is_left level m bytes e = grind (arith, scan-past_few, judged_past)
