-- The pieces that a body completes, by what was left over before it.
use Rattle.std.proofs.Common.{◌≡◌, ℕ, ◌≤◌, Bool, List, ◌++◌}
use Rattle.std.proofs.Math.Seq.{drop-append_seam}
use Rattle.amqp_turns.specs.Splits.{whole_pieces, pieces_given, left_over}
use Rattle.amqp_turns.proofs.Pieces.{given_after, length-chunks}
use Rattle.amqp_recut.specs.Cuts.{pieces_brought}

-- The pieces that a body completes are those of the bytes that were left over before it and its own.
pub brought : (size : ℕ) (ends : Bool) (before content : List ℕ) → 1 ≤ size
    → pieces_brought size ends before content ≡ pieces_given size ends (left_over size before ++ content)
brought size ends before content h =
    rw (← given_after size ends before content h)
    (rw length-chunks at (drop-append_seam (whole_pieces size before) (pieces_given size ends (left_over size before ++ content))))
