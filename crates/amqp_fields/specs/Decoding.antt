-- What decoding a whole payload returns.
use Rattle.std.specs.Prelude.{◌≡◌, ℕ, Bool, List, Result, Ok, Err}
use Rattle.amqp_types.specs.Methods.{Method, judge_payload}
use Rattle.amqp_types.specs.declared.errors.ParserError.{ParserError}
use Rattle.amqp_wire.specs.Frames.{Frame, Raw}
use Rattle.amqp_wire.specs.Judgements.{JudgesFrame}
use Rattle.amqp_wire.specs.Verdicts.{all_of, decode_raw}
use Rattle.amqp_fields.specs.declared.decoding.Decoded.{Decoded}
use Rattle.amqp_fields.specs.declared.node.Node.{Node}
use Rattle.amqp_fields.specs.Finding.{Counts}
use Rattle.amqp_fields.specs.Listed.{listed_payload}

-- the whole payload is no method
abbrev pub IsNoMethod : List ℕ → Type 0
IsNoMethod payload = (m : Method) → all_of judge_payload payload ≡ Ok m → ⊥

-- the whole payload has a fault
abbrev pub HasFault : Raw → Type 0
HasFault raw = (frame : Frame) → decode_raw raw ≡ Ok frame → ⊥

-- At which levels the payload is encoded, and its nodes, which are put after so many others; or its
-- fault, and the list is left.
abbrev pub Decodes : Raw → Bool → ℕ → List Node → ℕ
    → List Node → Result Decoded ParserError → Type 0
Decodes raw deep end old count new (Ok found) =
    JudgesFrame raw (Ok found.judged)
    × Counts (listed_payload raw.kind deep end raw.payload) old count new found.count
Decodes raw deep end old count new (Err error) = JudgesFrame raw (Err error) × (new ≡ old)
