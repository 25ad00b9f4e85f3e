-- What was put is read with its fields.
use Rattle.std.proofs.Common.{◌≡◌, ℕ, ◌+◌, List, ◌++◌, length, drop, true, None, Result, Ok, Err, ap, subst, ◌∙◌, arith}
use Rattle.std.proofs.lemmas.List.{take_all}
use Rattle.amqp_types.specs.Judging.{Fault, took}
use Rattle.amqp_types.specs.Levels.{plain}
use Rattle.amqp_wire.specs.Canonical.{canon, read_back}
use Rattle.amqp_wire.specs.Frames.{Frame, Raw}
use Rattle.amqp_wire.specs.HeaderScan.{scan}
use Rattle.amqp_wire.specs.Verdicts.{judge_decoded, judge_frame, decode_raw}
use Rattle.amqp_wire.proofs.ReadingBack.{reads_back}
use Rattle.amqp_fields.proofs.Answering.{listed_mean}
use Rattle.amqp_fields.specs.Listed.{payload_nodes}
use Rattle.amqp_fields.specs.Meaning.{AreNodesOf, IsSpan}
use Rattle.amqp_put_laws.specs.PutLaws.{PutFieldsAreRead}
use Rattle.amqp_put_laws.proofs.Generated.{in_front}

whole_frame : (read : Result Frame Fault) (n m : ℕ) (f : Frame) → judge_decoded true read n ≡ took f m → read ≡ Ok f
whole_frame (Ok g) n m f h = ap Ok (let e : g ≡ f = cc in e)
whole_frame (Err bad) n m f h = absurd cc

of_raw : (bytes : List ℕ) (raw : Raw) (n m : ℕ) (f : Frame) → scan None bytes ≡ took raw n → judge_frame plain None bytes ≡ took f m → decode_raw raw ≡ Ok f
unfolding judge_frame
of_raw bytes raw n m f found got = whole_frame (decode_raw raw) n m f (rw found at got)

-- what was put has its fields
pub fields_read : PutFieldsAreRead
fields_read old new n frame flaw raw used deep held size made found =
    let rest : List ℕ = drop (0 + length (canon frame)) old in
    let front : new ≡ canon frame ++ rest = in_front old new (canon frame) made.2 in
    let got : judge_frame plain None new ≡ took (read_back frame) (length (canon frame)) =
    ap (judge_frame plain None) front ∙ (reads_back plain frame held size).whole rest in
    let is = of_raw new raw used (length (canon frame)) (read_back frame) found got in
    let whole_span : IsSpan raw.payload 0 (length raw.payload) raw.payload =
    record { within = omega arith; bytes_are = take_all (length raw.payload) raw.payload (omega arith) } in
    let all : 0 + length raw.payload ≡ length raw.payload = omega arith in
    subst (λ (end : ℕ). AreNodesOf deep raw.payload (read_back frame) (payload_nodes raw.kind deep end raw.payload)) all
    (listed_mean deep raw.payload raw.payload 0 raw.kind raw.channel (read_back frame) whole_span is)
