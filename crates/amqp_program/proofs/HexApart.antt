-- Lower-case hex is read back, so bytes with equal hex are equal, and so are the frames of two accepted texts with equal output.
use Rattle.std.proofs.Common.{ℕ, List, [], ◌∷◌, ◌++◌, Some, sym, ap, ◌∙◌}
use Rattle.std.proofs.lemmas.List.{append_cancel_right}
use Rattle.std.specs.Io.BufRead.{strip_last}
use Rattle.hex.specs.Hex.{decode_of, encode_lower}
use Rattle.hex.proofs.HexLemmas.{decode_of-encode_lower, decode_of-ok, decode_of-same}
use Rattle.amqp_types.specs.Judging.{IsBytes}
use Rattle.amqp_types.specs.Levels.{Level}
use Rattle.amqp_wire.specs.Spelling.{SpellsFrames}
use Rattle.amqp_wire.proofs.Sequences.{sequence_front}
use Rattle.amqp_wire.proofs.Strictness.{same_frames, sequence_is_plain}
use Rattle.amqp_stream.specs.Ends.{Supply}
use Rattle.amqp_stream.specs.Canonicalizing.{canon_of}
use Rattle.amqp_lines.proofs.CanonBytes.{canonical_bytes}
use Rattle.amqp_program.specs.HexLaws.{EqualHexIsEqualBytes, EqualOutputIsEqualFrames, frames_accepted}
use Rattle.amqp_program.specs.Reports.{max_payload}
use Rattle.amqp_program.specs.Runs.{AcceptsHex}

-- bytes with the same lower-case hex are the same
pub equal_hex : EqualHexIsEqualBytes
equal_hex a b fits also same = decode_of-same (encode_lower a) a b (decode_of-encode_lower a fits) (ap decode_of same ∙ decode_of-encode_lower b also)

encoded : {level : Level} {text written : List ℕ} {b : Supply} (x : AcceptsHex level text written b)
    → SpellsFrames level (Some max_payload) x.bytes (frames_accepted level text written b x)
encoded {level = level} x =
    rw (sequence_front level (Some max_payload) x.bytes x.sequence.0 x.sequence.1) x.sequence.1

are_bytes : {level : Level} {text written : List ℕ} {b : Supply} (x : AcceptsHex level text written b) → IsBytes (canon_of level max_payload x.bytes)
are_bytes {level = level} {text = text} {written = written} {b = b} x =
    canonical_bytes (Some max_payload) x.bytes (frames_accepted level text written b x) (decode_of-ok (strip_last 10 text) x.bytes x.decoded).3
    (sequence_is_plain level (Some max_payload) x.bytes (frames_accepted level text written b x) (encoded x))

-- what is written for two accepted texts is equal exactly where they encode the same frames
pub equal_output : EqualOutputIsEqualFrames
equal_output level text other written output b c one two =
    let same =
    same_frames level (Some max_payload) one.bytes two.bytes (frames_accepted level text written b one)
    (frames_accepted level other output c two) (encoded one) (encoded two) in
    let lines : List ℕ → List ℕ = λ bytes. encode_lower bytes ++ 10 ∷ [] in (
      (λ e. same.0 (equal_hex (canon_of level max_payload one.bytes) (canon_of level max_payload two.bytes) (are_bytes one) (are_bytes two)
          (append_cancel_right (encode_lower (canon_of level max_payload one.bytes))
          (encode_lower (canon_of level max_payload two.bytes)) (10 ∷ []) (sym one.canonical ∙ e ∙ two.canonical)))),
      (λ e. one.canonical ∙ ap lines (same.1 e) ∙ sym two.canonical),
    )
