-- Frames that were made are read back.
use Rattle.std.proofs.Common.{◌≡◌, ◌≤◌, ℕ, ◌+◌, List, [], ◌++◌, length, take, drop, Option, Some, None, Ok, refl, sym, ap, subst, ◌∙◌, arith, nat_lt, inl, inr}
use Rattle.std.proofs.lemmas.Bool.{cases_Bool}
use Rattle.std.proofs.lemmas.Bool.Decides.{nat_tests}
use Rattle.std.proofs.lemmas.List.{take_at}
use Rattle.amqp_types.specs.Judging.{took, IsBytes}
use Rattle.amqp_types.specs.Levels.{Level}
use Rattle.amqp_types.specs.Methods.{payload_bytes}
use Rattle.amqp_types.specs.ContentHeaders.{content_header_bytes}
use Rattle.amqp_types.specs.Writing.{written}
use Rattle.amqp_wire.specs.Canonical.{canon, size_of, read_back, payload_of}
use Rattle.amqp_wire.specs.Frames.{Frame, Proto, Meth, Head, Body, Beat, BadBeat}
use Rattle.amqp_wire.specs.Laws.{IsFrameHeld}
use Rattle.amqp_wire.specs.Spelling.{Spells, IsWithin}
use Rattle.amqp_wire.specs.Verdicts.{judge_frame}
use Rattle.amqp_wire.proofs.Encoded.{verdict-spells}
use Rattle.amqp_wire.proofs.ReadingBack.{reads_back}
use Rattle.amqp_wire.proofs.Sizes.{framed_length}
use Rattle.amqp_wire.proofs.Spelled.{verdict-spelled_before}
use Rattle.amqp_entries.specs.Flaws.{first_of}
use Rattle.amqp_put.specs.Made.{size_flaw, MakesBytes}
use Rattle.amqp_put.specs.MadeFrames.{MakesFrame}
use Rattle.amqp_entries.specs.declared.errors.PutError.{PutError}

-- what was put stands in front
in_front : (old new bytes : List ℕ) → new ≡ written old 0 bytes → new ≡ bytes ++ drop (0 + length bytes) old
unfolding written
in_front old new bytes is = is

-- the bytes that were put are decoded to the frame
pub bytes_back : (level : Level) (limit : Option ℕ) (old new : List ℕ) (n : ℕ) (frame : Frame) (flaw : Option PutError)
    → IsBytes new → IsFrameHeld frame → size_of frame ≡ Ok (length (canon frame)) → IsWithin limit (canon frame)
    → MakesBytes old new flaw (canon frame) (Ok n) → judge_frame level limit new ≡ took (read_back frame) n
bytes_back level limit old new n frame flaw bytes held size within made =
    let rest : List ℕ = drop (0 + length (canon frame)) old in
    let front : new ≡ canon frame ++ rest = in_front old new (canon frame) made.2 in
    let got : judge_frame level None new ≡ took (read_back frame) (length (canon frame)) = ap (judge_frame level None) front
    ∙ (reads_back level frame held size).whole rest in
    let taken : take (length (canon frame)) new ≡ canon frame = ap (take (length (canon frame))) front
    ∙ take_at (canon frame) rest (length (canon frame)) refl in
    let P : List ℕ → Type 0 = λ bs. Spells level bs (read_back frame) in
    let spelled : Spells level (canon frame) (read_back frame) =
    subst P taken (verdict-spells level None new (read_back frame) (length (canon frame)) bytes got).0 in
    ap (judge_frame level limit) front ∙ verdict-spelled_before level limit (canon frame) rest (read_back frame) spelled within
    ∙ ap (took (read_back frame)) (sym made.1)

no_first : (flaw after : Option PutError) → first_of flaw after ≡ None → after ≡ None
no_first None after e = e
no_first (Some refusal) after e = absurd cc

payload_within : (size max room : ℕ) → size_flaw size max room ≡ None → size ≤ max
payload_within size max room e = elim (cases_Bool (nat_lt max size)) [
  | inl above ↦ absurd (let x = rw above at e in cc)
  | inr within ↦ grind (arith, nat_tests)
]

no_longer : (frame : Frame) → length (canon frame) ≤ length (payload_of frame) + 8
unfolding canon
no_longer (Proto major minor revision) = omega arith
no_longer (Meth channel m) = omega (arith, framed_length 1 channel (payload_bytes m))
no_longer (Head channel header) = omega (arith, framed_length 2 channel (content_header_bytes header))
no_longer (Body channel content) = omega (arith, framed_length 3 channel content)
no_longer Beat = omega (arith, framed_length 8 0 [])
no_longer (BadBeat channel) = omega (arith, framed_length 8 channel [])

-- a frame that was put is within the limit
pub frames_within : (old new : List ℕ) (max n limit : ℕ) (frame : Frame) (flaw : Option PutError) → max ≤ limit → MakesFrame old new max frame flaw (Ok n)
    → IsWithin (Some limit) (canon frame)
frames_within old new max n limit frame flaw most made =
    let small = payload_within (length (payload_of frame)) max (length old) (no_first flaw (size_flaw (length (payload_of frame)) max (length old)) made.0) in
    omega (arith, no_longer frame, small, most)
