-- What the writer returns for a frame, by what its calls return.
use Rattle.amqp_recut.specs
use Rattle.amqp_turns.specs as turns
use Rattle.amqp_wire.specs as wire
use Rattle.amqp_stream.specs as stream
use Rattle.std.proofs.lemmas
use lemmas.Grind.{common_steps}
use Rattle.std.proofs.Common.{◌≡◌, ℕ, ◌≤◌, Bool, true, false, eqb, List, [], ◌++◌, length, refl, arith, append-nil, Some, None, Ok}
use Rattle.std.specs.FinMap as finite
use lemmas.Bool.{ne_eqb}
use lemmas.List.{length-append}
use wire.declared.frame_type.AMQPFrameType.TheVariants as kinds
use wire.Frames.{Raw, Body}
use wire.Canonical.{canon, canon_frames}
use wire.Outlines.{outline_of}
use wire.Verdicts.{decode_payload}
use Rattle.amqp_wire.proofs.Judged.{body_frame}
use stream.declared.errors.RunError.{RunError}
use stream.Errors.{Cause}
use stream.Ends.{Store}
use stream.Decisions.{IsKept}
use stream.Writing.{Keeps}
use stream.Streaming.{error_ending, stopped_by, WritesBy}
use Rattle.amqp_in_turn.specs.declared.errors.Refusal.{Refusal}
use specs.declared.recutter.Recutter.{Recutter}
use turns.declared.mark.Mark.TheVariants as marks
use turns.declared.progress.Progress.{Progress}
use turns.Steps.{progress_after}
use turns.InTurn.{greatest}
use specs.Held.{progress_in, kept_in}
use turns.Splits.{frames_given}
use Rattle.amqp_turns.proofs.Pieces.{left-none, one-whole}
use Rattle.amqp_recut.proofs.Piecing.{last_piece}
use specs.Stepping.{recutting, step_recutting, mark_held, held_at}

-- ---- bodies

-- a body that is one piece
pub body_kept : (s t : Recutter) (raw : Raw) → raw.kind ≡ kinds.Body
    → step_recutting s (Body raw.channel raw.payload) ≡ Ok (canon (Body raw.channel raw.payload), t)
    → IsKept recutting s t raw (record { canonical = true; tidy = true })
unfolding decode_payload
body_kept s t raw is steps =
    let judged = body_frame raw.channel raw.payload in record {
      is_judged = record { frame = Body raw.channel raw.payload; is = rw is; canonical = rw is judged.canonical; tidy = rw is judged.tidy };
      step = record { frame = Body raw.channel raw.payload; is_whole = rw is; at_level = refl; steps = steps };
      compact = refl;
    }

-- the whole of a body that is no longer than a piece
pub one_piece : (size channel : ℕ) (payload : List ℕ) → 1 ≤ size → length payload ≡ size
    → canon_frames (frames_given size channel false payload) ≡ canon (Body channel payload)
one_piece size channel payload some full = grind (arith, common_steps, append-nil, one-whole)

-- no bytes
pub empty_is : (xs : List ℕ) (empty : Bool) → empty ≡ eqb (length xs) 0 → empty ≡ true → xs ≡ []
empty_is xs empty told is = grind (arith, common_steps, ne_eqb)

-- Bytes that are not empty are at least one.
pub some_are : (xs : List ℕ) (empty : Bool) → empty ≡ eqb (length xs) 0 → empty ≡ false → 1 ≤ length xs
some_are xs empty told is = grind (arith, common_steps)

module _ (s t : Recutter) (channel : ℕ) (payload : List ℕ) (before after n : ℕ)
    (mark : marks.Body before after n ≡ mark_held (held_at s channel) (Body channel payload))
    (empty : kept_in (held_at s channel) ≡ []) (some : 1 ≤ length payload) where
  -- the last body of a message is one piece, and nothing was kept
  pub body_last : None ≡ progress_after greatest (progress_in (held_at s channel)) (outline_of (Body channel payload)) → length payload ≤ s.size
      → t ≡ record s { messages = finite.remove s.messages channel } → step_recutting s (Body channel payload) ≡ Ok (canon (Body channel payload), t)
  body_last none few is = grind (arith, common_steps, last_piece)

  -- a body in the midst of a message is one piece, and nothing was kept
  pub body_midst : (progress : Progress) → Some progress ≡ progress_after greatest (progress_in (held_at s channel)) (outline_of (Body channel payload))
      → length payload ≡ s.size
      → t ≡ record s { messages = finite.insert s.messages channel (record { progress = progress; kept = kept_in (held_at s channel) ++ [] }) }
      → step_recutting s (Body channel payload) ≡ Ok (canon (Body channel payload), t)
  body_midst progress left full is = grind (arith, common_steps, left-none, one_piece)

-- ---- what is pending after an error

kept_few : (a b : Store) (x y : List ℕ) → Keeps a b x y → length y ≤ length x
kept_few a b x y h = grind (arith, common_steps, length-append)

stopped_few : (s t : Recutter) (raw : Raw) (a b : Store) (x y : List ℕ) (cause : Cause)
    → WritesBy recutting s t raw a b x y (stopped_by cause) → length y ≤ length x
stopped_few s t raw a b x y cause h = grind (arith, common_steps, kept_few)

-- no more than before
pub error_few : (s t : Recutter) (raw : Raw) (a b : Store) (x y : List ℕ) (error : RunError Refusal)
    → WritesBy recutting s t raw a b x y (error_ending error) → length y ≤ length x
error_few s t raw a b x y error h = grind (arith, common_steps, kept_few, stopped_few)
