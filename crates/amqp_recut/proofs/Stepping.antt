-- What is written for one frame, and what is kept then, by its mark.
use Rattle.amqp_recut.specs
use Rattle.amqp_turns.specs as turns
use Rattle.amqp_wire.specs as wire
use Rattle.amqp_stream.specs as stream
use Rattle.std.proofs.lemmas.Grind.{common_steps}
use Rattle.std.proofs.Common.{arith, ◌≡◌, ℕ, List, [], refl, sym, ap, ◌∙◌, Option, Some, Result, Ok, Err, IsTrue}
use Rattle.amqp_types.specs.Levels.{plain}
use wire.declared.frame_type.AMQPFrameType.{AMQPFrameType}
use wire.declared.frame_type.AMQPFrameType.TheVariants as kinds
use wire.declared.outline.FrameOutline.{FrameOutline}
use wire.Frames.{Raw, Frame, Body, channel_id_of, IsTyped}
use wire.Outlines.{outline_of}
use wire.Canonical.{canon}
use wire.Verdicts.{decode_raw, decode_payload}
use Rattle.amqp_wire.proofs.Encoded.{read_as}
use turns.declared.fault.ContentFault.{ContentFault}
use turns.declared.mark.Mark.{Mark}
use turns.declared.mark.Mark.TheVariants as marks
use turns.declared.progress.Progress.{Progress}
use turns.Units.{IsBody}
use turns.Steps.{mark_after, progress_after}
use stream.declared.errors.StreamError.{StreamError}
use stream.Errors.{Cause, faulty, write_failed}
use stream.Ends.{Store}
use stream.Writing.{IsUnwritten, WritesFrame}
use stream.Streaming.{refused_by, stopped_by, ending_of, as_run, WritesBy}
use Rattle.amqp_stream.proofs.Writes.{kept, is_faulty}
use Rattle.amqp_in_turn.specs.declared.errors.Refusal.TheVariants as refusals
use specs.declared.recutter.Recutter.{Recutter}
use turns.InTurn.{greatest}
use specs.Held.{Held, progress_in, held_with, set_at}
use specs.Stepping.{mark_held, held_at, held_after, step_marked, step_recutting, recutting, is_content_type, body_raw}
use Rattle.amqp_turns.proofs.Holding.{set_at-same}
use Rattle.amqp_in_turn.proofs.Judging.{passed_mark}
use Rattle.amqp_in_turn.proofs.Placing.{IsOutsideType, outside_is, IsOutlineOf, marked_by, channel_by}

-- ---- which frames there are of a type

-- no body
abbrev pub IsNoBody : Frame → Type 0
IsNoBody frame = IsBody (outline_of frame) → ⊥

typed_no_body : (kind : AMQPFrameType) (channel : ℕ) (payload : List ℕ) (frame : Frame)
    → IsTyped kind → decode_payload kind channel payload ≡ Ok frame → IsNoBody frame
unfolding decode_payload
typed_no_body kinds.Method channel payload frame typed h = grind (arith, common_steps, read_as)
typed_no_body kinds.Header channel payload frame typed h = grind (arith, common_steps, read_as)
typed_no_body kind channel payload frame typed h = absurd typed

-- A method or a content header is content.
pub typed_wants : (kind : AMQPFrameType) → IsTyped kind → IsTrue (is_content_type kind)
typed_wants kind typed = grind (arith, common_steps)

-- ---- steps by marks

-- What is kept is kept by a frame that has this mark.
pub passed_keeps : (size : ℕ) (held : Option Held) (frame : Frame) → mark_held held frame ≡ marks.Passed → held_after size held frame ≡ held
passed_keeps size held frame e = grind (arith, common_steps)

passed_step : (s : Recutter) (frame : Frame) → mark_held (held_at s (channel_id_of frame)) frame ≡ marks.Passed → step_recutting s frame ≡ Ok (canon frame, s)
passed_step s frame e =
    let held = held_at s (channel_id_of frame) in
    ap (step_marked s held frame) e
    ∙ rw (passed_keeps s.size held frame e, ← set_at-same s.messages (channel_id_of frame))

-- a method or content header that is not passed is no piece of a body
abbrev pub IsPart : Mark → Type 0
IsPart marks.Passed = ⊥
IsPart (marks.Fault bad) = ⊥
IsPart mark = Unit {0}

part_step : (s : Recutter) (frame : Frame) (mark : Mark) → IsNoBody frame → IsPart mark → mark_held (held_at s (channel_id_of frame)) frame ≡ mark
    → step_recutting s frame
    ≡ Ok (
      canon frame,
      record s {
        messages =
            set_at s.messages (channel_id_of frame) (held_with (progress_after greatest (progress_in (held_at s (channel_id_of frame))) (outline_of frame)) []);
      },
    )
part_step s frame mark other part e = grind (arith, common_steps)

-- ---- methods and content headers, by the outline that stands in their payloads

-- how far the content of each channel has come
abbrev progress_on : Recutter → ℕ → Option Progress
progress_on s channel = progress_in (held_at s channel)

module _ (s : Recutter) (raw : Raw) (outline : FrameOutline) (is : (frame : Frame) → decode_raw raw ≡ Ok frame → outline ≡ outline_of frame) where
  outline_is : IsOutlineOf raw outline
  outline_is frame h = ap Some (is frame h)

  mark_is : (mark : Mark) (frame : Frame) → mark ≡ mark_after greatest (progress_on s raw.channel) outline → decode_raw raw ≡ Ok frame
      → mark_held (held_at s (channel_id_of frame)) frame ≡ mark
  mark_is mark frame e h = marked_by (progress_on s) raw outline mark frame outline_is e h

  -- A frame that is not in turn is refused with its fault.
  pub typed_refused : (bad : ContentFault) → marks.Fault bad ≡ mark_after greatest (progress_on s raw.channel) outline
      → (frame : Frame) → decode_raw raw ≡ Ok frame → step_recutting s frame ≡ Err (refusals.BadContent bad)
  typed_refused bad e frame h = ap (step_marked s (held_at s (channel_id_of frame)) frame) (mark_is (marks.Fault bad) frame e h)

  -- A frame outside of messages is written as it is, and all that is kept stays.
  pub typed_passed : marks.Passed ≡ mark_after greatest (progress_on s raw.channel) outline
      → (frame : Frame) → decode_raw raw ≡ Ok frame → step_recutting s frame ≡ Ok (canon frame, s)
  typed_passed e frame h = passed_step s frame (mark_is marks.Passed frame e h)

  -- A method or a content header of a message is written as it is, and its message is kept as far as it has come, with no bytes left over.
  pub typed_part : (mark : Mark) {progress : Option Progress} → IsTyped raw.kind → IsPart mark
      → mark ≡ mark_after greatest (progress_on s raw.channel) outline → progress ≡ progress_after greatest (progress_on s raw.channel) outline
      → (frame : Frame) → decode_raw raw ≡ Ok frame
      → step_recutting s frame ≡ Ok (canon frame, record s { messages = set_at s.messages raw.channel (held_with progress []) })
  typed_part mark typed part e after frame h =
      rw (
        part_step s frame mark (typed_no_body raw.kind raw.channel raw.payload frame typed h) part (mark_is mark frame e h),
        channel_by (progress_on s) raw outline mark frame outline_is e h (grind (arith, common_steps)),
        after,
        is frame h,
      )

-- A protocol header or a heartbeat is written as it is, and all that is kept stays.
pub outside_passed : (s : Recutter) (raw : Raw) → IsOutsideType raw.kind → (frame : Frame) → decode_raw raw ≡ Ok frame
    → step_recutting s frame ≡ Ok (canon frame, s)
outside_passed s raw out frame h = grind (arith, common_steps, outside_is, passed_mark, passed_step)

-- ---- what is returned

passing_cause : (s : Recutter) (raw : Raw) (a b : Store) (x y : List ℕ) (cause : Cause)
    → ((frame : Frame) → decode_raw raw ≡ Ok frame → step_recutting s frame ≡ Ok (canon frame, s))
    → IsUnwritten raw a b x y cause → WritesBy recutting s s raw a b x y (stopped_by cause)
passing_cause s raw a b x y (faulty bad) steps h = (is_faulty plain raw bad h.0 h.1, h.2, refl)
passing_cause s raw a b x y write_failed steps h =
    record { bytes = canon h.0; next = s; step = record { frame = h.0; is_whole = h.1; at_level = refl; steps = steps h.0 h.1 }; failed = h.2 }
passing_cause s raw a b x y cause steps h = absurd h

-- a frame is written as it is, and what is kept stays
pub passing : (s : Recutter) (raw : Raw) (a b : Store) (x y : List ℕ) (r : Result (Unit {0}) StreamError)
    → ((frame : Frame) → decode_raw raw ≡ Ok frame → step_recutting s frame ≡ Ok (canon frame, s))
    → WritesFrame raw a b x y r → WritesBy recutting s s raw a b x y (ending_of (as_run r))
passing s raw a b x y r steps h = grind (arith, common_steps, passing_cause)

-- ---- bodies

-- A body that is not in turn is refused with its fault, and nothing is written for it.
pub body_refused : (s : Recutter) (channel : ℕ) (payload : List ℕ) (bad : ContentFault) (a : Store) (x y : List ℕ) → y ≡ x
    → marks.Fault bad ≡ mark_held (held_at s channel) (Body channel payload)
    → WritesBy recutting s s (body_raw channel payload) a a x y (refused_by (refusals.BadContent bad))
unfolding decode_payload
body_refused s channel payload bad a x y same e = (
  record { frame = Body channel payload; is_whole = refl; at_level = refl; refuses = ap (step_marked s (held_at s channel) (Body channel payload)) (sym e) },
  kept a x y same,
  refl,
)
