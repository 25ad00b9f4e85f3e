-- Recutting goes by the turns of the channels, and writes the frames recut.
use Rattle.amqp_recut.specs
use Rattle.amqp_turns.specs as turns
use Rattle.std.proofs.lemmas.Grind.{common_steps, flat_map-append}
use Rattle.std.proofs.Common.{◌≡◌, ℕ, ◌+◌, ◌≤◌, Bool, true, false, cond, eqb, leb, List, ◌++◌, [], ◌<◌, ◌∷◌, length, append-nil, refl, sym, ap}
use Rattle.std.proofs.Common.{arith, Option, Some, None, Ok}
use Rattle.std.proofs.lemmas.List.{drop_all}
use Rattle.std.specs.FinMap as finite
use Rattle.amqp_types.specs.Methods.{Method}
use Rattle.amqp_types.specs.ContentHeaders.{ContentHeader}
use Rattle.amqp_wire.specs.Frames.{Frame, Meth, Head, Body, channel_id_of}
use Rattle.amqp_wire.specs.Outlines.{outline_of}
use Rattle.amqp_wire.specs.Canonical.{canon, canon_frames}
use turns.declared.mark.Mark.{Mark}
use turns.declared.progress.Progress.TheVariants as progresses
use turns.ByChannel.{ByChannel}
use turns.InTurn.{greatest, state_on}
use turns.Messages.{joined}
use turns.Splits.{left_over}
use turns.Stands.{State, At, Lost}
use turns.Units.{Nothing, Opened, Headed, is_content, is_opening_id, size_in, bytes_in}
use Rattle.amqp_turns.proofs.Moving.{bytes_in-push}
use Rattle.amqp_turns.proofs.Pieces.{left-more}
use Rattle.amqp_turns.proofs.Telling.{joined-push}
use Rattle.amqp_in_turn.proofs.Judging.{passed_mark}
use Rattle.amqp_in_turn.proofs.RunsInTurn.{GoesByTurns}
use Rattle.amqp_in_turn.proofs.Keeping.{StandsFor, KeepsByTurns, by_turns, start}
use specs.declared.recutter.Recutter.{Recutter}
use specs.Cuts.{frame_recut, recut_after}
use specs.Held.{Held, set_at, progress_in}
use specs.Stepping.{mark_held, held_at, step_marked, step_recutting, end_recutting}
use Rattle.amqp_recut.proofs.Cutting.{brought}
use Rattle.amqp_recut.proofs.Stepping.{passed_keeps}

-- what is kept of a channel on which this has come
abbrev pub held_of_state : ℕ → State Frame → Option Held
held_of_state size (At Nothing) = None
held_of_state size (At (Opened opening)) = Some (record { progress = progresses.Opened; kept = [] })
held_of_state size (At (Headed opening header bodies)) =
    Some (record { progress = progresses.Headed (size_in (outline_of header)) (bytes_in outline_of bodies); kept = left_over size (joined bodies) })
held_of_state size Lost = Some (record { progress = progresses.Faulted; kept = [] })

abbrev messages_in : Recutter → ByChannel Held
messages_in s = s.messages

-- the size stays
abbrev pub HasSize : ℕ → Recutter → Type 0
HasSize size s = s.size ≡ size

-- the writer once this is kept of a channel
abbrev with_held : Recutter → ℕ → Option Held → Recutter
with_held s channel held = record s { messages = set_at s.messages channel held }

-- what a frame after these is written as
abbrev given_after : ℕ → List Frame → Frame → List ℕ
given_after size earlier frame = canon_frames (frame_recut size (state_on earlier (channel_id_of frame)) frame)

-- what is written for frames after these
abbrev bytes_after : ℕ → List Frame → List Frame → List ℕ
bytes_after size earlier frames = canon_frames (recut_after size earlier frames)

as_it_is : (frame : Frame) → canon frame ≡ canon_frames (frame ∷ [])
as_it_is frame = sym (append-nil (canon frame))

recut_outside : (size : ℕ) (state : State Frame) (frame : Frame)
    → is_content (outline_of frame) ≡ false → canon frame ≡ canon_frames (frame_recut size state frame)
recut_outside size state frame h = grind (arith, common_steps, as_it_is)

-- ---- steps by marks

module _ (size : ℕ) (some : 1 ≤ size) where
  module _ (s : Recutter) (earlier : List Frame) where
    -- a step by what is kept of the channel of the frame, and its mark
    step_by : (frame : Frame) (held : Option Held) (mark : Mark) → held_at s (channel_id_of frame) ≡ held → mark_held held frame ≡ mark
        → step_recutting s frame ≡ step_marked s held frame mark
    step_by frame held mark e marked = grind (arith, common_steps)

    -- what such a step is to be: what is written for the frame, and what is kept of its channel then
    abbrev Gives : Frame → Option Held → Type 0
    Gives frame held = step_recutting s frame ≡ Ok (given_after size earlier frame, with_held s (channel_id_of frame) held)

    step_outside : (frame : Frame) → HasSize size s → is_content (outline_of frame) ≡ false → Gives frame (held_at s (channel_id_of frame))
    step_outside frame own h = grind (arith, common_steps, passed_keeps, passed_mark, recut_outside, step_by)

    step_method : (channel : ℕ) (m : Method) (opens : Bool) → HasSize size s → is_opening_id m.class m.id ≡ opens → state_on earlier channel ≡ At Nothing
        → held_at s channel ≡ None → Gives (Meth channel m) (held_of_state size (At (cond opens (Opened (Meth channel m)) Nothing)))
    step_method channel m opens own e is held = grind (arith, common_steps, as_it_is, step_by)

    step_header : (opening : Frame) (channel : ℕ) (header : ContentHeader) (all : Bool) → HasSize size s → eqb header.class_id 60 ≡ true
        → leb header.body_size greatest ≡ true → eqb 0 header.body_size ≡ all → state_on earlier channel ≡ At (Opened opening)
        → held_at s channel ≡ held_of_state size (At (Opened opening))
        → Gives (Head channel header) (held_of_state size (At (cond all Nothing (Headed opening (Head channel header) []))))
    step_header opening channel header all own basic fit done is held = grind (arith, common_steps, as_it_is, step_by, drop_all)

    step_body : (opening header : Frame) (bodies : List Frame) (channel : ℕ) (content : List ℕ) (all : Bool) → HasSize size s
        → bytes_in outline_of bodies < size_in (outline_of header)
        → leb (bytes_in outline_of bodies + length content) (size_in (outline_of header)) ≡ true
        → eqb (bytes_in outline_of bodies + length content) (size_in (outline_of header)) ≡ all
        → state_on earlier channel ≡ At (Headed opening header bodies) → held_at s channel ≡ held_of_state size (At (Headed opening header bodies))
        → Gives (Body channel content) (held_of_state size (At (cond all Nothing (Headed opening header (bodies ++ Body channel content ∷ [])))))
    step_body opening header bodies channel content all own less fit done is held =
        grind (arith, common_steps, step_by, brought, bytes_in-push, joined-push, left-more)

  keeps : KeepsByTurns messages_in with_held (HasSize size) (held_of_state size) progress_in step_recutting end_recutting (given_after size) (bytes_after size)
  keeps = record {
    none = λ earlier. refl;
    more = λ earlier frame frames.
        flat_map-append canon (frame_recut size (state_on earlier (channel_id_of frame)) frame) (recut_after size (earlier ++ frame ∷ []) frames);
    ends = λ s. refl;
    puts = λ s channel held. refl;
    own = λ s channel held h. h;
    nothing = refl;
    something = λ begun e. grind (arith, common_steps);
    progress = λ begun. grind (arith, common_steps);
    outside = step_outside;
    refuses = λ s frame bad e. ap (step_marked s (held_at s (channel_id_of frame)) frame) e;
    method = step_method;
    header = step_header;
    body = step_body;
  }

  -- Recutting at a size of at least 1 goes by the turns of the channels, and writes the frames recut.
  pub recuts_by_turns : GoesByTurns step_recutting end_recutting
      (StandsFor messages_in (HasSize size) (held_of_state size)) (given_after size) (bytes_after size)
  recuts_by_turns = by_turns keeps

  -- a writer that has taken no frame
  pub is_new : (s : Recutter) → s.size ≡ size → s.messages ≡ finite.empty → StandsFor messages_in (HasSize size) (held_of_state size) s []
  is_new s own none = start keeps s own none
