-- The units of one channel, filtered: each is kept with all its frames, or dropped with them.
use Rattle.std.proofs.Common.{◌≡◌, ℕ, ◌+◌, ◌<◌, Bool, true, false, cond, List, [], ◌∷◌, ◌++◌, append-nil, refl, sym, ap, ap₂, ◌∙◌, arith}
use Rattle.std.specs.List.{AllByRecursion, flat_map, filter}
use Rattle.std.proofs.lemmas.List.{append_assoc}
use Rattle.std.proofs.lemmas.List.Elements.{filter-append}
use Rattle.amqp_wire.specs.declared.outline.FrameOutline.{FrameOutline}
use Rattle.amqp_wire.specs.Frames.{Frame, Proto, Meth, Head, Body, Beat, BadBeat}
use Rattle.amqp_wire.specs.Outlines.{outline_of}
use Rattle.amqp_turns.specs.Units.{Finished, Lone, Empty, Full, Begun, Nothing, Opened, Headed, IsBody, size_in, bytes_in, begun_frames, finished_frames}
use Rattle.amqp_turns.specs.Units.{frames_in, IsBegun, IsFinished, IsInTurn, is_of_channel, of_channel}
use Rattle.amqp_turns.specs.Answers.{Answer}
use Rattle.amqp_turns.specs.Stands.{State, At}
use Rattle.amqp_turns.specs.Steps.{step, run_state}
use Rattle.amqp_turns.proofs.Apart.{of_channel-in, of_channel-out}
use Rattle.amqp_turns.proofs.Moving.{bytes_in-push}
use Rattle.amqp_turns.proofs.Running.{empty_step, body_step, last_step, finished_runs, run_state-append}
use Rattle.amqp_turns.proofs.Messages.{opened, headed_by}
use Rattle.amqp_in_turn.proofs.Alone.{GoesByChannel, channel_made, made_on, first_made, units_made}
use Rattle.amqp_turns.specs.InTurn.{greatest, state_on}
use Rattle.amqp_filter.specs.Kept.{content_decider, decider, is_kept, if_kept, kept_after, kept_of}
use Rattle.amqp_filter.specs.Laws.{keeps_unit, begun_kept}

-- all of some frames, or none
abbrev pub if_all : Bool → List Frame → List Frame
if_all true frames = frames
if_all false frames = []

first_and_all : (kept : Bool) (frame : Frame) (frames rest : List Frame)
    → if_kept kept frame ++ (if_all kept frames ++ rest) ≡ if_all kept (frame ∷ frames) ++ rest
first_and_all true frame frames rest = refl
first_and_all false frame frames rest = refl

module _ (keeps : FrameOutline → Bool) where
  -- a frame of a channel, where it is kept after what has come on it
  abbrev inside : State Frame → Frame → List Frame
  inside state frame = if_kept (keeps (outline_of (content_decider state frame))) frame

  -- those of one channel's frames that are kept, after what has come on it
  abbrev pub channel_kept : State Frame → List Frame → List Frame
  channel_kept state frames = channel_made inside state frames

  inside_is : (channel : ℕ) (state : State Frame) (frame : Frame) → is_of_channel outline_of channel frame ≡ true
      → if_kept (keeps (outline_of (decider state frame))) frame ≡ inside state frame
  inside_is channel state (Meth other m) h = refl
  inside_is channel state (Head other header) h = refl
  inside_is channel state (Body other content) h = refl
  inside_is channel state (Proto major minor revision) h = absurd cc
  inside_is channel state Beat h = absurd cc
  inside_is channel state (BadBeat other) h = absurd cc

  kept_alike : (channel : ℕ) (frame : Frame) (kept : Bool)
      → AllByRecursion (λ x. is_of_channel outline_of channel x ≡ is_of_channel outline_of channel frame) (if_kept kept frame)
  kept_alike channel frame true = (refl, tt)
  kept_alike channel frame false = tt

  by_channel : GoesByChannel (λ state frame. if_kept (keeps (outline_of (decider state frame))) frame) inside (kept_after keeps)
  by_channel = record {
    none = λ earlier. refl;
    more = λ earlier frame frames. refl;
    alike = λ channel state frame. kept_alike channel frame _;
    inside_is = inside_is;
  }

  -- ---- a unit

  bodies_kept : (opening header : Frame) (before bodies rest : List Frame) → AllByRecursion (λ x. IsBody (outline_of x)) bodies
      → bytes_in outline_of before + bytes_in outline_of bodies < size_in (outline_of header)
      → channel_kept (At (Headed opening header before)) (bodies ++ rest)
      ≡ if_all (keeps (outline_of opening)) bodies ++ channel_kept (At (Headed opening header (before ++ bodies))) rest
  bodies_kept opening header before [] rest h less =
      ap₂ (λ (xs bs : List Frame). xs ++ channel_kept (At (Headed opening header bs)) rest) (no_bodies (keeps (outline_of opening))) (sym (append-nil before))
    where
      no_bodies : (b : Bool) → [] ≡ if_all b []
      no_bodies true = refl
      no_bodies false = refl
  bodies_kept opening header before (body ∷ bodies) rest h less =
      let kept = keeps (outline_of opening) in
      let push = bytes_in-push outline_of before body in
      let one : (step outline_of greatest (At (Headed opening header before)) body).1 ≡ At (Headed opening header (before ++ body ∷ [])) =
      ap (λ (p : Answer Frame × State Frame). p.1)
      (body_step outline_of greatest opening header before body (outline_of body) refl h.0 (omega (arith, less))) in
      first_made inside (At (Headed opening header before)) body (bodies ++ rest) one
      ∙ ap (λ fs. if_kept kept body ++ fs) (bodies_kept opening header (before ++ body ∷ []) bodies rest h.1 (omega (arith, less, push)))
      ∙ ap (λ (bs : List Frame). if_kept kept body ++ (if_all kept bodies ++ channel_kept (At (Headed opening header bs)) rest))
      (append_assoc before (body ∷ []) bodies)
      ∙ first_and_all kept body bodies (channel_kept (At (Headed opening header (before ++ body ∷ bodies))) rest)

  -- an opening, a content header and bodies, and what comes after them
  message_kept : (opening header : Frame) (bodies rest : List Frame) → IsBegun outline_of greatest (Headed opening header bodies)
      → channel_kept (At Nothing) (opening ∷ header ∷ (bodies ++ rest))
      ≡ if_all (keeps (outline_of opening)) (opening ∷ header ∷ bodies) ++ channel_kept (At (Headed opening header bodies)) rest
  message_kept opening header bodies rest h =
      let kept = keeps (outline_of opening) in
      let after = channel_kept (At (Headed opening header bodies)) rest in
      first_made inside (At Nothing) opening (header ∷ (bodies ++ rest)) (opened opening h.0)
      ∙ ap (λ fs. if_kept kept opening ++ fs)
      (first_made inside (At (Opened opening)) header (bodies ++ rest) (headed_by opening header h.1 h.2 (omega (arith, h.4))))
      ∙ ap (λ fs. if_kept kept opening ++ (if_kept kept header ++ fs)) (bodies_kept opening header [] bodies rest h.3 (omega (arith, h.4)))
      ∙ ap (λ fs. if_kept kept opening ++ fs) (first_and_all kept header bodies after)
      ∙ first_and_all kept opening (header ∷ bodies) after

  all_and_last : (kept : Bool) (frames rest : List Frame) (frame : Frame)
      → if_all kept frames ++ (if_kept kept frame ++ rest) ≡ if_all kept (frames ++ frame ∷ []) ++ rest
  all_and_last true frames rest frame = sym (append_assoc frames (frame ∷ []) rest)
  all_and_last false frames rest frame = refl

  one_kept : (kept : Bool) (frame : Frame) (rest : List Frame) → if_kept kept frame ++ rest ≡ if_all kept (frame ∷ []) ++ rest
  one_kept true frame rest = refl
  one_kept false frame rest = refl

  unit_kept : (unit : Finished Frame) (frames : List Frame) → IsFinished outline_of greatest unit
      → channel_kept (At Nothing) (finished_frames unit ++ frames) ≡ if_all (keeps_unit keeps unit) (finished_frames unit) ++ channel_kept (At Nothing) frames
  unit_kept (Lone method) frames h =
      first_made inside (At Nothing) method frames (finished_runs outline_of greatest (Lone method) h).state_is
      ∙ one_kept (keeps (outline_of method)) method (channel_kept (At Nothing) frames)
  unit_kept (Empty opening header) frames h =
      let kept = keeps (outline_of opening) in
      let closes : (step outline_of greatest (At (Opened opening)) header).1 ≡ At Nothing =
      ap (λ (p : Answer Frame × State Frame). p.1) (empty_step outline_of greatest opening header (outline_of header) refl h.1 h.2) in
      first_made inside (At Nothing) opening (header ∷ frames) (opened opening h.0)
      ∙ ap (λ fs. if_kept kept opening ++ fs)
      (first_made inside (At (Opened opening)) header frames closes ∙ one_kept kept header (channel_kept (At Nothing) frames))
      ∙ first_and_all kept opening (header ∷ []) (channel_kept (At Nothing) frames)
  unit_kept (Full opening header bodies last) frames h =
      let kept = keeps (outline_of opening) in
      let closes : (step outline_of greatest (At (Headed opening header bodies)) last).1 ≡ At Nothing =
      ap (λ (p : Answer Frame × State Frame). p.1) (last_step outline_of greatest opening header bodies last (outline_of last) refl h.1 h.2) in
      ap (λ fs. channel_kept (At Nothing) (opening ∷ header ∷ fs)) (append_assoc bodies (last ∷ []) frames)
      ∙ message_kept opening header bodies (last ∷ frames) h.0
      ∙ ap (λ fs. if_all kept (opening ∷ header ∷ bodies) ++ fs) (first_made inside (At (Headed opening header bodies)) last frames closes)
      ∙ all_and_last kept (opening ∷ header ∷ bodies) (channel_kept (At Nothing) frames) last

  if_begun : (kept : Bool) (begun : Begun Frame) → if_all kept (begun_frames begun) ++ [] ≡ begun_frames (cond kept begun Nothing)
  if_begun true begun = append-nil (begun_frames begun)
  if_begun false begun = refl

  begun_left : (begun : Begun Frame) → IsBegun outline_of greatest begun
      → channel_kept (At Nothing) (begun_frames begun) ≡ begun_frames (begun_kept keeps begun)
  begun_left Nothing h = refl
  begun_left (Opened opening) h =
      first_made inside (At Nothing) opening [] (opened opening h)
      ∙ one_kept (keeps (outline_of opening)) opening []
      ∙ if_begun (keeps (outline_of opening)) (Opened opening)
  begun_left (Headed opening header bodies) h =
      ap (λ fs. channel_kept (At Nothing) (opening ∷ header ∷ fs)) (sym (append-nil bodies))
      ∙ message_kept opening header bodies [] h
      ∙ if_begun (keeps (outline_of opening)) (Headed opening header bodies)

  -- ---- units

  units_left : (units : List (Finished Frame))
      → flat_map (λ unit. if_all (keeps_unit keeps unit) (finished_frames unit)) units ≡ flat_map finished_frames (filter (keeps_unit keeps) units)
  units_left [] = refl
  units_left (unit ∷ units) = by_test (keeps_unit keeps unit) refl (units_left units)
    where
      by_test : (b : Bool) → keeps_unit keeps unit ≡ b
          → flat_map (λ unit. if_all (keeps_unit keeps unit) (finished_frames unit)) units ≡ flat_map finished_frames (filter (keeps_unit keeps) units)
          → if_all (keeps_unit keeps unit) (finished_frames unit) ++ flat_map (λ unit. if_all (keeps_unit keeps unit) (finished_frames unit)) units
          ≡ flat_map finished_frames (filter (keeps_unit keeps) (unit ∷ units))
      by_test true e rest = rw e (ap (λ fs. finished_frames unit ++ fs) rest)
      by_test false e rest = rw e rest

  -- The frames of a channel that are kept are those of its finished units that are kept, and of what has begun where it is kept.
  pub units_are_kept : (frames : List Frame) (channel : ℕ) (turn : IsInTurn outline_of greatest (of_channel outline_of channel frames))
      → of_channel outline_of channel (kept_of keeps frames) ≡ frames_in (filter (keeps_unit keeps) turn.units) (begun_kept keeps turn.begun)
  units_are_kept frames channel turn =
      made_on by_channel channel [] frames
      ∙ ap (channel_kept (At Nothing)) turn.are
      ∙ units_made inside (IsFinished outline_of greatest) (λ unit. if_all (keeps_unit keeps unit) (finished_frames unit)) turn.begun
      (begun_frames (begun_kept keeps turn.begun)) unit_kept (begun_left turn.begun turn.is_begun) turn.units turn.finished
      ∙ ap (λ fs. fs ++ begun_frames (begun_kept keeps turn.begun)) (units_left turn.units)
