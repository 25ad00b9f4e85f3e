-- The units of one channel, recut: each by itself, with the same message.
use Rattle.amqp_recut.proofs
use Rattle.amqp_turns.specs as turns
use proofs.Stepping.{IsNoBody}
use Rattle.std.proofs.lemmas.Grind.{common_steps}
use Rattle.std.proofs.Common.{◌≡◌, ℕ, ◌+◌, ◌<◌, ◌≤◌, true, false, List, [], ◌∷◌, ◌++◌, length, map, refl, sym, ap, ap₂, ◌∙◌, arith}
use Rattle.std.specs.List.{AllByRecursion, flat_map}
use Rattle.std.proofs.lemmas.List.{append_assoc, length-append, map-append, drop_all}
use Rattle.amqp_wire.specs.declared.outline.FrameOutline.{FrameOutline}
use Rattle.amqp_wire.specs.Frames.{Frame, Body, channel_id_of}
use Rattle.amqp_wire.specs.Outlines.{outline_of}
use turns.Units.{Finished, Lone, Empty, Full, Begun, Nothing, Opened, Headed, IsOpening, IsOtherMethod, IsBasicHeader, IsBody, size_in, count_in, bytes_in}
use turns.Units.{begun_frames, finished_frames, frames_in, IsBegun, IsFinished}
use turns.Answers.{finished_answers}
use turns.Stands.{State, At}
use turns.Steps.{step, run_state}
use turns.Messages.{bytes_of, joined}
use turns.Splits.{pieces, whole_pieces, left_over}
use Rattle.amqp_turns.proofs.Pieces.{ArePieces, pieces_are, whole_fit}
use Rattle.amqp_turns.proofs.Running.{empty_step, finished_runs, run_state-append}
use Rattle.amqp_turns.proofs.Telling.{joined-push, length-joined}
use Rattle.amqp_turns.proofs.Messages.{IsOn, all_front, all_back, opened, headed_by, done_by, done_by_append, full_done, channel_is}
use turns.InTurn.{greatest}
use Rattle.amqp_in_turn.proofs.Alone.{units_made, IsUnitOn, units_on}
use Rattle.amqp_recut.specs.Cuts.{frame_recut}
use proofs.LawsChannels.{channel_recut, IsCut, AreCutAfter, cut_append}
use proofs.LawsPieces.{bodies_with, flat, joined_bodies, bytes_bodies, all_bodies, flat_push, open_bodies, closed_bodies, cut_given}

-- a unit recut: the body of a message in pieces
abbrev pub unit_recut : (size channel : ℕ) → Finished Frame → List Frame
unit_recut size channel (Lone method) = method ∷ []
unit_recut size channel (Empty opening header) = opening ∷ header ∷ []
unit_recut size channel (Full opening header bodies last) = opening ∷ header ∷ bodies_with channel (pieces size (joined (bodies ++ last ∷ [])))

-- of a message that is not complete, the pieces that are whole
abbrev pub begun_recut : (size channel : ℕ) → Begun Frame → List Frame
begun_recut size channel Nothing = []
begun_recut size channel (Opened opening) = opening ∷ []
begun_recut size channel (Headed opening header bodies) = opening ∷ header ∷ bodies_with channel (whole_pieces size (joined bodies))

-- ---- frames that are not bodies

opening_no_body : (o : FrameOutline) → IsOpening o → IsBody o → ⊥
opening_no_body o h body = grind (arith, common_steps)

other_no_body : (o : FrameOutline) → IsOtherMethod o → IsBody o → ⊥
other_no_body o h body = grind (arith, common_steps)

header_no_body : (o : FrameOutline) → IsBasicHeader o → IsBody o → ⊥
header_no_body o h body = grind (arith, common_steps)

itself_cut : (size : ℕ) (state : State Frame) (frame : Frame) → IsNoBody frame → IsCut size state frame
itself_cut size state frame h = grind (arith, common_steps)

-- such a frame first
recut_first : (size : ℕ) (state next : State Frame) (frame : Frame) (frames : List Frame) → IsNoBody frame
    → (step outline_of greatest state frame).1 ≡ next → channel_recut size state (frame ∷ frames) ≡ frame ∷ channel_recut size next frames
recut_first size state next frame frames h e = grind (arith, common_steps)

cut_first : (size : ℕ) (state next : State Frame) (frame : Frame) (frames : List Frame) → IsNoBody frame
    → (step outline_of greatest state frame).1 ≡ next → AreCutAfter size next frames → AreCutAfter size state (frame ∷ frames)
cut_first size state next frame frames h e cut = grind (arith, common_steps)

-- a method that opens a message and its content header first
module _ (size : ℕ) (opening header : Frame) {next : State Frame} (first : IsOpening (outline_of opening)) (second : IsBasicHeader (outline_of header))
    (e : (step outline_of greatest (At (Opened opening)) header).1 ≡ next) (frames : List Frame) where
  two_recut : channel_recut size (At Nothing) (opening ∷ header ∷ frames) ≡ opening ∷ header ∷ channel_recut size next frames
  two_recut = grind (arith, common_steps, opened, opening_no_body, header_no_body, recut_first)

  two_cut : AreCutAfter size next frames → AreCutAfter size (At Nothing) (opening ∷ header ∷ frames)
  two_cut cut = grind (arith, common_steps, opened, opening_no_body, header_no_body, cut_first)

-- ---- bodies of one channel

body_is : (channel : ℕ) (frame : Frame) → IsBody (outline_of frame) → IsOn channel frame → frame ≡ Body channel (bytes_of frame)
body_is channel frame h on = grind (arith, common_steps)

bodies_are : (channel : ℕ) (frames : List Frame) → AllByRecursion (λ x. IsBody (outline_of x)) frames
    → AllByRecursion (IsOn channel) frames → frames ≡ bodies_with channel (map bytes_of frames)
bodies_are channel [] h on = refl
bodies_are channel (frame ∷ frames) h on = ap₂ (λ f fs. f ∷ fs) (body_is channel frame h.0 on.0) (bodies_are channel frames h.1 on.1)

flat_bytes : (frames : List Frame) → flat (map bytes_of frames) ≡ joined frames
flat_bytes [] = refl
flat_bytes (frame ∷ frames) = rw (flat_bytes frames)

flat_length : (frames : List Frame) → length (flat (map bytes_of frames)) ≡ bytes_in outline_of frames
flat_length frames = rw flat_bytes (length-joined frames)

body_count : (o : Frame) → length (bytes_of o) ≡ count_in (outline_of o)
body_count o = grind (arith, common_steps)

none_left_over : (size : ℕ) (bytes : List ℕ) → left_over size [] ++ bytes ≡ bytes
none_left_over size bytes = grind (arith, common_steps, drop_all)

-- ---- a unit recut

unit_cut : (size channel : ℕ) (unit : Finished Frame) (frames : List Frame) → 1 ≤ size
    → IsFinished outline_of greatest unit → AllByRecursion (IsOn channel) (finished_frames unit)
    → channel_recut size (At Nothing) (finished_frames unit ++ frames) ≡ unit_recut size channel unit ++ channel_recut size (At Nothing) frames
unit_cut size channel (Lone method) frames some h on = grind (arith, common_steps, finished_runs, other_no_body, recut_first)
unit_cut size channel (Empty opening header) frames some h on = grind (arith, common_steps, empty_step, header_no_body, opened, opening_no_body, recut_first)
unit_cut size channel (Full opening header bodies last) frames some h on =
    let parts = map bytes_of bodies in
    let are : bodies ≡ bodies_with channel parts = bodies_are channel bodies h.0.3 (all_front (IsOn channel) bodies (last ∷ []) on.1.1) in
    let is = body_is channel last h.1 (all_back (IsOn channel) bodies (last ∷ []) on.1.1).0 in
    let all : (bodies ++ last ∷ []) ++ frames ≡ bodies_with channel parts ++ Body channel (bytes_of last) ∷ frames =
    rw append_assoc (ap₂ (λ bs l. bs ++ l ∷ frames) are is) in
    let bytes : left_over size [] ++ (flat parts ++ bytes_of last) ≡ joined (bodies ++ last ∷ []) = rw (none_left_over, joined-push, flat_bytes) in
    two_recut size opening header h.0.0 h.0.1 (headed_by opening header h.0.1 h.0.2 (omega (arith, h.0.4))) ((bodies ++ last ∷ []) ++ frames)
    ∙ ap (λ fs. opening ∷ header ∷ fs) (ap (channel_recut size (At (Headed opening header []))) all
    ∙ closed_bodies size channel opening header some [] parts (bytes_of last) frames
    (omega (arith, h.0.4, flat_length bodies)) (omega (arith, h.2, flat_length bodies, body_count last)) ∙ rw bytes)

begun_cut : (size channel : ℕ) (begun : Begun Frame) → 1 ≤ size → IsBegun outline_of greatest begun
    → AllByRecursion (IsOn channel) (begun_frames begun) → channel_recut size (At Nothing) (begun_frames begun) ≡ begun_recut size channel begun
begun_cut size channel Nothing some h on = refl
begun_cut size channel (Opened opening) some h on = grind (arith, common_steps, opened, opening_no_body, recut_first)
begun_cut size channel (Headed opening header bodies) some h on =
    let parts = map bytes_of bodies in
    let are : bodies ≡ bodies_with channel parts = bodies_are channel bodies h.3 on.1.1 in
    let bytes : left_over size [] ++ flat parts ≡ joined bodies = rw none_left_over (flat_bytes bodies) in
    two_recut size opening header h.0 h.1 (headed_by opening header h.1 h.2 (omega (arith, h.4))) bodies
    ∙ ap (λ fs. opening ∷ header ∷ fs) (ap (channel_recut size (At (Headed opening header []))) are
    ∙ open_bodies size channel opening header some [] parts (omega (arith, h.4, flat_length bodies)) ∙ rw bytes)

-- The frames of finished units and a begun one are recut unit by unit.
pub units_cut : (size channel : ℕ) (units : List (Finished Frame)) (begun : Begun Frame) → 1 ≤ size
    → AllByRecursion (IsFinished outline_of greatest) units → IsBegun outline_of greatest begun → AllByRecursion (IsOn channel) (frames_in units begun)
    → channel_recut size (At Nothing) (frames_in units begun) ≡ flat_map (unit_recut size channel) units ++ begun_recut size channel begun
units_cut size channel units begun some finished is_begun on =
    let front = flat_map finished_frames units in
    units_made (frame_recut size) (IsUnitOn channel) (unit_recut size channel) begun (begun_recut size channel begun)
    (λ unit frames h. unit_cut size channel unit frames some h.0 h.1)
    (begun_cut size channel begun some is_begun (all_back (IsOn channel) front (begun_frames begun) on)) units
    (units_on channel units finished (all_front (IsOn channel) front (begun_frames begun) on))

-- ---- a unit recut is a unit, of the same message, whose bodies are cut

record Remade (size channel : ℕ) (unit : Finished Frame) : Type 0 where
  made : Finished Frame
  finished : IsFinished outline_of greatest made
  frames : finished_frames made ≡ unit_recut size channel unit
  same : done_by (finished_answers made) ≡ done_by (finished_answers unit)
  again : (other : ℕ) → unit_recut other channel made ≡ unit_recut other channel unit
  cut : AreCutAfter size (At Nothing) (unit_recut size channel unit)

-- the pieces of a body and the last of them
record HasLast (parts : List (List ℕ)) : Type 0 where
  front : List (List ℕ)
  last : List ℕ
  are : parts ≡ front ++ last ∷ []
  some : 1 ≤ length last

last_of : (part : List ℕ) (parts : List (List ℕ)) → AllByRecursion (λ p. 1 ≤ length p) (part ∷ parts) → HasLast (part ∷ parts)
last_of part [] h = record { front = []; last = part; are = refl; some = h.0 }
last_of part (next ∷ parts) h =
    let rest = last_of next parts h.1 in record { front = part ∷ rest.front; last = rest.last; are = rw rest.are; some = rest.some }

last_some : (body : List ℕ) (parts : List (List ℕ)) → 1 ≤ length body → ArePieces body parts → HasLast parts
last_some body [] some h = grind (arith, common_steps)
last_some body (part ∷ parts) some h = last_of part parts h.some

remade : (size channel : ℕ) (unit : Finished Frame) → 1 ≤ size → IsFinished outline_of greatest unit
    → AllByRecursion (IsOn channel) (finished_frames unit) → Remade size channel unit
remade size channel (Lone method) some h on =
    let cut : IsCut size (At Nothing) method = itself_cut size (At Nothing) method (other_no_body (outline_of method) h) in
    record { made = Lone method; finished = h; frames = refl; same = refl; again = λ other. refl; cut = (cut, tt) }
remade size channel (Empty opening header) some h on =
    let cut = two_cut size opening header h.0 h.1 refl [] tt in
    record { made = Empty opening header; finished = h; frames = refl; same = refl; again = λ other. refl; cut = cut }
remade size channel (Full opening header bodies last) some h on =
    let body = joined (bodies ++ last ∷ []) in
    let total : length body ≡ size_in (outline_of header) =
    rw joined-push (omega (arith, length-append (joined bodies) (bytes_of last), length-joined bodies, body_count last, h.2)) in
    let on_it : channel_id_of last ≡ channel = channel_is channel last (all_back (IsOn channel) bodies (last ∷ []) on.1.1).0 in
    let are = pieces_are size body some in
    let ends = last_some body (pieces size body) (omega (arith, total, h.0.4)) are in
    let before = bodies_with channel ends.front in
    let final = Body channel ends.last in
    let whole : flat ends.front ++ ends.last ≡ body = sym (flat_push ends.front ends.last) ∙ ap flat (sym ends.are) ∙ are.joined in
    let joined_is : joined (before ++ final ∷ []) ≡ body = rw (joined-push before final, joined_bodies) whole in
    let sum : bytes_in outline_of before + length ends.last ≡ size_in (outline_of header) =
    omega (arith, bytes_bodies channel ends.front, length-append (flat ends.front) ends.last, ap length whole, total) in
    record {
      made = Full opening header before final;
      finished = ((h.0.0, h.0.1, h.0.2, all_bodies channel ends.front, omega (arith, sum, ends.some)), tt, sum);
      frames =
          ap (λ fs. opening ∷ header ∷ fs) (sym (map-append (λ part. Body channel part) ends.front (ends.last ∷ [])) ∙ ap (bodies_with channel) (sym ends.are));
      same = rw (full_done opening header before final, full_done opening header bodies last, on_it, joined_is);
      again = λ other. rw joined_is;
      cut =
          two_cut size opening header h.0.0 h.0.1 (headed_by opening header h.0.1 h.0.2 (omega (arith, h.0.4))) (bodies_with channel (pieces size body))
          (cut_given size channel opening header some true [] body (omega (arith, total)));
    }

-- the same of units one after another
pub record AllRemade (size channel : ℕ) (units : List (Finished Frame)) : Type 0 where
  pub made : List (Finished Frame)
  pub finished : AllByRecursion (IsFinished outline_of greatest) made
  pub frames : flat_map finished_frames made ≡ flat_map (unit_recut size channel) units
  pub same : done_by (flat_map finished_answers made) ≡ done_by (flat_map finished_answers units)
  pub again : (other : ℕ) → flat_map (unit_recut other channel) made ≡ flat_map (unit_recut other channel) units
  pub ends : run_state outline_of greatest (At Nothing) (flat_map (unit_recut size channel) units) ≡ At Nothing
  pub cut : AreCutAfter size (At Nothing) (flat_map (unit_recut size channel) units)

-- Finished units, recut, are finished units with the same messages, whose bodies are cut to the size.
pub all_remade : (size channel : ℕ) (units : List (Finished Frame)) → 1 ≤ size → AllByRecursion (IsFinished outline_of greatest) units
    → AllByRecursion (IsOn channel) (flat_map finished_frames units) → AllRemade size channel units
all_remade size channel [] some h on = grind (arith, common_steps)
all_remade size channel (unit ∷ units) some h on =
    let one = remade size channel unit some h.0 (all_front (IsOn channel) (finished_frames unit) (flat_map finished_frames units) on) in
    let rest = all_remade size channel units some h.1 (all_back (IsOn channel) (finished_frames unit) (flat_map finished_frames units) on) in
    let frames = unit_recut size channel unit in
    let more = flat_map (unit_recut size channel) units in
    let ends : run_state outline_of greatest (At Nothing) frames ≡ At Nothing =
    rw one.frames at (finished_runs outline_of greatest one.made one.finished).state_is in
    record {
      made = one.made ∷ rest.made;
      finished = (one.finished, rest.finished);
      frames = rw (one.frames, rest.frames);
      same = simp (done_by_append, one.same, rest.same);
      again = λ other. rw (one.again other, rest.again other);
      ends = rw (run_state-append outline_of greatest (At Nothing) frames more, ends) rest.ends;
      cut = cut_append size (At Nothing) frames more one.cut (rw ends rest.cut);
    }

-- what has begun, recut
pub record BegunRemade (size channel : ℕ) (begun : Begun Frame) : Type 0 where
  pub made : Begun Frame
  pub is_begun : IsBegun outline_of greatest made
  pub frames : begun_frames made ≡ begun_recut size channel begun
  pub nothing : begun ≡ Nothing → made ≡ Nothing
  pub cut : AreCutAfter size (At Nothing) (begun_recut size channel begun)

-- A begun unit, recut, is a begun unit whose bodies are cut to the size.
pub begun_remade : (size channel : ℕ) (begun : Begun Frame) → 1 ≤ size → IsBegun outline_of greatest begun → BegunRemade size channel begun
begun_remade size channel Nothing some h = grind (arith, common_steps)
begun_remade size channel (Opened opening) some h =
    let cut : IsCut size (At Nothing) opening = itself_cut size (At Nothing) opening (opening_no_body (outline_of opening) h) in
    record { made = Opened opening; is_begun = h; frames = refl; nothing = λ e. e; cut = (cut, tt) }
begun_remade size channel (Headed opening header bodies) some h =
    let parts = whole_pieces size (joined bodies) in
    let fit = whole_fit size (joined bodies) some in
    let less : bytes_in outline_of (bodies_with channel parts) < size_in (outline_of header) =
    omega (arith, h.4, fit, bytes_bodies channel parts, length-joined bodies) in
    record {
      made = Headed opening header (bodies_with channel parts);
      is_begun = (h.0, h.1, h.2, all_bodies channel parts, less);
      frames = refl;
      nothing = λ e. absurd cc;
      cut =
          two_cut size opening header h.0 h.1 (headed_by opening header h.1 h.2 (omega (arith, h.4))) (bodies_with channel parts)
          (cut_given size channel opening header some false [] (joined bodies) (omega (arith, h.4, length-joined bodies)));
    }
