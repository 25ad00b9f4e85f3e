-- Frames recut again: bodies that are cut stay, and the last of two sizes counts.
use Rattle.amqp_recut.proofs
use Rattle.amqp_turns.specs as turns
use Rattle.std.proofs.lemmas
use lemmas.Grind.{common_steps}
use Rattle.std.proofs.Common.{◌≡◌, ℕ, ◌+◌, ◌≤◌, Bool, eqb, leb, List, [], ◌∷◌, ◌++◌, length, refl, sym, ◌∙◌, arith}
use lemmas.Bool.{cases_eq, eqb-false}
use lemmas.List.{append_assoc}
use Rattle.amqp_types.specs.Methods.{Method}
use Rattle.amqp_types.specs.ContentHeaders.{ContentHeader}
use Rattle.amqp_wire.specs.Frames.{Frame, Meth, Head, Body, channel_id_of}
use Rattle.amqp_wire.specs.Outlines.{outline_of}
use turns.Units.{is_content, is_opening_id, of_channel, Nothing, Opened, Headed, size_in, bytes_in, IsInTurn}
use turns.Stands.{State, At}
use turns.Steps.{step, run_state}
use turns.Messages.{joined}
use turns.Splits.{left_over}
use Rattle.amqp_turns.proofs.Pieces.{given-ended, one-whole}
use Rattle.amqp_turns.proofs.Running.{turn_runs, stands_run}
use turns.InTurn.{greatest, AreInTurn, NoneIsOpen, state_on}
use Rattle.amqp_recut.specs.Cuts.{pieces_brought, frame_recut, recut_after, recut}
use Rattle.amqp_recut.specs.Laws.{IsPiece, AreCut}
use proofs.Cutting.{brought}
use Rattle.amqp_turns.proofs.Turns.{state_on-own, state_on-other, state_on-outside}
use proofs.LawsChannels.{IsCut}
use proofs.LawsOnce.{by_units, is_remade, bodies_are_cut}

-- ---- bodies that are cut

-- all bytes of a message so far are in pieces of the whole size
abbrev IsWhole : ℕ → State Frame → Type 0
IsWhole size (At (Headed opening header bodies)) = left_over size (joined bodies) ≡ []
IsWhole size state = Unit {0}

piece_stays : (size : ℕ) (opening header : Frame) (bodies : List Frame) (content : List ℕ) (ends : Bool)
    → 1 ≤ size → left_over size (joined bodies) ≡ [] → IsPiece size (At (Headed opening header bodies)) content
    → eqb (bytes_in outline_of bodies + length content) (size_in (outline_of header)) ≡ ends → pieces_brought size ends (joined bodies) content ≡ content ∷ []
piece_stays size opening header bodies content ends some none piece e = grind (arith, common_steps, brought, eqb-false, given-ended, one-whole)

frame_stays : (size : ℕ) (state : State Frame) (frame : Frame) → 1 ≤ size
    → IsWhole size state → IsCut size state frame → frame_recut size state frame ≡ frame ∷ []
frame_stays size (At (Headed opening header bodies)) (Body channel content) some whole cut = grind (arith, common_steps, piece_stays)
frame_stays size state (Body channel content) some whole cut = refl
frame_stays size state frame some whole cut = refl

whole_method : (size channel : ℕ) (m : Method) (opens : Bool) → is_opening_id m.class m.id ≡ opens
    → IsWhole size (step outline_of greatest (At Nothing) (Meth channel m)).1
whole_method size channel m opens e = grind (arith, common_steps)

whole_header : (size : ℕ) (opening : Frame) (channel : ℕ) (header : ContentHeader) (basic fits none : Bool)
    → eqb header.class_id 60 ≡ basic → leb header.body_size greatest ≡ fits → eqb 0 header.body_size ≡ none
    → IsWhole size (step outline_of greatest (At (Opened opening)) (Head channel header)).1
whole_header size opening channel header basic fits none h fit done = grind (arith, common_steps)

left_whole : (size : ℕ) (bodies : List Frame) (channel : ℕ) (content : List ℕ) → 1 ≤ size → left_over size (joined bodies) ≡ []
    → length content ≡ size → left_over size (joined (bodies ++ Body channel content ∷ [])) ≡ []
left_whole size bodies channel content some none long = grind (arith, common_steps)

whole_body : (size : ℕ) (opening header : Frame) (bodies : List Frame) (channel : ℕ) (content : List ℕ) (fits all : Bool)
    → 1 ≤ size → left_over size (joined bodies) ≡ [] → IsPiece size (At (Headed opening header bodies)) content
    → leb (bytes_in outline_of bodies + length content) (size_in (outline_of header)) ≡ fits
    → eqb (bytes_in outline_of bodies + length content) (size_in (outline_of header)) ≡ all
    → IsWhole size (step outline_of greatest (At (Headed opening header bodies)) (Body channel content)).1
whole_body size opening header bodies channel content fits all some none piece fit done = grind (arith, common_steps, left_whole)

whole_step : (size : ℕ) (state : State Frame) (frame : Frame) → 1 ≤ size → IsWhole size state
    → IsCut size state frame → IsWhole size (step outline_of greatest state frame).1
whole_step size state frame some whole cut = grind (arith, common_steps, whole_body, whole_header, whole_method)

-- the same on each channel
abbrev AreWhole : ℕ → List Frame → Type 0
AreWhole size frames = (channel : ℕ) → IsWhole size (state_on frames channel)

whole_later : (size : ℕ) (earlier : List Frame) (frame : Frame) (content : Bool) → is_content (outline_of frame) ≡ content → 1 ≤ size
    → AreWhole size earlier → IsCut size (state_on earlier (channel_id_of frame)) frame → AreWhole size (earlier ++ frame ∷ [])
whole_later size earlier frame content e some whole cut = grind (arith, common_steps, cases_eq, state_on-other, state_on-outside, state_on-own, whole_step)

cut_here : (size : ℕ) (earlier : List Frame) (frame : Frame) (frames : List Frame)
    → AreCut size (earlier ++ frame ∷ frames) → IsCut size (state_on earlier (channel_id_of frame)) frame
cut_here size earlier (Body channel content) frames h = h earlier frames channel content refl
cut_here size earlier frame frames h = tt

stay_after : (size : ℕ) (earlier frames : List Frame) → 1 ≤ size → AreWhole size earlier
    → AreCut size (earlier ++ frames) → recut_after size earlier frames ≡ frames
stay_after size earlier [] some whole h = refl
stay_after size earlier (frame ∷ frames) some whole h =
    let cut = cut_here size earlier frame frames h in
    let next = whole_later size earlier frame (is_content (outline_of frame)) refl some whole cut in
    let rest = stay_after size (earlier ++ frame ∷ []) frames some next (rw (← append_assoc earlier (frame ∷ []) frames) at h) in
    rw (frame_stays size (state_on earlier (channel_id_of frame)) frame some (whole (channel_id_of frame)) cut, rest)

-- Recutting leaves frames whose bodies are cut to the size.
pub cut_bodies_stay : (size : ℕ) (frames : List Frame) → 1 ≤ size → AreCut size frames → recut size frames ≡ frames
cut_bodies_stay size frames some cut = stay_after size [] frames some (λ channel. tt) cut

-- ---- recut again

-- Recutting frames in turn twice at one size is recutting them once.
pub twice_is_once : (size : ℕ) (frames : List Frame) → 1 ≤ size → AreInTurn frames → recut size (recut size frames) ≡ recut size frames
twice_is_once size frames some turn = grind (arith, common_steps, bodies_are_cut, cut_bodies_stay)

nothing_begun : (xs : List Frame) (h : IsInTurn outline_of greatest xs) → run_state outline_of greatest (At Nothing) xs ≡ At Nothing → h.begun ≡ Nothing
nothing_begun xs h e = let at = (turn_runs outline_of greatest h.units h.begun h.finished h.is_begun).state_is in cc

-- Where frames in turn, with no message open, are recut at two sizes one after the other, the last size counts on each channel.
pub last_size_counts : (first last : ℕ) (frames : List Frame) → 1 ≤ first → 1 ≤ last → AreInTurn frames → NoneIsOpen frames
    → (channel : ℕ) → of_channel outline_of channel (recut last (recut first frames)) ≡ of_channel outline_of channel (recut last frames)
last_size_counts first last frames some more turn none channel =
    let h = turn channel in
    let made = is_remade first channel frames some h in
    let ended : h.begun ≡ Nothing = nothing_begun (of_channel outline_of channel frames) h
    (sym (stands_run outline_of greatest (of_channel outline_of channel frames) (At Nothing) (none channel))) in
    rw (
      by_units last channel (recut first frames) more made.turn,
      by_units last channel frames more h,
      made.units_are,
      made.begun_is,
      made.begun.nothing ended ∙ sym ended,
      made.units.again last,
    )
