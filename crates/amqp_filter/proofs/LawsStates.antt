-- Frames filtered twice, the frames outside of content that are left, and rules by which all are.
use Rattle.std.proofs.Common.{◌≡◌, ℕ, Bool, true, false, not, List, [], ◌∷◌, ◌++◌, append-nil, append_assoc, refl, sym, ap, ap₂, subst, ◌∙◌}
use Rattle.std.specs.List.{filter}
use Rattle.std.proofs.lemmas.List.Elements.{filter-append}
use Rattle.amqp_wire.specs.declared.outline.FrameOutline.{FrameOutline}
use Rattle.amqp_wire.specs.Frames.{Frame, channel_id_of}
use Rattle.amqp_wire.specs.Outlines.{outline_of}
use Rattle.amqp_wire.specs.Canonical.{canon_frames}
use Rattle.amqp_turns.specs.Units.{is_content, of_channel, Begun, Nothing, Opened, Headed, IsInTurn}
use Rattle.amqp_turns.specs.Stands.{At}
use Rattle.amqp_turns.specs.Steps.{run_state}
use Rattle.amqp_turns.specs.InTurn.{greatest, AreInTurn, state_on}
use Rattle.amqp_turns.proofs.Running.{turn_runs}
use Rattle.amqp_turns.proofs.Turns.{begun_on, are_in_turn, none_lost, lost_later}
use Rattle.amqp_filter.specs.Kept.{opening_or, decider, is_kept, if_kept, kept_after, kept_of}
use Rattle.amqp_filter.specs.Filtering.{kept_bytes}
use Rattle.amqp_filter.specs.Laws.{begun_kept, outside_content}
use Rattle.amqp_filter.proofs.Channels.{itself_decides}
use Rattle.amqp_filter.proofs.LawsMessages.{left_in_turn}

-- frames in front of frames in turn are in turn
front_in_turn : (front back : List Frame) → AreInTurn (front ++ back) → AreInTurn front
front_in_turn front back turn = are_in_turn front (λ channel lost. none_lost (front ++ back) channel turn (lost_later front back channel lost))

-- what has come on a channel in turn
turn_state : (frames : List Frame) (channel : ℕ) (h : IsInTurn outline_of greatest (of_channel outline_of channel frames))
    → state_on frames channel ≡ At h.begun
turn_state frames channel h =
    ap (run_state outline_of greatest (At Nothing)) h.are ∙ (turn_runs outline_of greatest h.units h.begun h.finished h.is_begun).state_is

module _ (keeps : FrameOutline → Bool) where
  -- ---- filtered twice

  begun_stays : (begun : Begun Frame) (frame : Frame) → keeps (outline_of (opening_or begun frame)) ≡ true → begun_kept keeps begun ≡ begun
  begun_stays Nothing frame e = refl
  begun_stays (Opened opening) frame e = rw e refl
  begun_stays (Headed opening header bodies) frame e = rw e refl

  -- of what has come on a channel that is left which passes
  state_left : (frames : List Frame) (channel : ℕ) (begun : Begun Frame) → AreInTurn frames → state_on frames channel ≡ At begun
      → state_on (kept_of keeps frames) channel ≡ At (begun_kept keeps begun)
  state_left frames channel begun turn is =
      let was : (turn channel).begun ≡ begun = let both = sym (turn_state frames channel (turn channel)) ∙ is in cc in
      turn_state (kept_of keeps frames) channel (left_in_turn keeps frames turn channel) ∙ ap (λ b. At (begun_kept keeps b)) was

  -- a frame that is kept is kept after those that are
  kept_again : (earlier : List Frame) (frame : Frame) (content : Bool) → is_content (outline_of frame) ≡ content → AreInTurn earlier
      → is_kept keeps earlier frame ≡ true → is_kept keeps (kept_of keeps earlier) frame ≡ true
  kept_again earlier frame false content turn e =
      ap (λ f. keeps (outline_of f)) (itself_decides (state_on (kept_of keeps earlier) (channel_id_of frame)) frame content
      ∙ sym (itself_decides (state_on earlier (channel_id_of frame)) frame content))
      ∙ e
  kept_again earlier frame true content turn e =
      let channel = channel_id_of frame in
      let at = begun_on earlier channel (none_lost earlier channel turn) in
      let opening : decider (state_on earlier channel) frame ≡ opening_or at.begun frame = ap (λ st. decider st frame) at.is ∙ rw content refl in
      let stays = begun_stays at.begun frame (ap (λ f. keeps (outline_of f)) (sym opening) ∙ e) in
      ap (λ st. keeps (outline_of (decider st frame))) (state_left earlier channel at.begun turn at.is ∙ ap At stays ∙ sym at.is) ∙ e

  kept_push : (earlier frames : List Frame) (frame : Frame)
      → kept_after keeps earlier (frames ++ frame ∷ []) ≡ kept_after keeps earlier frames ++ if_kept (is_kept keeps (earlier ++ frames) frame) frame
  kept_push earlier [] frame =
      append-nil (if_kept (is_kept keeps earlier frame) frame) ∙ ap (λ fs. if_kept (is_kept keeps fs frame) frame) (sym (append-nil earlier))
  kept_push earlier (f ∷ fs) frame =
      let first = if_kept (is_kept keeps earlier f) f in
      let rest = kept_after keeps (earlier ++ f ∷ []) fs in
      ap (λ xs. first ++ xs)
      (kept_push (earlier ++ f ∷ []) fs frame ∙ ap (λ xs. rest ++ if_kept (is_kept keeps xs frame) frame) (append_assoc earlier (f ∷ []) fs))
      ∙ sym (append_assoc first rest (if_kept (is_kept keeps (earlier ++ f ∷ fs) frame) frame))

  twice_after : (earlier frames : List Frame) → AreInTurn (earlier ++ frames)
      → kept_after keeps (kept_of keeps earlier) (kept_after keeps earlier frames) ≡ kept_after keeps earlier frames
  twice_after earlier [] turn = refl
  twice_after earlier (frame ∷ frames) turn =
      by_kept (is_kept keeps earlier frame) refl
      (twice_after (earlier ++ frame ∷ []) frames (subst AreInTurn (sym (append_assoc earlier (frame ∷ []) frames)) turn))
    where
      rest : List Frame
      rest = kept_after keeps (earlier ++ frame ∷ []) frames

      by_kept : (b : Bool) → is_kept keeps earlier frame ≡ b → kept_after keeps (kept_of keeps (earlier ++ frame ∷ [])) rest ≡ rest
          → kept_after keeps (kept_of keeps earlier) (if_kept (is_kept keeps earlier frame) frame ++ rest) ≡ if_kept (is_kept keeps earlier frame) frame ++ rest
      by_kept true e same =
          let push : kept_of keeps earlier ++ frame ∷ [] ≡ kept_of keeps (earlier ++ frame ∷ []) =
          ap (λ k. kept_of keeps earlier ++ if_kept k frame) (sym e) ∙ sym (kept_push [] earlier frame) in
          rw e (ap₂ (λ k fs. if_kept k frame ++ kept_after keeps fs rest)
          (kept_again earlier frame (is_content (outline_of frame)) refl (front_in_turn earlier (frame ∷ frames) turn) e) push
          ∙ ap (λ fs. frame ∷ fs) same)
      by_kept false e same =
          let push : kept_of keeps earlier ≡ kept_of keeps (earlier ++ frame ∷ []) =
          sym (append-nil (kept_of keeps earlier)) ∙ ap (λ k. kept_of keeps earlier ++ if_kept k frame) (sym e) ∙ sym (kept_push [] earlier frame) in
          rw e (ap (λ fs. kept_after keeps fs rest) push ∙ same)

  -- Filtering frames in turn twice by one test is filtering them once.
  pub twice_is_once : (frames : List Frame) → AreInTurn frames → kept_of keeps (kept_of keeps frames) ≡ kept_of keeps frames
  twice_is_once frames turn = twice_after [] frames turn

  -- ---- frames outside of all content

  abbrev passing : List Frame → List Frame
  passing frames = filter (λ frame. keeps (outline_of frame)) frames

  one_other : (frame : Frame) (content kept : Bool) → is_content (outline_of frame) ≡ content → (content ≡ false → keeps (outline_of frame) ≡ kept)
      → outside_content (if_kept kept frame) ≡ passing (outside_content (frame ∷ []))
  one_other frame true true e h = rw e refl
  one_other frame true false e h = rw e refl
  one_other frame false true e h = rw e (rw (h refl) refl)
  one_other frame false false e h = rw e (rw (h refl) refl)

  others_after : (earlier frames : List Frame) → outside_content (kept_after keeps earlier frames) ≡ passing (outside_content frames)
  others_after earlier [] = refl
  others_after earlier (frame ∷ frames) =
      let outside : Frame → Bool = λ f. not (is_content (outline_of f)) in
      let passes : Frame → Bool = λ f. keeps (outline_of f) in
      filter-append outside (if_kept (is_kept keeps earlier frame) frame) (kept_after keeps (earlier ++ frame ∷ []) frames)
      ∙ ap₂ (λ xs ys. xs ++ ys) (one_other frame (is_content (outline_of frame)) (is_kept keeps earlier frame) refl
      (λ content. ap (λ f. keeps (outline_of f)) (sym (itself_decides (state_on earlier (channel_id_of frame)) frame content))))
      (others_after (earlier ++ frame ∷ []) frames)
      ∙ sym (filter-append passes (outside_content (frame ∷ [])) (outside_content frames))
      ∙ ap passing (sym (filter-append outside (frame ∷ []) frames))

  -- Of the frames outside of content, those are kept that pass the test, in order.
  pub others_are_kept : (frames : List Frame) → outside_content (kept_of keeps frames) ≡ filter (λ f. keeps (outline_of f)) (outside_content frames)
  others_are_kept frames = others_after [] frames

  -- ---- where each outline passes

  all_after : ((outline : FrameOutline) → keeps outline ≡ true) → (earlier frames : List Frame) → kept_after keeps earlier frames ≡ frames
  all_after passes earlier [] = refl
  all_after passes earlier (frame ∷ frames) =
      ap (λ k. if_kept k frame ++ kept_after keeps (earlier ++ frame ∷ []) frames)
      (passes (outline_of (decider (state_on earlier (channel_id_of frame)) frame)))
      ∙ ap (λ fs. frame ∷ fs) (all_after passes (earlier ++ frame ∷ []) frames)

  -- Where all frames pass the test, the canonical bytes of all are written.
  pub all_is_written : ((outline : FrameOutline) → keeps outline ≡ true) → (frames : List Frame) → kept_bytes keeps frames ≡ canon_frames frames
  all_is_written passes frames = ap canon_frames (all_after passes [] frames)
