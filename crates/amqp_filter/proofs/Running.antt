-- Filtering goes by the turns of the channels, and writes the frames that are kept.
use Rattle.std.proofs.Common.{◌≡◌, ℕ, ◌+◌, Bool, true, false, cond, eqb, leb, List, [], ◌∷◌, ◌++◌, length, append-nil, refl, sym, ap, ap₂, ◌∙◌}
use Rattle.std.proofs.Common.{Option, Some, None, Ok}
use Rattle.std.proofs.lemmas.Grind.{flat_map-append}
use Rattle.std.specs.FinMap as finite
use Rattle.amqp_types.specs.Methods.{Method}
use Rattle.amqp_types.specs.ContentHeaders.{ContentHeader}
use Rattle.amqp_wire.specs.declared.outline.FrameOutline.{FrameOutline}
use Rattle.amqp_wire.specs.Frames.{Frame, Meth, Head, Body, channel_id_of}
use Rattle.amqp_wire.specs.Outlines.{outline_of}
use Rattle.amqp_wire.specs.Canonical.{canon, canon_frames}
use Rattle.amqp_turns.specs.declared.mark.Mark.{Mark}
use Rattle.amqp_turns.specs.declared.mark.Mark.TheVariants as marks
use Rattle.amqp_turns.specs.declared.progress.Progress.TheVariants as progresses
use Rattle.amqp_turns.specs.ByChannel.{ByChannel}
use Rattle.amqp_turns.specs.InTurn.{greatest, state_on}
use Rattle.amqp_turns.specs.Marks.{begun_progress}
use Rattle.amqp_turns.specs.Stands.{State, At, Lost}
use Rattle.amqp_turns.specs.Steps.{headed_progress}
use Rattle.amqp_turns.specs.Units.{Begun, Nothing, Opened, Headed, is_content, is_opening_id, size_in, bytes_in}
use Rattle.amqp_turns.proofs.Moving.{bytes_in-push}
use Rattle.amqp_select.specs.declared.rule.Rule.{Rule}
use Rattle.amqp_select.specs.Matching.{decides}
use Rattle.amqp_in_turn.proofs.RunsInTurn.{GoesByTurns}
use Rattle.amqp_in_turn.specs.Judging.{given}
use Rattle.amqp_in_turn.proofs.Judging.{passed_mark}
use Rattle.amqp_in_turn.proofs.Keeping.{StandsFor, KeepsByTurns, by_turns, start}
use Rattle.amqp_filter.specs.declared.messages.Open.{Open}
use Rattle.amqp_filter.specs.declared.message_filter.MessageFilter.{MessageFilter}
use Rattle.amqp_filter.specs.Kept.{decider, is_kept, if_kept, kept_after}
use Rattle.amqp_filter.specs.Held.{progress_in, held_with}
use Rattle.amqp_filter.specs.Stepping.{held_marked, mark_held, held_at, with_held, step_marked, step_filtering, end_filtering}
use Rattle.amqp_filter.proofs.Channels.{itself_decides}

-- what is kept of a channel on which this has come
abbrev pub held_of_state : (FrameOutline → Bool) → State Frame → Option Open
held_of_state keeps (At Nothing) = None
held_of_state keeps (At (Opened opening)) = Some (record { progress = progresses.Opened; kept = keeps (outline_of opening) })
held_of_state keeps (At (Headed opening header bodies)) =
    Some (record { progress = progresses.Headed (size_in (outline_of header)) (bytes_in outline_of bodies); kept = keeps (outline_of opening) })
held_of_state keeps Lost = Some (record { progress = progresses.Faulted; kept = false })

abbrev messages_in : MessageFilter → ByChannel Open
messages_in s = s.messages

-- the rules stay
abbrev HasRules : List Rule → MessageFilter → Type 0
HasRules rules s = s.rules ≡ rules

-- what a frame after these is written as
abbrev given_after : List Rule → List Frame → Frame → List ℕ
given_after rules earlier frame = given (is_kept (decides rules) earlier frame) frame

-- what is written for frames after these
abbrev bytes_after : List Rule → List Frame → List Frame → List ℕ
bytes_after rules earlier frames = canon_frames (kept_after (decides rules) earlier frames)

-- ---- steps by marks

module _ (rules : List Rule) (s : MessageFilter) (earlier : List Frame) (own : HasRules rules s) where
  -- a step by what is kept of the channel of the frame, and its mark
  step_by : (frame : Frame) (held : Option Open) (mark : Mark) → held_at s (channel_id_of frame) ≡ held → mark_held held frame ≡ mark
      → step_filtering s frame ≡ step_marked s held frame mark
  step_by frame held mark e marked = ap (λ k. step_marked s k frame (mark_held k frame)) e ∙ ap (step_marked s held frame) marked

  -- a frame that decides of itself
  own_decided : (frame : Frame) (state : State Frame) → state_on earlier (channel_id_of frame) ≡ state → decider state frame ≡ frame
      → decides s.rules (outline_of frame) ≡ is_kept (decides rules) earlier frame
  own_decided frame state is itself =
      ap (λ rs. decides rs (outline_of frame)) own
      ∙ ap (λ f. decides rules (outline_of f)) (sym itself)
      ∙ ap (λ st. decides rules (outline_of (decider st frame))) (sym is)

  step_outside : (frame : Frame) → is_content (outline_of frame) ≡ false
      → step_filtering s frame ≡ Ok (given_after rules earlier frame, with_held s (channel_id_of frame) (held_at s (channel_id_of frame)))
  step_outside frame content =
      let held = held_at s (channel_id_of frame) in
      step_by frame held marks.Passed refl (passed_mark (progress_in held) frame content)
      ∙ ap (λ b. Ok (given b frame, with_held s (channel_id_of frame) held))
      (own_decided frame (state_on earlier (channel_id_of frame)) refl (itself_decides (state_on earlier (channel_id_of frame)) frame content))

  step_method : (channel : ℕ) (m : Method) (opens : Bool) → is_opening_id m.class m.id ≡ opens
      → state_on earlier channel ≡ At Nothing → held_at s channel ≡ None
      → step_filtering s (Meth channel m)
      ≡ Ok (
        given_after rules earlier (Meth channel m),
        with_held s channel (held_of_state (decides rules) (At (cond opens (Opened (Meth channel m)) Nothing))),
      )
  step_method channel m true e is held =
      let frame = Meth channel m in
      let kept : held_marked (decides s.rules) None frame marks.Opening ≡ held_of_state (decides rules) (At (Opened frame)) =
      rw e (ap (λ rs. Some (record { progress = progresses.Opened; kept = decides rs (outline_of frame) })) own) in
      step_by frame None marks.Opening held (rw e refl)
      ∙ ap₂ (λ (b : Bool) (k : Option Open). Ok (given b frame, with_held s channel k)) (own_decided frame (At Nothing) is refl) kept
  step_method channel m false e is held =
      step_by (Meth channel m) None marks.Passed held (rw e refl)
      ∙ ap (λ b. Ok (given b (Meth channel m), with_held s channel None)) (own_decided (Meth channel m) (At Nothing) is refl)

  step_header : (opening : Frame) (channel : ℕ) (header : ContentHeader) (all : Bool) → eqb header.class_id 60 ≡ true
      → leb header.body_size greatest ≡ true → eqb 0 header.body_size ≡ all → state_on earlier channel ≡ At (Opened opening)
      → held_at s channel ≡ held_of_state (decides rules) (At (Opened opening))
      → step_filtering s (Head channel header)
      ≡ Ok (
        given_after rules earlier (Head channel header),
        with_held s channel (held_of_state (decides rules) (At (cond all Nothing (Headed opening (Head channel header) [])))),
      )
  step_header opening channel header all basic fit done is held =
      let frame = Head channel header in
      let before = held_of_state (decides rules) (At (Opened opening)) in
      let kept : held_marked (decides s.rules) before frame marks.Header
      ≡ held_of_state (decides rules) (At (cond all Nothing (Headed opening (Head channel header) []))) = rw (basic, fit) (by_all all done) in
      step_by frame before marks.Header held (rw (basic, fit) refl)
      ∙ ap₂ (λ (b : Bool) (k : Option Open). Ok (given b frame, with_held s channel k))
      (ap (λ st. decides rules (outline_of (decider st frame))) (sym is)) kept
    where
      by_all : (b : Bool) → eqb 0 header.body_size ≡ b
          → held_with (headed_progress header.body_size 0) (decides rules (outline_of opening))
          ≡ held_of_state (decides rules) (At (cond b Nothing (Headed opening (Head channel header) [])))
      by_all true done = rw done refl
      by_all false done = rw done refl

  step_body : (opening header : Frame) (bodies : List Frame) (channel : ℕ) (content : List ℕ) (all : Bool)
      → leb (bytes_in outline_of bodies + length content) (size_in (outline_of header)) ≡ true
      → eqb (bytes_in outline_of bodies + length content) (size_in (outline_of header)) ≡ all
      → state_on earlier channel ≡ At (Headed opening header bodies) → held_at s channel ≡ held_of_state (decides rules) (At (Headed opening header bodies))
      → step_filtering s (Body channel content)
      ≡ Ok (
        given_after rules earlier (Body channel content),
        with_held s channel (held_of_state (decides rules) (At (cond all Nothing (Headed opening header (bodies ++ Body channel content ∷ []))))),
      )
  step_body opening header bodies channel content all fit done is held =
      let n = size_in (outline_of header) in
      let seen = bytes_in outline_of bodies in
      let frame = Body channel content in
      let before = held_of_state (decides rules) (At (Headed opening header bodies)) in
      let mark = marks.Body seen (seen + length content) n in
      let kept : held_marked (decides s.rules) before frame mark
      ≡ held_of_state (decides rules) (At (cond all Nothing (Headed opening header (bodies ++ frame ∷ [])))) = rw fit (by_all all done) in
      step_by frame before mark held (rw fit refl)
      ∙ ap₂ (λ (b : Bool) (k : Option Open). Ok (given b frame, with_held s channel k))
      (ap (λ st. decides rules (outline_of (decider st frame))) (sym is)) kept
    where
      by_all : (b : Bool) → eqb (bytes_in outline_of bodies + length content) (size_in (outline_of header)) ≡ b
          → held_with (headed_progress (size_in (outline_of header)) (bytes_in outline_of bodies + length content)) (decides rules (outline_of opening))
          ≡ held_of_state (decides rules) (At (cond b Nothing (Headed opening header (bodies ++ Body channel content ∷ []))))
      by_all true done = rw done refl
      by_all false done =
          rw done (ap (λ (seen : ℕ).
          Some (record { progress = progresses.Headed (size_in (outline_of header)) seen; kept = decides rules (outline_of opening) }))
          (sym (bytes_in-push outline_of bodies (Body channel content))))

-- the bytes of a frame that may be kept
given_is : (kept : Bool) (frame : Frame) → given kept frame ≡ canon_frames (if_kept kept frame)
given_is true frame = sym (append-nil (canon frame))
given_is false frame = refl

something_at : (rules : List Rule) (begun : Begun Frame) → held_of_state (decides rules) (At begun) ≡ None → begun ≡ Nothing
something_at rules Nothing e = refl
something_at rules (Opened opening) e = absurd cc
something_at rules (Headed opening header bodies) e = absurd cc

progress_at : (rules : List Rule) (begun : Begun Frame) → progress_in (held_of_state (decides rules) (At begun)) ≡ begun_progress outline_of begun
progress_at rules Nothing = refl
progress_at rules (Opened opening) = refl
progress_at rules (Headed opening header bodies) = refl

keeps : (rules : List Rule)
    → KeepsByTurns messages_in with_held (HasRules rules) (held_of_state (decides rules)) progress_in step_filtering end_filtering
    (given_after rules) (bytes_after rules)
keeps rules = record {
  none = λ earlier. refl;
  more = λ earlier frame frames.
      flat_map-append canon (if_kept (is_kept (decides rules) earlier frame) frame) (kept_after (decides rules) (earlier ++ frame ∷ []) frames)
      ∙ ap (λ (bytes : List ℕ). bytes ++ canon_frames (kept_after (decides rules) (earlier ++ frame ∷ []) frames))
      (sym (given_is (is_kept (decides rules) earlier frame) frame));
  ends = λ s. refl;
  puts = λ s channel held. refl;
  own = λ s channel held h. h;
  nothing = refl;
  something = something_at rules;
  progress = progress_at rules;
  outside = λ s earlier frame own content. step_outside rules s earlier own frame content;
  refuses = λ s frame bad e. ap (step_marked s (held_at s (channel_id_of frame)) frame) e;
  method = λ s earlier channel m opens own e is held. step_method rules s earlier own channel m opens e is held;
  header = λ s earlier opening channel h all own basic fit done is held. step_header rules s earlier own opening channel h all basic fit done is held;
  body = λ s earlier opening header bodies channel content all own less fit done is held.
      step_body rules s earlier own opening header bodies channel content all fit done is held;
}

-- Filtering goes by the turns of the channels, and writes the frames that are kept.
pub filters_by_turns : (rules : List Rule)
    → GoesByTurns step_filtering end_filtering (StandsFor messages_in (HasRules rules) (held_of_state (decides rules))) (given_after rules) (bytes_after rules)
filters_by_turns rules = by_turns (keeps rules)

-- a writer that has taken no frame
pub is_new : (rules : List Rule) (s : MessageFilter) → s.rules ≡ rules → s.messages ≡ finite.empty
    → StandsFor messages_in (HasRules rules) (held_of_state (decides rules)) s []
is_new rules s own none = start (keeps rules) s own none
