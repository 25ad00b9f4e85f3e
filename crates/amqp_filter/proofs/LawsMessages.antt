-- The messages of a channel, filtered: those are left whose openings pass.
use Rattle.std.proofs.Common.{◌≡◌, ℕ, Bool, true, false, cond, List, [], ◌∷◌, ◌++◌, refl, sym, ap, ap₂, subst, ◌∙◌}
use Rattle.std.specs.List.{AllByRecursion, flat_map, filter}
use Rattle.std.proofs.lemmas.List.Elements.{filter-append}
use Rattle.amqp_wire.specs.declared.outline.FrameOutline.{FrameOutline}
use Rattle.amqp_wire.specs.Frames.{Frame, Proto, Meth, Head, Body, Beat, BadBeat, channel_id_of}
use Rattle.amqp_wire.specs.Outlines.{outline_of}
use Rattle.amqp_turns.specs.Units.{Finished, Lone, Empty, Full, Begun, Nothing, Opened, Headed, IsOpening, IsBegun}
use Rattle.amqp_turns.specs.Units.{IsFinished, of_channel}
use Rattle.amqp_turns.specs.Answers.{finished_answers}
use Rattle.amqp_turns.specs.Messages.{Content, method_in, content_with}
use Rattle.amqp_turns.proofs.Messages.{IsOn, channel_is, all_back, done_by, done_by_append, full_done, done_of, turn_done}
use Rattle.amqp_turns.specs.InTurn.{greatest, AreInTurn}
use Rattle.amqp_in_turn.proofs.Alone.{IsUnitOn, turn_on}
use Rattle.amqp_filter.specs.Kept.{kept_of}
use Rattle.amqp_filter.specs.Laws.{keeps_unit, begun_kept, messages_on, keeps_message}
use Rattle.amqp_filter.proofs.LawsUnits.{units_are_kept}

-- an opening is a method of its channel
opening_is : (channel : ℕ) (opening : Frame) → IsOpening (outline_of opening) → IsOn channel opening → Meth channel (method_in opening) ≡ opening
opening_is channel (Meth other m) h on = ap (λ c. Meth c m) (sym (channel_is channel (Meth other m) on))
opening_is channel (Proto major minor revision) h on = absurd h
opening_is channel (Head other header) h on = absurd h
opening_is channel (Body other content) h on = absurd h
opening_is channel Beat h on = absurd h
opening_is channel (BadBeat other) h on = absurd h

module _ (keeps : FrameOutline → Bool) where
  -- ---- the units that pass

  -- What holds of all of a list holds of all that pass a test.
  pub all_passing : {X : Type 0} (P : X → Type 0) (test : X → Bool) (xs : List X) → AllByRecursion P xs → AllByRecursion P (filter test xs)
  all_passing P test [] h = tt
  all_passing P test (x ∷ xs) h = by_test (test x) refl (all_passing P test xs h.1)
    where
      by_test : (b : Bool) → test x ≡ b → AllByRecursion P (filter test xs) → AllByRecursion P (filter test (x ∷ xs))
      by_test true e rest = rw e (h.0, rest)
      by_test false e rest = rw e rest

  if_begun : (b : Bool) (begun : Begun Frame) → IsBegun outline_of greatest begun → IsBegun outline_of greatest (cond b begun Nothing)
  if_begun true begun h = h
  if_begun false begun h = tt

  -- What has begun is so where it is kept.
  pub begun_passes : (begun : Begun Frame) → IsBegun outline_of greatest begun → IsBegun outline_of greatest (begun_kept keeps begun)
  begun_passes Nothing h = tt
  begun_passes (Opened opening) h = if_begun (keeps (outline_of opening)) (Opened opening) h
  begun_passes (Headed opening header bodies) h = if_begun (keeps (outline_of opening)) (Headed opening header bodies) h

  -- ---- the messages that pass

  one_passes : (message : Content) (kept : Bool) → keeps_message keeps message ≡ kept
      → filter (keeps_message keeps) (message ∷ []) ≡ cond kept (message ∷ []) []
  one_passes message true e = rw e refl
  one_passes message false e = rw e refl

  message_passes : (channel : ℕ) (opening frame : Frame) (message : Content) → IsOpening (outline_of opening) → IsOn channel opening → IsOn channel frame
      → message.channel ≡ channel_id_of frame → message.opening ≡ method_in opening → keeps_message keeps message ≡ keeps (outline_of opening)
  message_passes channel opening frame message h on here at is =
      ap₂ (λ c m. keeps (outline_of (Meth c m))) (at ∙ channel_is channel frame here) is ∙ ap (λ f. keeps (outline_of f)) (opening_is channel opening h on)

  -- of one unit
  unit_passes : (channel : ℕ) (unit : Finished Frame) → IsUnitOn channel unit
      → filter (keeps_message keeps) (done_by (finished_answers unit)) ≡ cond (keeps_unit keeps unit) (done_by (finished_answers unit)) []
  unit_passes channel (Lone method) h = by_test (keeps (outline_of method))
    where
      by_test : (b : Bool) → [] ≡ cond b (done_by (finished_answers (Lone method))) []
      by_test true = refl
      by_test false = refl
  unit_passes channel (Empty opening header) h =
      one_passes (content_with (Opened opening) header) (keeps (outline_of opening))
      (message_passes channel opening header (content_with (Opened opening) header) h.0.0 h.1.0 h.1.1.0 refl refl)
  unit_passes channel (Full opening header bodies last) h =
      let all = full_done opening header bodies last in
      ap (filter (keeps_message keeps)) all
      ∙ one_passes (content_with (Headed opening header bodies) last) (keeps (outline_of opening))
      (message_passes channel opening last (content_with (Headed opening header bodies) last) h.0.0.0 h.1.0
      (all_back (IsOn channel) bodies (last ∷ []) h.1.1.1).0 refl refl)
      ∙ ap (λ cs. cond (keeps (outline_of opening)) cs []) (sym all)

  units_pass : (channel : ℕ) (units : List (Finished Frame)) → AllByRecursion (IsUnitOn channel) units
      → done_of (filter (keeps_unit keeps) units) ≡ filter (keeps_message keeps) (done_of units)
  units_pass channel [] h = refl
  units_pass channel (unit ∷ units) h =
      by_test (keeps_unit keeps unit) refl
      ∙ ap₂ (λ xs ys. xs ++ ys) (sym (unit_passes channel unit h.0)) (units_pass channel units h.1)
      ∙ sym (filter-append (keeps_message keeps) (done_by (finished_answers unit)) (done_of units))
      ∙ ap (filter (keeps_message keeps)) (sym (done_by_append (finished_answers unit) (flat_map finished_answers units)))
    where
      by_test : (b : Bool) → keeps_unit keeps unit ≡ b
          → done_of (filter (keeps_unit keeps) (unit ∷ units))
          ≡ cond (keeps_unit keeps unit) (done_by (finished_answers unit)) [] ++ done_of (filter (keeps_unit keeps) units)
      by_test true e = rw e (done_by_append (finished_answers unit) (flat_map finished_answers (filter (keeps_unit keeps) units)))
      by_test false e = rw e refl

  -- Frames in turn are in turn when they are filtered.
  abbrev pub left_in_turn : (frames : List Frame) → AreInTurn frames → AreInTurn (kept_of keeps frames)
  left_in_turn frames turn channel =
      let h = turn channel in
      record {
        units = filter (keeps_unit keeps) h.units;
        begun = begun_kept keeps h.begun;
        finished = all_passing (IsFinished outline_of greatest) (keeps_unit keeps) h.units h.finished;
        is_begun = begun_passes h.begun h.is_begun;
        are = units_are_kept keeps frames channel h;
      }

  -- The messages of a channel of filtered frames are those whose openings pass the test, in order.
  pub messages_are_kept : (frames : List Frame) → AreInTurn frames → (channel : ℕ)
      → messages_on channel (kept_of keeps frames) ≡ filter (keeps_message keeps) (messages_on channel frames)
  messages_are_kept frames turn channel =
      turn_done (of_channel outline_of channel (kept_of keeps frames)) (left_in_turn frames turn channel)
      ∙ units_pass channel (turn channel).units (turn_on channel frames (turn channel))
      ∙ ap (filter (keeps_message keeps)) (sym (turn_done (of_channel outline_of channel frames) (turn channel)))
