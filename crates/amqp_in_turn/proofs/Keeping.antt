-- A writer that keeps something of each channel on which a message has begun: what it keeps stands for the frames so far.
use Rattle.amqp_turns.specs as turns
use Rattle.std.proofs.lemmas
use Rattle.amqp_in_turn.specs
use lemmas.Grind.{common_steps}
use Rattle.std.proofs.Common.{◌≡◌, ◌≢◌, ℕ, ◌+◌, ◌<◌, true, false, Bool, cond, eqb, leb, length, arith, List, [], ◌∷◌, ◌++◌, refl, sym, ap, ◌∙◌, Option, Some}
use Rattle.std.proofs.Common.{None, Result, Ok, Err}
use lemmas.Bool.{cases_eq}
use lemmas.Bool.Decides.{nat_tests}
use Rattle.std.specs.Prelude.{IsSome}
use Rattle.std.specs.FinMap as finite
use Rattle.std.specs.FinMap.{get-empty}
use Rattle.std.specs.Ordering.{nat_cmp, eq_by_cmp}
use Rattle.amqp_types.specs.Methods.{Method}
use Rattle.amqp_types.specs.ContentHeaders.{ContentHeader}
use Rattle.amqp_wire.specs.Frames.{Frame, Proto, Meth, Head, Body, Beat, BadBeat, channel_id_of}
use Rattle.amqp_wire.specs.Outlines.{outline_of}
use turns.declared.fault.ContentFault.{ContentFault}
use turns.declared.fault.ContentFault.TheVariants as faults
use turns.declared.mark.Mark.TheVariants as marks
use turns.declared.progress.Progress.{Progress}
use turns.ByChannel.{ByChannel, set_at}
use turns.InTurn.{greatest, EndsBegun, NoneIsOpen, state_on}
use turns.Units.{Begun, Nothing, Opened, Headed, IsBegun, is_content, is_opening_id, size_in, bytes_in, of_channel}
use turns.Answers.{Wrong}
use turns.Stands.{State, At, Lost, Stands}
use turns.Marks.{begun_progress}
use turns.Steps.{mark_after, step}
use Rattle.amqp_turns.proofs.Running.{run_stands, stands_run, advance}
use Rattle.amqp_turns.proofs.Apart.{of_channel-in, of_own}
use Rattle.amqp_turns.proofs.Holding.{at_itself, at_other, get-set_at, none_held}
use Rattle.amqp_turns.proofs.Turns.{state_on-own, state_on-other, state_on-outside, begun_on}
use specs.declared.errors.Refusal.{Refusal}
use specs.declared.errors.Refusal.TheVariants as refusals
use specs.Ending.{least_channel, refused_at_end}
use specs.Reports.{IsLeastOpen}
use Rattle.amqp_in_turn.proofs.Least.{least_kept, least_none}
use Rattle.amqp_in_turn.proofs.RunsInTurn.{IsFresh, Stepped, takes, refuses, GoesByTurns}

-- what a writer keeps stands for the frames so far, which are in turn; all else of it is its own
pub record StandsFor {S H : Type 0} (messages : S → ByChannel H) (Own : S → Type 0)
    (held_of : State Frame → Option H) (s : S) (earlier : List Frame) : Type 0 where
  pub own : Own s
  pub held_is : (channel : ℕ) → finite.get (messages s) channel ≡ held_of (state_on earlier channel)
  pub in_turn : (channel : ℕ) → state_on earlier channel ≢ Lost

-- What such a writer has to show. `put` is the writer once this is kept of a channel, `progress_in` says how far the content is of which this is kept.
pub record KeepsByTurns {S H : Type 0} (messages : S → ByChannel H) (put : S → ℕ → Option H → S) (Own : S → Type 0)
    (held_of : State Frame → Option H) (progress_in : Option H → Option Progress) (steps : S → Frame → Result (List ℕ × S) Refusal)
    (end : S → Option Refusal) (given : List Frame → Frame → List ℕ) (after : List Frame → List Frame → List ℕ) : Type 0 where
  pub none : (earlier : List Frame) → after earlier [] ≡ []
  pub more : (earlier : List Frame) (frame : Frame) (frames : List Frame)
      → after earlier (frame ∷ frames) ≡ given earlier frame ++ after (earlier ++ frame ∷ []) frames
  pub ends : (s : S) → end s ≡ refused_at_end (least_channel (messages s))
  pub puts : (s : S) (channel : ℕ) (held : Option H) → messages (put s channel held) ≡ set_at (messages s) channel held
  pub own : (s : S) (channel : ℕ) (held : Option H) → Own s → Own (put s channel held)
  pub nothing : held_of (At Nothing) ≡ None
  pub something : (begun : Begun Frame) → held_of (At begun) ≡ None → begun ≡ Nothing
  pub progress : (begun : Begun Frame) → progress_in (held_of (At begun)) ≡ begun_progress outline_of begun
  pub outside : (s : S) (earlier : List Frame) (frame : Frame) → Own s → is_content (outline_of frame) ≡ false
      → steps s frame ≡ Ok (given earlier frame, put s (channel_id_of frame) (finite.get (messages s) (channel_id_of frame)))
  pub refuses : (s : S) (frame : Frame) (bad : ContentFault)
      → mark_after greatest (progress_in (finite.get (messages s) (channel_id_of frame))) (outline_of frame) ≡ marks.Fault bad
      → steps s frame ≡ Err (refusals.BadContent bad)
  pub method : (s : S) (earlier : List Frame) (channel : ℕ) (m : Method) (opens : Bool) → Own s → is_opening_id m.class m.id ≡ opens
      → state_on earlier channel ≡ At Nothing → finite.get (messages s) channel ≡ held_of (At Nothing)
      → steps s (Meth channel m) ≡ Ok (given earlier (Meth channel m), put s channel (held_of (At (cond opens (Opened (Meth channel m)) Nothing))))
  pub header : (s : S) (earlier : List Frame) (opening : Frame) (channel : ℕ) (h : ContentHeader) (all : Bool) → Own s
      → eqb h.class_id 60 ≡ true → leb h.body_size greatest ≡ true → eqb 0 h.body_size ≡ all
      → state_on earlier channel ≡ At (Opened opening) → finite.get (messages s) channel ≡ held_of (At (Opened opening))
      → steps s (Head channel h) ≡ Ok (given earlier (Head channel h), put s channel (held_of (At (cond all Nothing (Headed opening (Head channel h) [])))))
  pub body : (s : S) (earlier : List Frame) (opening header : Frame) (bodies : List Frame) (channel : ℕ) (content : List ℕ) (all : Bool) → Own s
      → bytes_in outline_of bodies < size_in (outline_of header)
      → leb (bytes_in outline_of bodies + length content) (size_in (outline_of header)) ≡ true
      → eqb (bytes_in outline_of bodies + length content) (size_in (outline_of header)) ≡ all
      → state_on earlier channel ≡ At (Headed opening header bodies) → finite.get (messages s) channel ≡ held_of (At (Headed opening header bodies))
      → steps s (Body channel content)
      ≡ Ok (
        given earlier (Body channel content),
        put s channel (held_of (At (cond all Nothing (Headed opening header (bodies ++ Body channel content ∷ []))))),
      )

-- not one that comes after a fault, nor of a size
is_other : ContentFault → Bool
is_other faults.Faulted = false
is_other faults.BodyTooLarge = false
is_other bad = true

other_fresh : (bad : ContentFault) (frame : Frame) → is_other bad ≡ true → IsFresh bad frame
unfolding is_other
other_fresh bad frame e = grind (arith, common_steps, is_other)

-- the least channel of which something is kept, by whether the writer may end
end_none : (least : Option ℕ) → refused_at_end least ≡ None → least ≡ None
end_none least e = grind arith

end_open : (least : Option ℕ) (channel : ℕ) → refused_at_end least ≡ Some (refusals.OpenContent channel) → least ≡ Some channel
end_open least channel e = grind arith

end_bad : (least : Option ℕ) (bad : ContentFault) → refused_at_end least ≡ Some (refusals.BadContent bad) → ⊥
end_bad least bad e = grind arith

stands_on : (frames : List Frame) (channel : ℕ) (now : State Frame) → state_on frames channel ≡ now
    → Stands outline_of greatest (of_channel outline_of channel frames) now
stands_on frames channel now e = grind (arith, common_steps, run_stands)

module _ {S H : Type 0} {messages : S → ByChannel H} {put : S → ℕ → Option H → S} {Own : S → Type 0} {held_of : State Frame → Option H}
    {progress_in : Option H → Option Progress} {steps : S → Frame → Result (List ℕ × S) Refusal} {end : S → Option Refusal}
    {given : List Frame → Frame → List ℕ} {after : List Frame → List Frame → List ℕ}
    (by : KeepsByTurns messages put Own held_of progress_in steps end given after) where
  -- ---- one frame

  abbrev held_at : S → ℕ → Option H
  held_at s channel = finite.get (messages s) channel

  abbrev ForFrames : S → List Frame → Type 0
  ForFrames s earlier = StandsFor messages Own held_of s earlier

  -- what is kept of each channel, once this is kept of one
  held_by : (s : S) (channel : ℕ) (held : Option H) (other : ℕ) (b : Bool) → eq_by_cmp nat_cmp other channel ≡ b
      → held_at (put s channel held) other ≡ cond b held (held_at s other)
  held_by s channel held other b e = grind (arith, common_steps, get-set_at)

  -- The writer stands for one frame more where what is kept of its channel does, and it leaves what has come on others.
  stands_more : (s : S) (earlier : List Frame) (frame : Frame) (held : Option H) → ForFrames s earlier
      → held ≡ held_of (state_on (earlier ++ frame ∷ []) (channel_id_of frame)) → state_on (earlier ++ frame ∷ []) (channel_id_of frame) ≢ Lost
      → ForFrames (put s (channel_id_of frame) held) (earlier ++ frame ∷ [])
  stands_more s earlier frame held h is turn = grind (arith, common_steps, at_itself, at_other, cases_eq, held_by, state_on-other)

  -- a frame is taken or refused
  abbrev Steps : S → List Frame → Frame → Type 0
  Steps s earlier frame = Stepped steps (StandsFor messages Own held_of) given s earlier frame

  -- a frame of content, after what has begun on its channel
  module _ (s : S) (earlier : List Frame) (frame : Frame) (begun : Begun Frame) (h : ForFrames s earlier) (content : is_content (outline_of frame) ≡ true)
      (is : state_on earlier (channel_id_of frame) ≡ At begun) where
    here : held_at s (channel_id_of frame) ≡ held_of (At begun)
    here = h.held_is (channel_id_of frame) ∙ ap held_of is

    next_is : state_on (earlier ++ frame ∷ []) (channel_id_of frame) ≡ (step outline_of greatest (At begun) frame).1
    next_is = grind (arith, common_steps, state_on-own)

    taken : (next : Begun Frame) → (step outline_of greatest (At begun) frame).1 ≡ At next
        → (held_at s (channel_id_of frame) ≡ held_of (At begun) → steps s frame ≡ Ok (given earlier frame, put s (channel_id_of frame) (held_of (At next))))
        → Steps s earlier frame
    taken next e gives =
        takes _ (gives here) (stands_more s earlier frame _ h (ap held_of (sym (next_is ∙ e))) (λ lost. let no = sym (next_is ∙ e) ∙ lost in absurd cc))

    stopped : (bad : ContentFault) → mark_after greatest (begun_progress outline_of begun) (outline_of frame) ≡ marks.Fault bad
        → IsFresh bad frame → Steps s earlier frame
    stopped bad mark fresh =
        let channel = channel_id_of frame in
        let xs = of_channel outline_of channel earlier in
        let answer : step outline_of greatest (At begun) frame ≡ (Wrong bad, Lost) = rw (content, mark) in
        let last = (advance outline_of greatest xs (state_on earlier channel) frame (run_stands outline_of greatest xs)).last in
        refuses bad (by.refuses s frame bad (rw (here, by.progress begun) mark)) (record {
          lost = rw (next_is, answer);
          last = rw (of_channel-in channel earlier frame (of_own frame content)) (rw (is, answer) at last);
          fresh = fresh;
        })

  module _ (s : S) (earlier : List Frame) (h : ForFrames s earlier) where
    step_header : (opening : Frame) (channel : ℕ) (header : ContentHeader) (basic fits : Bool) → eqb header.class_id 60 ≡ basic
        → leb header.body_size greatest ≡ fits → state_on earlier channel ≡ At (Opened opening) → Steps s earlier (Head channel header)
    unfolding is_other
    step_header opening channel header false fits basic fit is =
        stopped s earlier _ _ h refl is faults.WrongClass (rw basic) (other_fresh _ _ refl)
    step_header opening channel header true false basic fit is =
        stopped s earlier _ _ h refl is faults.BodyTooLarge (rw (basic, fit))
        (record { other = λ e. absurd cc; large = λ e. grind (arith, nat_tests) })
    step_header opening channel header true true basic fit is =
        let all = eqb 0 header.body_size in
        taken s earlier _ _ h refl is (cond all Nothing (Headed opening (Head channel header) []))
        (grind (arith, common_steps)) (by.header s earlier opening channel header all h.own basic fit refl is)

    step_body : (opening header : Frame) (bodies : List Frame) (channel : ℕ) (content : List ℕ) (fits : Bool)
        → bytes_in outline_of bodies < size_in (outline_of header) → leb (bytes_in outline_of bodies + length content) (size_in (outline_of header)) ≡ fits
        → state_on earlier channel ≡ At (Headed opening header bodies) → Steps s earlier (Body channel content)
    unfolding is_other
    step_body opening header bodies channel content false some fit is =
        stopped s earlier _ _ h refl is faults.BodyOverrun (rw fit) (other_fresh _ _ refl)
    step_body opening header bodies channel content true some fit is =
        let all = eqb (bytes_in outline_of bodies + length content) (size_in (outline_of header)) in
        taken s earlier _ _ h refl is
        (cond all Nothing (Headed opening header (bodies ++ Body channel content ∷ []))) (grind (arith, common_steps))
        (by.body s earlier opening header bodies channel content all h.own some fit refl is)

    step_content : (frame : Frame) (begun : Begun Frame) → IsBegun outline_of greatest begun → is_content (outline_of frame) ≡ true
        → state_on earlier (channel_id_of frame) ≡ At begun → Steps s earlier frame
    unfolding is_other
    step_content (Meth channel m) Nothing b content is =
        let opens = is_opening_id m.class m.id in
        taken s earlier _ _ h refl is (cond opens (Opened (Meth channel m)) Nothing) (grind (arith, common_steps))
        (by.method s earlier channel m opens h.own refl is)
    step_content (Head channel header) (Opened opening) b content is = step_header opening channel header _ _ refl refl is
    step_content (Body channel bytes) (Headed opening header bodies) b content is = step_body opening header bodies channel bytes _ b.4 refl is
    step_content (Proto major minor revision) begun b content is = absurd cc
    step_content Beat begun b content is = absurd cc
    step_content (BadBeat channel) begun b content is = absurd cc
    step_content frame begun b content is = stopped s earlier frame begun h content is _ refl (other_fresh _ _ refl)

    step_by : (frame : Frame) (content : Bool) → is_content (outline_of frame) ≡ content → Steps s earlier frame
    step_by frame true content =
        let at = begun_on earlier (channel_id_of frame) (h.in_turn (channel_id_of frame)) in
        step_content frame at.begun at.is_begun content at.is
    step_by frame false content =
        let same = state_on-outside earlier frame (channel_id_of frame) content in
        takes _ (by.outside s earlier frame h.own content)
        (stands_more s earlier frame _ h (h.held_is (channel_id_of frame) ∙ ap held_of (sym same)) (λ lost. h.in_turn (channel_id_of frame) (sym same ∙ lost)))

  -- ---- the start, and the end

  -- A new writer, which keeps nothing of any channel, stands for no frames.
  pub start : (s : S) → Own s → messages s ≡ finite.empty → ForFrames s []
  start s own none = record {
    own = own;
    held_is = λ channel. rw none (get-empty nat_cmp channel ∙ sym by.nothing);
    in_turn = λ channel e. absurd cc;
  }

  nothing_at : (frames : List Frame) (channel : ℕ) → state_on frames channel ≢ Lost
      → held_of (state_on frames channel) ≡ None → state_on frames channel ≡ At Nothing
  nothing_at frames channel turn e = grind (arith, common_steps, begun_on)

  ended_none : (s : S) (frames : List Frame) → ForFrames s frames → end s ≡ None → NoneIsOpen frames
  ended_none s frames h e channel = grind (arith, common_steps, end_none, least_none, none_held, nothing_at, stands_on)

  -- of a channel on which a message is open something is kept
  open_kept : (s : S) (frames : List Frame) (channel : ℕ) → ForFrames s frames → EndsBegun frames channel → IsSome (held_at s channel)
  open_kept s frames channel h begun = by_held (held_at s channel) refl
    where
      by_held : (held : Option H) → held_at s channel ≡ held → IsSome held
      by_held (Some kept) e = refl
      by_held None e =
          let now = stands_run outline_of greatest (of_channel outline_of channel frames) (At begun.begun) begun.stands in
          let held = h.held_is channel in
          absurd (begun.some (by.something begun.begun (cc)))

  -- a message is open on a channel of which something is kept
  kept_open : (s : S) (frames : List Frame) (channel : ℕ) (kept : H) → ForFrames s frames → held_at s channel ≡ Some kept → EndsBegun frames channel
  kept_open s frames channel kept h e =
      let at = begun_on frames channel (h.in_turn channel) in
      let found : held_of (At at.begun) ≡ Some kept = ap held_of (sym at.is) ∙ sym (h.held_is channel) ∙ e in
      record {
        begun = at.begun;
        some = λ none. absurd (let nothing = by.nothing in cc);
        stands = stands_on frames channel (At at.begun) at.is;
      }

  ended_open : (s : S) (frames : List Frame) (channel : ℕ) → ForFrames s frames → end s ≡ Some (refusals.OpenContent channel) → IsLeastOpen frames channel
  ended_open s frames channel h e =
      let found = least_kept (messages s) channel (end_open (least_channel (messages s)) channel (sym (by.ends s) ∙ e)) in
      record {
        begun = kept_open s frames channel found.value h found.kept;
        least = λ other begun. found.least other (open_kept s frames other h begun);
      }

  -- where no content is open, nothing is kept
  may_end : (s : S) (frames : List Frame) → ForFrames s frames → NoneIsOpen frames → end s ≡ None
  may_end s frames h none = by.ends s ∙ by_least (least_channel (messages s)) refl
    where
      by_least : (least : Option ℕ) → least_channel (messages s) ≡ least → refused_at_end least ≡ None
      by_least None e = refl
      by_least (Some channel) e =
          let found = (least_kept (messages s) channel e).kept in
          let now = stands_run outline_of greatest (of_channel outline_of channel frames) (At Nothing) (none channel) in
          let held = h.held_is channel in
          let nothing = by.nothing in
          absurd cc

  -- ---- all of it

  -- A writer that keeps something of each channel on which a message has begun goes by the turns of the channels.
  pub by_turns : GoesByTurns steps end (StandsFor messages Own held_of) given after
  by_turns = record {
    none = by.none;
    more = by.more;
    steps = λ s earlier frame h. step_by s earlier h frame (is_content (outline_of frame)) refl;
    in_turn = λ s earlier h. h.in_turn;
    only_open = λ s bad e. end_bad (least_channel (messages s)) bad (sym (by.ends s) ∙ e);
    ends_none = ended_none;
    ends_open = ended_open;
    may_end = may_end;
  }
