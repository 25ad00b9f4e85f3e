-- What is written for one frame, and what is kept then, by its mark.
use Rattle.std.proofs.Common.{◌≡◌, ◌≢◌, ℕ, ◌+◌, Bool, true, false, eqb, leb, List, [], ◌∷◌, refl, sym, ap, subst, ◌∙◌, Option, Some, None, Ok, Err}
use Rattle.std.specs.Prelude.{IsOk, IsSome, Result}
use Rattle.std.proofs.lemmas.Bool.{eqb-true}
use Rattle.std.specs.FinMap as finite
use Rattle.amqp_wire.specs.declared.frame_type.AMQPFrameType.{AMQPFrameType}
use Rattle.amqp_wire.specs.declared.frame_type.AMQPFrameType.TheVariants as kinds
use Rattle.amqp_wire.specs.declared.outline.FrameOutline.{FrameOutline}
use Rattle.amqp_wire.specs.declared.outline.FrameOutline.TheVariants as outlines
use Rattle.amqp_wire.specs.Frames.{Raw, Frame, channel_id_of}
use Rattle.amqp_wire.specs.Outlines.{outline_of, outline_front, outline_at}
use Rattle.amqp_wire.specs.Verdicts.{decode_raw}
use Rattle.amqp_turns.specs.declared.fault.ContentFault.{ContentFault}
use Rattle.amqp_turns.specs.declared.mark.Mark.{Mark}
use Rattle.amqp_turns.specs.declared.mark.Mark.TheVariants as marks
use Rattle.amqp_turns.specs.declared.progress.Progress.{Progress}
use Rattle.amqp_turns.specs.declared.progress.Progress.TheVariants as progresses
use Rattle.amqp_turns.specs.Units.{is_opening_id}
use Rattle.amqp_turns.specs.Steps.{mark_after, progress_after, progress_marked, header_mark, method_mark, body_mark}
use Rattle.amqp_select.specs.Matching.{decides}
use Rattle.amqp_in_turn.specs.declared.errors.Refusal.TheVariants as refusals
use Rattle.amqp_filter.specs.declared.messages.Open.{Open}
use Rattle.amqp_filter.specs.declared.message_filter.MessageFilter.{MessageFilter}
use Rattle.amqp_turns.specs.InTurn.{greatest}
use Rattle.amqp_filter.specs.Held.{progress_in, kept_in, held_with}
use Rattle.amqp_filter.specs.Stepping.{held_more, mark_held, held_at, with_held, step_marked, step_filtering, StepsTo}
use Rattle.amqp_turns.proofs.Holding.{none_held, set_at-same}
use Rattle.amqp_in_turn.specs.Judging.{given}
use Rattle.amqp_in_turn.proofs.Placing.{IsOutlineOf, same_outline, marked_by, channel_by}

-- ---- marks, by the outline that stands in the payload

-- the mark by what is kept of the channel that stands before the payload
abbrev pub mark_raw : MessageFilter → Raw → FrameOutline → Mark
mark_raw s raw outline = mark_after greatest (progress_in (held_at s raw.channel)) outline

abbrev pub progress_raw : MessageFilter → Raw → FrameOutline → Option Progress
progress_raw s raw outline = progress_after greatest (progress_in (held_at s raw.channel)) outline

-- how far the content of each channel has come
abbrev progress_on : MessageFilter → ℕ → Option Progress
progress_on s channel = progress_in (held_at s channel)

-- ---- steps by marks

-- what a result gives that is no error
pub given_by : {A E : Type 0} (result : Result A E) → IsOk result → (a : A) × (result ≡ Ok a)
given_by (Ok a) h = (a, refl)
given_by (Err e) h = absurd cc

-- A frame that is not in turn is refused with its fault.
pub refused_steps : (s : MessageFilter) (raw : Raw) (outline : FrameOutline) (bad : ContentFault) → IsOutlineOf raw outline
    → marks.Fault bad ≡ mark_raw s raw outline → (frame : Frame) → decode_raw raw ≡ Ok frame → step_filtering s frame ≡ Err (refusals.BadContent bad)
refused_steps s raw outline bad is e frame h =
    ap (step_marked s (held_at s (channel_id_of frame)) frame) (marked_by (progress_on s) raw outline (marks.Fault bad) frame is e h)

-- what is decided of the frame that a payload is
abbrev pub IsDecided : MessageFilter → Raw → Bool → Type 0
IsDecided s raw kept = (frame : Frame) → decode_raw raw ≡ Ok frame → kept ≡ decides s.rules (outline_of frame)

-- a frame of no message is decided of by itself, and all stays
passed_step : (s : MessageFilter) (frame : Frame) (kept : Bool) → mark_held (held_at s (channel_id_of frame)) frame ≡ marks.Passed
    → kept ≡ decides s.rules (outline_of frame) → step_filtering s frame ≡ Ok (given kept frame, s)
passed_step s frame kept mark decided =
    ap (step_marked s (held_at s (channel_id_of frame)) frame) mark
    ∙ ap (λ m. Ok (given (decides s.rules (outline_of frame)) frame, record s { messages = m })) (sym (set_at-same s.messages (channel_id_of frame)))
    ∙ ap (λ (b : Bool). Ok (given b frame, s)) (sym decided)

-- A frame outside of messages is written where the rules keep it, and all that is kept of channels stays.
pub passed_steps : (s : MessageFilter) (raw : Raw) (outline : FrameOutline) (kept : Bool)
    → IsOutlineOf raw outline → marks.Passed ≡ mark_raw s raw outline → IsDecided s raw kept → StepsTo s s raw kept
passed_steps s raw outline kept is e decided frame h =
    passed_step s frame kept (marked_by (progress_on s) raw outline marks.Passed frame is e h) (decided frame h)

-- the same where no message has begun
pub alone_steps : (s : MessageFilter) (raw : Raw) (kept empty : Bool) → empty ≡ eqb (finite.len s.messages) 0 → empty ≡ true
    → ((frame : Frame) → decode_raw raw ≡ Ok frame → mark_after greatest None (outline_of frame) ≡ marks.Passed) → IsDecided s raw kept → StepsTo s s raw kept
alone_steps s raw kept empty is none passed decided frame h =
    let here : held_at s (channel_id_of frame) ≡ None = none_held s.messages (eqb-true (finite.len s.messages) 0 (sym is ∙ none)) (channel_id_of frame) in
    let mark : mark_held (held_at s (channel_id_of frame)) frame ≡ marks.Passed =
    ap (λ (k : Option Open). mark_after greatest (progress_in k) (outline_of frame)) here ∙ passed frame h in
    passed_step s frame kept mark (decided frame h)

pub opening_steps : (s : MessageFilter) (raw : Raw) (outline : FrameOutline) (kept : Bool) → IsOutlineOf raw outline
    → marks.Opening ≡ mark_raw s raw outline → IsDecided s raw kept → StepsTo s (with_held s raw.channel (held_with (Some progresses.Opened) kept)) raw kept
opening_steps s raw outline kept is e decided frame h =
    let held = held_at s (channel_id_of frame) in
    let mark = marked_by (progress_on s) raw outline marks.Opening frame is e h in
    let channel = channel_by (progress_on s) raw outline marks.Opening frame is e h (λ same. absurd cc) in
    ap (step_marked s held frame) mark
    ∙ ap (λ p. Ok (given (decides s.rules (outline_of frame)) frame, with_held s (channel_id_of frame) (held_with p (decides s.rules (outline_of frame)))))
    (ap (progress_marked (progress_in held) (outline_of frame)) mark)
    ∙ ap (λ c. Ok (given (decides s.rules (outline_of frame)) frame, with_held s c (held_with (Some progresses.Opened) (decides s.rules (outline_of frame)))))
    channel
    ∙ ap (λ (b : Bool). Ok (given b frame, with_held s raw.channel (held_with (Some progresses.Opened) b))) (sym (decided frame h))

-- a content header or a body in a message
abbrev pub IsWithin : Mark → Type 0
IsWithin marks.Header = Unit {0}
IsWithin (marks.Body before after size) = Unit {0}
IsWithin marks.Passed = ⊥
IsWithin marks.Opening = ⊥
IsWithin (marks.Fault bad) = ⊥

within_other : (mark : Mark) → IsWithin mark → mark ≢ marks.Passed
within_other marks.Header within e = absurd cc
within_other (marks.Body before after size) within e = absurd cc
within_other marks.Passed within e = absurd within
within_other marks.Opening within e = absurd within
within_other (marks.Fault bad) within e = absurd within

within_step : (s : MessageFilter) (held : Option Open) (frame : Frame) (mark : Mark) → IsWithin mark
    → step_marked s held frame mark ≡ Ok (given (kept_in held) frame, with_held s (channel_id_of frame) (held_more (kept_in held) held frame))
within_step s held frame marks.Header within = refl
within_step s held frame (marks.Body before after size) within = refl
within_step s held frame marks.Passed within = absurd within
within_step s held frame marks.Opening within = absurd within
within_step s held frame (marks.Fault bad) within = absurd within

pub within_steps : (s : MessageFilter) (raw : Raw) (outline : FrameOutline) (mark : Mark) (progress : Option Progress) (kept : Bool)
    → IsOutlineOf raw outline → IsWithin mark → mark ≡ mark_raw s raw outline → progress ≡ progress_raw s raw outline
    → kept ≡ kept_in (held_at s raw.channel) → StepsTo s (with_held s raw.channel (held_with progress kept)) raw kept
within_steps s raw outline mark progress kept is within e goes k frame h =
    let marked = marked_by (progress_on s) raw outline mark frame is e h in
    let channel = channel_by (progress_on s) raw outline mark frame is e h (within_other mark within) in
    let same = same_outline raw outline frame is h in
    ap (step_marked s (held_at s (channel_id_of frame)) frame) marked
    ∙ within_step s (held_at s (channel_id_of frame)) frame mark within
    ∙ ap (λ c. Ok (given (kept_in (held_at s c)) frame, with_held s c (held_more (kept_in (held_at s c)) (held_at s c) frame))) channel
    ∙ ap (λ p. Ok (given (kept_in (held_at s raw.channel)) frame, with_held s raw.channel (held_with p (kept_in (held_at s raw.channel)))))
    (ap (progress_after greatest (progress_in (held_at s raw.channel))) (sym same) ∙ sym goes)
    ∙ ap (λ b. Ok (given b frame, with_held s raw.channel (held_with progress b))) (sym k)

-- ---- what is kept before a frame with a mark

no_opening_header : (class size : ℕ) (basic fits : Bool) → eqb class 60 ≡ basic → leb size greatest ≡ fits → marks.Opening ≡ header_mark greatest class size → ⊥
no_opening_header class size false fits basic fit e = let other = rw basic at e in absurd cc
no_opening_header class size true false basic fit e = let other = rw (basic, fit) at e in absurd cc
no_opening_header class size true true basic fit e = let other = rw (basic, fit) at e in absurd cc

no_opening_body : (size seen count : ℕ) (fits : Bool) → leb (seen + count) size ≡ fits → marks.Opening ≡ body_mark size seen count → ⊥
no_opening_body size seen count true fit e = let other = rw fit at e in absurd cc
no_opening_body size seen count false fit e = let other = rw fit at e in absurd cc

no_opening_within : (progress : Progress) (outline : FrameOutline) → marks.Opening ≡ mark_after greatest (Some progress) outline → ⊥
no_opening_within progresses.Opened (outlines.Method channel class id) e = absurd cc
no_opening_within progresses.Opened (outlines.Header channel class size) e = no_opening_header class size (eqb class 60) (leb size greatest) refl refl e
no_opening_within progresses.Opened (outlines.Body channel count) e = absurd cc
no_opening_within progresses.Opened outlines.ProtocolHeader e = absurd cc
no_opening_within progresses.Opened (outlines.Heartbeat channel) e = absurd cc
no_opening_within (progresses.Headed size seen) (outlines.Method channel class id) e = absurd cc
no_opening_within (progresses.Headed size seen) (outlines.Header channel class n) e = absurd cc
no_opening_within (progresses.Headed size seen) (outlines.Body channel count) e = no_opening_body size seen count (leb (seen + count) size) refl e
no_opening_within (progresses.Headed size seen) outlines.ProtocolHeader e = absurd cc
no_opening_within (progresses.Headed size seen) (outlines.Heartbeat channel) e = absurd cc
no_opening_within progresses.Faulted (outlines.Method channel class id) e = absurd cc
no_opening_within progresses.Faulted (outlines.Header channel class size) e = absurd cc
no_opening_within progresses.Faulted (outlines.Body channel count) e = absurd cc
no_opening_within progresses.Faulted outlines.ProtocolHeader e = absurd cc
no_opening_within progresses.Faulted (outlines.Heartbeat channel) e = absurd cc

pub opening_none : (held : Option Open) (outline : FrameOutline) → marks.Opening ≡ mark_after greatest (progress_in held) outline → held ≡ None
opening_none None outline e = refl
opening_none (Some held) outline e = absurd (no_opening_within held.progress outline e)

opening_kind_as : (kind : AMQPFrameType) (channel : ℕ) (payload : List ℕ)
    → marks.Opening ≡ mark_after greatest None (outline_at kind channel payload) → kind ≡ kinds.Method
opening_kind_as kinds.Method channel payload e = refl
opening_kind_as kinds.ProtocolHeader channel payload e = absurd cc
opening_kind_as kinds.Header channel payload e = absurd cc
opening_kind_as kinds.Body channel payload e = absurd cc
opening_kind_as kinds.Heartbeat channel payload e = absurd cc

pub opening_kind : (raw : Raw) (held : Option Open) (outline : FrameOutline) → outline ≡ outline_front raw
    → marks.Opening ≡ mark_after greatest (progress_in held) outline → raw.kind ≡ kinds.Method
opening_kind raw held outline is e =
    opening_kind_as raw.kind raw.channel raw.payload
    (e ∙ ap (λ k. mark_after greatest (progress_in k) outline) (opening_none held outline e) ∙ ap (mark_after greatest None) is)

no_within_method : (class id : ℕ) (opens : Bool) → is_opening_id class id ≡ opens → IsWithin (method_mark class id) → ⊥
no_within_method class id true e within = let other = rw e at within in absurd other
no_within_method class id false e within = let other = rw e at within in absurd other

no_within : (outline : FrameOutline) → IsWithin (mark_after greatest None outline) → ⊥
no_within (outlines.Method channel class id) within = no_within_method class id (is_opening_id class id) refl within
no_within (outlines.Header channel class size) within = absurd within
no_within (outlines.Body channel count) within = absurd within
no_within outlines.ProtocolHeader within = absurd within
no_within (outlines.Heartbeat channel) within = absurd within

pub within_there : (held : Option Open) (outline : FrameOutline) (mark : Mark)
    → IsWithin mark → mark ≡ mark_after greatest (progress_in held) outline → IsSome held
within_there (Some held) outline mark within e = refl
within_there None outline mark within e = absurd (no_within outline (subst IsWithin e within))
