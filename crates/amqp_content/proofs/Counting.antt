-- Counting the bytes of the messages that are not complete.
use Rattle.std.proofs.Common.{◌≡◌, ◌≢◌, ℕ, ◌+◌, ◌-◌, ◌≤◌, ◌<◌, cond, zero, suc, Bool, true, false, eqb, List, [], length, refl, sym, ap, ap₂, ◌∙◌, arith}
use Rattle.std.proofs.Common.{inl, inr, ◌⊎◌, Option, Some, None}
use Rattle.std.proofs.lemmas.List.{length-append}
use Rattle.std.proofs.lemmas.Bool.Decides.{eqb_tells}
use Rattle.amqp_types.specs.ContentHeaders.{ContentHeader}
use Rattle.amqp_wire.specs.Frames.{Frame, Proto, Meth, Head, Body, Beat, BadBeat, channel_id_of}
use Rattle.amqp_wire.specs.Outlines.{outline_of}
use Rattle.amqp_turns.specs.declared.mark.Mark.{Mark}
use Rattle.amqp_turns.specs.declared.mark.Mark.TheVariants as marks
use Rattle.amqp_turns.specs.Units.{is_content}
use Rattle.amqp_turns.specs.Messages.{header_in, bytes_of}
use Rattle.amqp_turns.specs.Stands.{kept_at, OthersStay}
use Rattle.amqp_turns.specs.Outcomes.{Kept, message, fault, OutcomeView, passed, Assembling, TakesMarked, kept_marked}
use Rattle.amqp_turns.specs.Outcomes.{mark_kept, with_bytes, with_header}
use Rattle.amqp_content.specs.Bounds.{body_bytes, bytes_below, channel_count, open_bytes, added_by, added_to, adds}

-- ---- all channels below a number

same_above : (n channel : ℕ) (old new : List (ℕ × Kept)) → n ≤ channel → OthersStay channel old new → bytes_below n new ≡ bytes_below n old
same_above zero channel old new h stay = refl
same_above (suc n) channel old new h stay =
    let other : n ≢ channel = λ e. omega (arith, h, e) in
    ap₂ (λ a b. a + b) (same_above n channel old new (omega (arith, h)) stay) (ap body_bytes (stay n other))

-- what one channel holds is a part of what all hold, and what changes in it changes in all
pub record Moves (n channel : ℕ) (old new : List (ℕ × Kept)) : Type 0 where
  pub part : body_bytes (kept_at old channel) ≤ bytes_below n old
  pub moved : bytes_below n new + body_bytes (kept_at old channel) ≡ bytes_below n old + body_bytes (kept_at new channel)

-- where one channel alone changes, the bytes of all channels below a number change by as much
pub moves : (n channel : ℕ) (old new : List (ℕ × Kept)) → channel < n → OthersStay channel old new → Moves n channel old new
moves zero channel old new h stay = absurd (omega (arith, h))
moves (suc n) channel old new h stay = by_test (λ less. moves n channel old new less stay) (eqb_tells n channel)
  where
    by_test : (channel < n → Moves n channel old new)
        → ((eqb n channel ≡ true) × (n ≡ channel)) ⊎ ((eqb n channel ≡ false) × (n ≢ channel)) → Moves (suc n) channel old new
    by_test rest (inl (t, e)) =
        let others = same_above n channel old new (omega (arith, e)) stay in
        let was : body_bytes (kept_at old n) ≡ body_bytes (kept_at old channel) = ap (λ c. body_bytes (kept_at old c)) e in
        let is : body_bytes (kept_at new n) ≡ body_bytes (kept_at new channel) = ap (λ c. body_bytes (kept_at new c)) e in
        record { part = omega (arith, was); moved = omega (arith, others, was, is) }
    by_test rest (inr (t, ne)) =
        let below = rest (omega (arith, h, ne)) in
        let here : body_bytes (kept_at new n) ≡ body_bytes (kept_at old n) = ap body_bytes (stay n ne) in
        record { part = omega (arith, below.part); moved = omega (arith, below.moved, here) }

none_below : (n : ℕ) → bytes_below n [] ≡ 0
none_below zero = refl
none_below (suc n) = omega (arith, none_below n)

-- an assembler that keeps nothing holds no body bytes
pub none_open : (assembling : Assembling) → assembling.channels ≡ [] → 0 ≡ open_bytes assembling
unfolding open_bytes
none_open assembling e = sym (ap (bytes_below channel_count) e ∙ none_below channel_count)

is_channel : (channel : ℕ) → channel < 65536 → channel < channel_count
unfolding channel_count
is_channel channel h = h

-- what is held of a channel is a part of what is held, and what changes in it changes in all
pub record MovesIn (held before after : ℕ) (new : Assembling) : Type 0 where
  pub part : before ≤ held
  pub now : (held - before) + after ≡ open_bytes new

-- where one channel alone changes, the bytes of all are those of before without what this channel held, and with what it holds now
pub moves_in : (held before after channel : ℕ) (old new : Assembling) → channel < 65536 → held ≡ open_bytes old
    → before ≡ body_bytes (kept_at old.channels channel) → after ≡ body_bytes (kept_at new.channels channel)
    → OthersStay channel old.channels new.channels → MovesIn held before after new
unfolding open_bytes
moves_in held before after channel old new small counted was is stay =
    let h = moves channel_count channel old.channels new.channels (is_channel channel small) stay in
    record { part = omega (arith, h.part, counted, was); now = omega (arith, h.part, h.moved, counted, was, is) }

-- ---- one frame more

added_none : (mark : Mark) → added_by 0 mark ≡ 0
added_none marks.Passed = refl
added_none marks.Opening = refl
added_none marks.Header = refl
added_none (marks.Body before after size) = by_test (eqb after size)
  where
    by_test : (test : Bool) → ◌≡◌ {A = ℕ} (cond test 0 0) 0
    by_test true = refl
    by_test false = refl
added_none (marks.Fault bad) = refl

with_header-bytes : (kept : Option Kept) (header : ContentHeader) → body_bytes (with_header kept header) ≡ body_bytes kept
with_header-bytes None header = refl
with_header-bytes (Some (message opening before body)) header = refl
with_header-bytes (Some fault) header = refl

with_bytes-bytes : (kept : Option Kept) (bytes : List ℕ) → body_bytes (with_bytes kept bytes) ≤ body_bytes kept + length bytes
with_bytes-bytes None bytes = omega arith
with_bytes-bytes (Some (message opening header body)) bytes = omega (arith, length-append body bytes)
with_bytes-bytes (Some fault) bytes = omega arith

added_marked : (kept : Option Kept) (frame : Frame) (mark : Mark)
    → body_bytes (kept_marked kept frame mark) ≤ body_bytes kept + added_by (length (bytes_of frame)) mark
added_marked kept frame marks.Passed = omega arith
added_marked kept frame marks.Opening = omega arith
added_marked kept frame marks.Header = by_test (eqb 0 (header_in frame).body_size)
  where
    by_test : (test : Bool) → body_bytes (cond test None (with_header kept (header_in frame))) ≤ body_bytes kept + 0
    by_test true = omega arith
    by_test false = omega (arith, with_header-bytes kept (header_in frame))
added_marked kept frame (marks.Body before after size) = by_test (eqb after size)
  where
    by_test : (test : Bool) → body_bytes (cond test None (with_bytes kept (bytes_of frame))) ≤ body_bytes kept + cond test 0 (length (bytes_of frame))
    by_test true = omega arith
    by_test false = with_bytes-bytes kept (bytes_of frame)
added_marked kept frame (marks.Fault bad) = omega arith

added_at : (max : ℕ) (kept : Option Kept) (frame : Frame) → added_by (length (bytes_of frame)) (mark_kept max kept frame) ≡ added_to max kept frame
added_at max kept (Body channel content) = refl
added_at max kept (Proto major minor revision) = added_none (mark_kept max kept (Proto major minor revision))
added_at max kept (Meth channel m) = added_none (mark_kept max kept (Meth channel m))
added_at max kept (Head channel header) = added_none (mark_kept max kept (Head channel header))
added_at max kept Beat = added_none (mark_kept max kept Beat)
added_at max kept (BadBeat channel) = added_none (mark_kept max kept (BadBeat channel))

-- a frame adds no more to what is held of its channel than `adds` says
pub adds_most : (old new : Assembling) (frame : Frame) (outcome : OutcomeView) → TakesMarked old new frame outcome
    → body_bytes (kept_at new.channels (channel_id_of frame)) ≤ body_bytes (kept_at old.channels (channel_id_of frame)) + adds old frame
adds_most old new frame outcome takes =
    let kept = kept_at old.channels (channel_id_of frame) in
    let most = added_marked kept frame (mark_kept old.max_body kept frame) in
    omega (arith, most, ap body_bytes takes.keeps, added_at old.max_body kept frame)

-- ---- a frame outside of all content

passed_by : (max : ℕ) (kept : Option Kept) (frame : Frame) → is_content (outline_of frame) ≡ false → mark_kept max kept frame ≡ marks.Passed
passed_by max kept (Meth channel m) e = absurd cc
passed_by max kept (Head channel header) e = absurd cc
passed_by max kept (Body channel content) e = absurd cc
passed_by max None (Proto major minor revision) e = refl
passed_by max (Some (message opening None body)) (Proto major minor revision) e = refl
passed_by max (Some (message opening (Some header) body)) (Proto major minor revision) e = refl
passed_by max (Some fault) (Proto major minor revision) e = refl
passed_by max None Beat e = refl
passed_by max (Some (message opening None body)) Beat e = refl
passed_by max (Some (message opening (Some header) body)) Beat e = refl
passed_by max (Some fault) Beat e = refl
passed_by max None (BadBeat channel) e = refl
passed_by max (Some (message opening None body)) (BadBeat channel) e = refl
passed_by max (Some (message opening (Some header) body)) (BadBeat channel) e = refl
passed_by max (Some fault) (BadBeat channel) e = refl

-- a frame that is no content is passed, and changes nothing
pub takes_passed : (assembling : Assembling) (frame : Frame) → is_content (outline_of frame) ≡ false → TakesMarked assembling assembling frame (passed frame)
takes_passed assembling frame e =
    rw (passed_by assembling.max_body (kept_at assembling.channels (channel_id_of frame)) frame e) (record { gives = refl; keeps = refl })

-- ---- a frame within a bound

-- the count after a frame: it fits, and passes neither the bound nor what it was
pub record Recounts (bound held before after : ℕ) (old new : Assembling) : Type 0 where
  pub part : before ≤ held
  pub now : (held - before) + after ≡ open_bytes new
  pub bounded : (open_bytes new ≤ bound) ⊎ (open_bytes new ≤ open_bytes old)
  pub most : ((held - before) + after ≤ bound) ⊎ ((held - before) + after ≤ held)

recounts_at : (bound held before after : ℕ) (old new : Assembling) (frame : Frame) (outcome : OutcomeView)
    → channel_id_of frame < 65536 → held ≡ open_bytes old → before ≡ body_bytes (kept_at old.channels (channel_id_of frame))
    → after ≡ body_bytes (kept_at new.channels (channel_id_of frame)) → OthersStay (channel_id_of frame) old.channels new.channels
    → TakesMarked old new frame outcome → (held + adds old frame ≤ bound) ⊎ (adds old frame ≡ 0) → Recounts bound held before after old new
recounts_at bound held before after old new frame outcome small counted was is stay takes (inl fits) =
    let h = moves_in held before after (channel_id_of frame) old new small counted was is stay in
    let most = adds_most old new frame outcome takes in
    let few : (held - before) + after ≤ bound = omega (arith, h.part, most, was, is, fits) in
    record { part = h.part; now = h.now; bounded = inl (omega (arith, few, h.now)); most = inl few }
recounts_at bound held before after old new frame outcome small counted was is stay takes (inr none) =
    let h = moves_in held before after (channel_id_of frame) old new small counted was is stay in
    let most = adds_most old new frame outcome takes in
    let few : (held - before) + after ≤ held = omega (arith, h.part, most, was, is, none) in
    record { part = h.part; now = h.now; bounded = inr (omega (arith, few, h.now, counted)); most = inr few }

-- after a frame that adds nothing or stays within the bound, the count is the number of bytes held, and fits
pub recounts : (bound held before after channel : ℕ) (old new : Assembling) (frame : Frame) (outcome : OutcomeView)
    → channel < 65536 → channel ≡ channel_id_of frame → held ≡ open_bytes old → before ≡ body_bytes (kept_at old.channels channel)
    → after ≡ body_bytes (kept_at new.channels channel) → OthersStay (channel_id_of frame) old.channels new.channels
    → TakesMarked old new frame outcome → (held + adds old frame ≤ bound) ⊎ (adds old frame ≡ 0) → Recounts bound held before after old new
recounts bound held before after channel old new frame outcome small e counted was is stay takes within =
    recounts_at bound held before after old new frame outcome (omega (arith, small, e)) counted
    (was ∙ ap (λ c. body_bytes (kept_at old.channels c)) e) (is ∙ ap (λ c. body_bytes (kept_at new.channels c)) e) stay takes within
