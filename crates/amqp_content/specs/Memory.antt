-- The frames at which memory may run out in an assembler.
use Rattle.std.specs.Prelude.{◌≡◌, ◌<◌, ℕ, Option, None, length}
use Rattle.amqp_wire.specs.Frames.{Frame, channel_id_of}
use Rattle.amqp_turns.specs.declared.mark.Mark.{Mark}
use Rattle.amqp_turns.specs.declared.mark.Mark.TheVariants as marks
use Rattle.amqp_turns.specs.Messages.{bytes_of}
use Rattle.amqp_turns.specs.Outcomes.{Kept, Assembling, mark_kept}
use Rattle.amqp_turns.specs.Stands.{kept_at}

-- by the frame's mark: an opening or a fault where nothing is kept of the channel, and a body that
-- has bytes; no other frame takes memory
abbrev pub NeedsMemoryAt : Option Kept → Frame → Mark → Type 0
NeedsMemoryAt kept frame marks.Opening = kept ≡ None
NeedsMemoryAt kept frame (marks.Fault bad) = kept ≡ None
NeedsMemoryAt kept frame (marks.Body before after size) = 0 < length (bytes_of frame)
NeedsMemoryAt kept frame marks.Header = ⊥
NeedsMemoryAt kept frame marks.Passed = ⊥

-- the same by what is kept of its channel
abbrev pub NeedsMemoryWith : ℕ → Option Kept → Frame → Type 0
NeedsMemoryWith max kept frame = NeedsMemoryAt kept frame (mark_kept max kept frame)

-- the same in an assembler
abbrev pub NeedsMemory : Assembling → Frame → Type 0
NeedsMemory assembling frame =
    NeedsMemoryWith assembling.max_body (kept_at assembling.channels (channel_id_of frame)) frame
