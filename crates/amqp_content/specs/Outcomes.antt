-- What an assembler holds of a channel. What it gives for frames is passed on.
use Rattle.std.specs.Prelude.{ℕ, Some, None}
pub use Rattle.amqp_turns.specs.Outcomes.{OutcomeView, passed, held, done, wrong, answer_outcome}
pub use Rattle.amqp_turns.specs.Outcomes.{Kept, message, fault, begun_kept, kept_of}
pub use Rattle.amqp_turns.specs.Outcomes.{AssemblerStands, IsOutcomeOf, Pushes, Assembling}
pub use Rattle.amqp_turns.specs.Outcomes.{PushesIn, progress_kept, kept_progress, with_header}
pub use Rattle.amqp_turns.specs.Outcomes.{with_bytes, IsHeaded, IsHeadedThere, whole_kept}
pub use Rattle.amqp_turns.specs.Outcomes.{marked_outcome, kept_marked, mark_kept, TakesFrame}
pub use Rattle.amqp_turns.specs.Outcomes.{IsMessage, TakesIn, TakesMarked}
pub use Rattle.amqp_messages.specs.Outcomes.{outcome_of}
use Rattle.amqp_frame.specs.Frames.{header_of}
use Rattle.amqp_messages.specs.Messages.{opening_method}
use Rattle.amqp_content.specs.declared.pending.Pending.{Pending}
use Rattle.amqp_content.specs.declared.pending.Pending.TheVariants as pendings

-- what an assembler holds of a channel, in these words
abbrev pub pending_kept : Pending → Kept
pending_kept (pendings.Message opening None body) = message (opening_method opening) None body.items
pending_kept (pendings.Message opening (Some header) body) =
    message (opening_method opening) (Some (header_of header)) body.items
pending_kept pendings.Faulted = fault

-- the same of an entry of its channels
abbrev pub entry_kept : ℕ × Pending → ℕ × Kept
entry_kept entry = (entry.0, pending_kept entry.1)
