-- What a writer keeps of the channels on which a message has begun.
use Rattle.std.specs.Prelude.{Bool, false, Option, Some, None}
use Rattle.amqp_turns.specs.declared.progress.Progress.{Progress}
pub use Rattle.amqp_turns.specs.ByChannel.{ByChannel, set_at}
use Rattle.amqp_filter.specs.declared.messages.Open.{Open}

-- what is kept of each channel of which something is
abbrev pub OpenByChannel : Type 0
OpenByChannel = ByChannel Open

-- how far the content of a channel has come; None where nothing is kept of it
abbrev pub progress_in : Option Open → Option Progress
progress_in None = None
progress_in (Some held) = Some held.progress

-- whether the message of a channel is kept; where none has begun it is not
abbrev pub kept_in : Option Open → Bool
kept_in None = false
kept_in (Some held) = held.kept

-- nothing is kept of a message that is complete
abbrev pub held_with : Option Progress → Bool → Option Open
held_with None kept = None
held_with (Some progress) kept = Some (record { progress = progress; kept = kept })
