-- What a writer keeps of the channels on which a message has begun.
use Rattle.std.specs.Prelude.{ℕ, List, [], Option, Some, None}
use Rattle.amqp_turns.specs.declared.progress.Progress.{Progress}
pub use Rattle.amqp_turns.specs.ByChannel.{ByChannel, set_at}

-- how far a message has come, and the bytes of its body that are not written yet
pub record Held : Type 0 where
  pub progress : Progress
  pub kept : List ℕ

-- what is kept of each channel of which something is
abbrev pub HeldByChannel : Type 0
HeldByChannel = ByChannel Held

-- how far the content of a channel has come; None where nothing is kept of it
abbrev pub progress_in : Option Held → Option Progress
progress_in None = None
progress_in (Some held) = Some held.progress

-- the bytes of a body that are not written yet; none where nothing is kept of the channel
abbrev pub kept_in : Option Held → List ℕ
kept_in None = []
kept_in (Some held) = held.kept

-- nothing is kept of a message that is complete
abbrev pub held_with : Option Progress → List ℕ → Option Held
held_with None kept = None
held_with (Some progress) kept = Some (record { progress = progress; kept = kept })
