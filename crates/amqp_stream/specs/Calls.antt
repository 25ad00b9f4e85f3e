-- A call that runs from a source to a sink.
use Rattle.std.specs.Prelude.{ℕ}
use Rattle.amqp_stream.specs.Changes.{Change, ◌⇒◌}
use Rattle.amqp_stream.specs.Ends.{Supply, Store}

-- Its limit on payloads and its read budget, and its two ends.
pub record Call (S K : Type 0) : Type 0 where
  pub limit : ℕ
  pub budget : ℕ
  pub source : Change S
  pub sink : Change K

-- a call with this limit and this budget, from this source to this sink
abbrev pub call_of : {S K : Type 0} → ℕ → ℕ → Change S → Change K → Call S K
call_of limit budget source sink =
    record { limit = limit; budget = budget; source = source; sink = sink }

-- a call by what its two ends report of themselves
abbrev pub as_reported : {S K : Type 0} → (S → Supply) → (K → Store) → Call S K → Call Supply Store
as_reported supply store call = record {
  limit = call.limit;
  budget = call.budget;
  source = supply call.source.old ⇒ supply call.source.new;
  sink = store call.sink.old ⇒ store call.sink.new;
}
