use Rattle.std.proofs.Common.{◌≡◌, ◌+◌, ◌^◌, ◌<◌, Bool, length}
use Rattle.std.specs.Fn.{FnReturnsAt}
use Rattle.std.specs.List.{count_by}
use Rattle.std.specs.Map.{values_of}
use Rattle.amqp_turns.proofs.channels.Channels.count.Given as goal

abbrev pub invariant-loop-value : goal.invariant-loop-value
invariant-loop-value g l = record {
  fits : l.count + length l.value-iterator < 2 ^ 64;
  counted : (passes : g.row.T.Denot → Bool) → ((value : g.row.T.Denot) (answer : Bool) → FnReturnsAt g.F.Fn l.test value answer → answer ≡ passes value)
      → l.count + count_by passes l.value-iterator ≡ count_by passes (values_of l.self);
}
