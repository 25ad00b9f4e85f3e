-- How a run of `make` goes: what is made is valid input, and the sink that counts never fails.
use Rattle.std.proofs.Common.{◌≡◌, ℕ, ◌+◌, ◌<◌, ◌≤◌, List, ◌++◌, length, ◌⊎◌, Result, Err, refl, sym, ap, ◌∙◌, inl, inr, arith}
use Rattle.std.proofs.lemmas.List.{length-append}
use Rattle.amqp_types.specs.Levels.{plain}
use Rattle.amqp_stream.specs.declared.errors.StreamError.{StreamError}
use Rattle.amqp_stream.specs.declared.errors.StreamError.TheVariants as errors
use Rattle.amqp_stream.specs.Changes.{◌⇒◌}
use Rattle.amqp_stream.specs.Calls.{call_of}
use Rattle.amqp_stream.specs.Ends.{last}
use Rattle.amqp_stream.specs.Scripts.{faultless, Counted, count_of}
use Rattle.amqp_stream.specs.Causes.{NeverBegan}
use Rattle.amqp_stream.specs.Runs.{CanonicalRun}
use Rattle.amqp_stream.specs.Made.{made, most_frames}
use Rattle.amqp_stream.proofs.MadeFrames.{all_made}
use Rattle.amqp_stream.proofs.MadeSizes.{made-short}
use Rattle.amqp_program.specs.Reports.{max_payload}
use Rattle.amqp_program.proofs.Ran.{complete_of}

-- A call over a source that never fails into a sink that counts. It ran, or never began.
abbrev Ran : ℕ → List ℕ → List ℕ → Counted → Counted → Result (Unit {0}) StreamError → Type 0
Ran budget bytes rest k l r =
    CanonicalRun plain faultless count_of (call_of max_payload budget (bytes ⇒ rest) (k ⇒ l)) r
    ⊎ NeverBegan (bytes ⇒ rest) (k ⇒ l) errors.NoMemory r

-- no more was counted than there was
few_counted : (budget : ℕ) (bytes rest : List ℕ) (k l : Counted) (r : Result (Unit {0}) StreamError)
    → Ran budget bytes rest k l r → l.total ≤ k.total + length bytes
few_counted budget bytes rest k l r (inl ran) =
    let c = ran.stream in
    let all : bytes ≡ c.run.taken ++ rest = cc (c.run.takes.bytes) in
    let total : l.total ≡ k.total + length c.run.written = cc (c.run.gains.bytes) in
    omega (arith, ap length all, length-append c.run.taken rest, c.no_longer)
few_counted budget bytes rest k l r (inr never) =
    omega (arith, ap (λ s. s.total) never.sink_stays)

-- only running out of memory keeps a run from being done
pub only_no_memory : (n budget : ℕ) (bytes rest : List ℕ) (k l : Counted) (r : Result (Unit {0}) StreamError) (error : StreamError) → n ≤ most_frames
    → bytes ≡ made n → budget ≡ length (made n) + 1 → k ≡ record { total = 0; faults = 0 } → Ran budget bytes rest k l r
    → (l.total < last → l.faults ≡ 0) → r ≡ Err error → error ≡ errors.NoMemory
only_no_memory n budget bytes rest k l r error few is enough start ran below failed =
    let len = ap length is in
    let zero : k.total ≡ 0 = rw start refl in
    let none : k.faults ≡ 0 = rw start refl in
    let total : l.total < last = omega (arith, few_counted budget bytes rest k l r ran, made-short n few) in
    let sequence = all_made n in
    complete_of (λ ok. absurd cc) (λ never. cc (never.no_memory)) ran bytes refl
    (record { sequence = rw is (sequence.frames, sequence.spelled); enough = omega arith }) (record {
      source = refl;
      source_below = omega arith;
      sink = below total ∙ sym none;
      sink_below = omega arith;
    })
