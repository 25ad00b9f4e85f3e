-- Statuses of errors, results and runs, distinguished.
use Rattle.std.proofs.Common.{◌≡◌, ◌≢◌, ◌⊎◌, ℕ, ◌<◌, ◌≤◌, List, Result, Ok, Err, arith}
use Rattle.hex.specs.declared.error.FromHexError.{FromHexError}
use Rattle.amqp_types.specs.Levels.{Level}
use Rattle.amqp_stream.specs.declared.errors.StreamError.{StreamError}
use Rattle.amqp_stream.specs.declared.errors.StreamError.TheVariants as errors
use Rattle.amqp_stream.specs.declared.report.RunReport.{RunReport}
use Rattle.amqp_stream.specs.Errors.{stream_error_status, status_of}
use Rattle.amqp_stream.specs.Reports.{unreported}
use Rattle.amqp_stream.specs.Causes.{answer_to}
use Rattle.amqp_in_turn.specs.declared.errors.TurnError.{TurnError}
use Rattle.amqp_in_turn.specs.declared.errors.TurnError.TheVariants as turns
use Rattle.amqp_lines.specs.declared.errors.UndumpError.{UndumpError}
use Rattle.amqp_lines.specs.declared.report.UndumpReport.{UndumpReport}
use Rattle.amqp_program.specs.declared.outcome.Outcome.{Outcome}
use Rattle.amqp_program.specs.Outcomes.{streamed, turned, undumped}
use Rattle.amqp_program.specs.Reports.{report_at, report_of, max_payload}
use Rattle.amqp_program.specs.Runs.{turn_status_of, undump_status_of}

-- ---- errors

-- 23 is the greatest, and that of NotTidy
pub greatest : (e : StreamError) → 23 ≤ stream_error_status e → (stream_error_status e ≡ 23) × (e ≡ errors.NotTidy)
greatest e most = (grind (arith, most), grind (arith, most))

-- ---- results

-- a result with the status 0 is Ok
pub answer_status_zero : (r : Result (Unit {0}) StreamError) → status_of r ≡ 0 → r ≡ Ok tt
answer_status_zero r e = grind arith

-- one with the status 3 is NoMemory
pub answer_status_three : (r : Result (Unit {0}) StreamError) → status_of r ≡ 3 → r ≡ Err errors.NoMemory
answer_status_three r e = grind arith

-- none has the status 2
pub stream_not_two : (r : Result (Unit {0}) StreamError) → status_of r ≢ 2
stream_not_two r e = grind arith

pub turn_not_two : (r : Result (Unit {0}) TurnError) → turn_status_of r ≢ 2
turn_not_two r e = grind arith

pub undump_not_two : (r : Result (Unit {0}) UndumpError) → undump_status_of r ≢ 2
undump_not_two r e = grind arith

-- ---- outcomes of runs

-- a run at level plain ends below 23
pub streamed_below_23 : (answer : Result (Unit {0}) (RunReport StreamError)) (outcome : Outcome)
    → outcome ≡ streamed answer → unreported answer ≢ Err errors.NotTidy → outcome.status < 23
streamed_below_23 answer outcome e other = grind arith

-- where frames have to be in turn, it ends from 23 on with the status of a content fault alone
pub own_statuses : (answer : Result (Unit {0}) (RunReport TurnError)) (outcome : Outcome) → outcome ≡ turned answer
    → unreported answer ≢ Err (turns.Stream errors.NotTidy) → 23 ≤ outcome.status → (outcome.status ≡ 24) ⊎ (outcome.status ≡ 25)
own_statuses answer outcome e other most = grind (arith, most)

-- where lines are read back, with that of BadText alone
pub undump_statuses : (answer : Result (Unit {0}) UndumpReport) (outcome : Outcome) → outcome ≡ undumped answer
    → 23 ≤ outcome.status → outcome.status ≡ 26
undump_statuses answer outcome e most = grind (arith, most)

-- ---- reports on hex texts

-- the report on decoded bytes has the status of the stream over them
pub report_at-status : (level : Level) (bytes : List ℕ) → (report_at level bytes).status ≡ status_of (answer_to level max_payload bytes)
unfolding report_at
report_at-status level bytes = grind arith

-- the status of a report on a hex text is not 2
pub report_status_not_two : (level : Level) (r : Result (List ℕ) FromHexError) → (report_of level r).status ≢ 2
report_status_not_two level r e = grind (arith, stream_not_two, report_at-status)
