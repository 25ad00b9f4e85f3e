-- Outcomes of runs: the place that belongs to a status.
use Rattle.std.specs.Prelude.{◌≡◌, ◌⊎◌, ℕ, Option, Some, None, Result, Ok, Err}
use Rattle.amqp_stream.specs.declared.errors.StreamError.{StreamError}
use Rattle.amqp_stream.specs.declared.report.RunReport.{RunReport}
use Rattle.amqp_stream.specs.Errors.{status_of}
use Rattle.amqp_stream.specs.Reports.{IsAtStart, unreported}
use Rattle.amqp_in_turn.specs.declared.errors.TurnError.{TurnError}
use Rattle.amqp_lines.specs.declared.errors.UndumpError.{UndumpError}
use Rattle.amqp_lines.specs.declared.report.UndumpReport.{UndumpReport}
use Rattle.amqp_lines.specs.UndumpReports.{unreported_lines}
use Rattle.amqp_program.specs.declared.outcome.Place.{Place}
use Rattle.amqp_program.specs.declared.outcome.Place.TheVariants as places
use Rattle.amqp_program.specs.declared.outcome.Outcome.{Outcome}
use Rattle.amqp_program.specs.Runs.{turn_status_of, undump_status_of}

-- the place in the input where a stream ended, unless it ended well
abbrev pub place_of : {E : Type 0} → Result (Unit {0}) (RunReport E) → Option Place
place_of (Ok done) = None
place_of (Err report) = Some (places.Input report.place report.channel)

-- the outcome of a stream: the status of its error, and its place in the input
abbrev pub streamed : Result (Unit {0}) (RunReport StreamError) → Outcome
streamed answer = record { status = status_of (unreported answer); place = place_of answer }

-- the same of a stream whose frames have to be in turn
abbrev pub turned : Result (Unit {0}) (RunReport TurnError) → Outcome
turned answer = record { status = turn_status_of (unreported answer); place = place_of answer }

-- the line in the text where reading lines back ended, unless it ended well
abbrev pub line_of : Result (Unit {0}) UndumpReport → Option Place
line_of (Ok done) = None
line_of (Err report) = Some (places.Line report.line report.place)

-- the same where lines are read back: the line in the text
abbrev pub undumped : Result (Unit {0}) UndumpReport → Outcome
undumped answer = record {
  status = undump_status_of (unreported_lines answer);
  place = line_of answer;
}

-- memory ran out before anything was read
abbrev pub out_of_memory : Outcome
out_of_memory = record { status = 3; place = Some (places.Input 0 None) }

-- The place in the input that a report of the result's error has. A run that ended well has none.
abbrev pub IsPlaceBy : {E : Type 0} → (RunReport E → Type 0)
    → Result (Unit {0}) E → Option Place → Type 0
IsPlaceBy IsReport (Ok done) None = Unit {0}
IsPlaceBy IsReport (Err error) (Some (places.Input at channel)) =
    IsReport (record { error = error; place = at; channel = channel })
IsPlaceBy IsReport answer place = ⊥

-- the line in the text that a report of the result's error has
abbrev pub IsLineBy : (UndumpReport → Type 0)
    → Result (Unit {0}) UndumpError → Option Place → Type 0
IsLineBy IsReport (Ok done) None = Unit {0}
IsLineBy IsReport (Err error) (Some (places.Line number at)) =
    IsReport (record { error = error; line = number; place = at })
IsLineBy IsReport answer place = ⊥

-- a report that is so, or memory ran out before anything was read
abbrev pub OrAtStart : {E : Type 0} → E → (RunReport E → Type 0) → RunReport E → Type 0
OrAtStart no_memory IsReport report =
    IsReport report ⊎ ((report.error ≡ no_memory) × IsAtStart report)

-- A run that ended with this outcome: what it does, by its status, and the place that
-- belongs to that run.
pub record Reports (Runs : ℕ → Type 0)
    (IsPlace : (status : ℕ) → Runs status → Option Place → Type 0)
    (outcome : Outcome) : Type 0 where
  pub run : Runs outcome.status
  pub place : IsPlace outcome.status run outcome.place
