-- The errors of streams whose frames have to be in turn: their names and statuses.
use Rattle.std.specs.Prelude.{ℕ, List, codes, Result, Ok, Err}
use Rattle.amqp_stream.specs.declared.errors.RunError.{RunError}
use Rattle.amqp_stream.specs.declared.errors.RunError.TheVariants as runs
use Rattle.amqp_stream.specs.Errors.{stream_error_name, stream_error_status}
use Rattle.amqp_in_turn.specs.declared.errors.TurnError.{TurnError}
use Rattle.amqp_in_turn.specs.declared.errors.TurnError.TheVariants as errors
use Rattle.amqp_in_turn.specs.declared.errors.Refusal.{Refusal}
use Rattle.amqp_in_turn.specs.declared.errors.Refusal.TheVariants as refusals

-- the name of an error; a stream's error keeps its own
abbrev pub turn_error_name : TurnError → List ℕ
turn_error_name (errors.Stream error) = stream_error_name error
turn_error_name (errors.BadContent fault) = codes "BadContent"
turn_error_name errors.OpenContent = codes "OpenContent"

-- the exit status of a program that ends with the error
abbrev pub turn_error_status : TurnError → ℕ
turn_error_status (errors.Stream error) = stream_error_status error
turn_error_status (errors.BadContent fault) = 24
turn_error_status errors.OpenContent = 25

-- the refusal of a frame, or of the end of input, as one of these
abbrev pub refusal_error : Refusal → TurnError
refusal_error (refusals.BadContent fault) = errors.BadContent fault
refusal_error (refusals.OpenContent channel) = errors.OpenContent

-- the error of a run, as one of these
abbrev pub turn_error : RunError Refusal → TurnError
turn_error (runs.Stream error) = errors.Stream error
turn_error (runs.Refused refusal) = refusal_error refusal

-- the result of a run, with its error as one of these
abbrev pub as_turned : Result (Unit {0}) (RunError Refusal) → Result (Unit {0}) TurnError
as_turned (Ok done) = Ok done
as_turned (Err error) = Err (turn_error error)
