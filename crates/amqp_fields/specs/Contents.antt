-- What reading the content of a table or an array returns, where it stands alone.
use Rattle.std.specs.Prelude.{ℕ, List, Result}
use Rattle.amqp_types.specs.Judging.{Fault}
use Rattle.amqp_types.specs.Answers.{RefusesWhole}
use Rattle.amqp_types.specs.ValueJudging.{filled, judge_entry, judge_value}
use Rattle.amqp_types.specs.Constants.{inner_depth}
use Rattle.amqp_types.specs.Values.{Entry, FieldValue}
use Rattle.amqp_canonical.specs.Judgements.{MayRefuse}
use Rattle.amqp_canonical.specs.Writes.{IsFilled}
use Rattle.amqp_fields.specs.declared.node.Node.{Node}
use Rattle.amqp_fields.specs.declared.reading.FieldsError.{FieldsError}
use Rattle.amqp_fields.specs.declared.reading.FieldsError.TheVariants as errors
use Rattle.amqp_fields.specs.Reading.{NeedsMore}

-- the entries that fill a table, in whose values tables and arrays may nest 63 deep
abbrev pub entries_in : List ℕ → Result (List Entry) Fault
entries_in content = filled (judge_entry (judge_value inner_depth)) 0 content

-- the values that fill an array
abbrev pub values_in : List ℕ → Result (List FieldValue) Fault
values_in content = filled (judge_value inner_depth) 0 content

-- the fault of the content, or a list that is too short for its nodes
abbrev pub RefusesContent : {A : Type 0} → Result (List A) Fault
    → List Node → ℕ → FieldsError → Type 0
RefusesContent read nodes room (errors.Payload error) = MayRefuse error × RefusesWhole error read
RefusesContent read nodes room (errors.TooFew needed) = IsFilled read × NeedsMore nodes room needed
