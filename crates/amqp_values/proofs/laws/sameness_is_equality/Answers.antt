-- `sameness_is_equality`: clauses `values`, `arrays` and `tables`.
use Rattle.amqp_values.specs.Sameness.{same_value-decides, same_items-decides, same_entries-decides}
use Rattle.amqp_values.proofs.laws.sameness_is_equality.Goals as goal

pub returns-clause-values : goal.returns-clause-values
returns-clause-values c = same_value-decides

pub returns-clause-arrays : goal.returns-clause-arrays
returns-clause-arrays c = same_items-decides

pub returns-clause-tables : goal.returns-clause-tables
returns-clause-tables c = same_entries-decides
