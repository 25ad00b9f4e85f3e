-- `canonical_values_are_strict`: clauses `values`, `arrays` and `tables`.
use Rattle.amqp_canonical.proofs.Strict.{value_strict, array_strict, table_strict}
use Rattle.amqp_canonical.proofs.laws.canonical_values_are_strict.Goals as goal

pub returns-clause-values : goal.returns-clause-values
returns-clause-values c = value_strict

pub returns-clause-arrays : goal.returns-clause-arrays
returns-clause-arrays c = array_strict

pub returns-clause-tables : goal.returns-clause-tables
returns-clause-tables c = table_strict
