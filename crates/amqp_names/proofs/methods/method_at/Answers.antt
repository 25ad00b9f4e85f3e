-- `method_at`: the method of the whole table, of which none has more than 8 fields.
use Rattle.std.proofs.Common.{◌∙◌, ap, slice_get}
use Rattle.std.specs.List.{flat_map}
use Rattle.amqp_names.specs.Tables.{kinds_of, methods_of}
use Rattle.amqp_names.proofs.Found.{few_found}
use Rattle.amqp_names.proofs.methods.method_at.Goals as goal

pub returns-clause-names : goal.returns-clause-names
returns-clause-names c = c.counted.ensures.names ∙ ap (λ names. slice_get (flat_map methods_of names) c.args.k) c.classes.ensures.names

pub returns-clause-kinds : goal.returns-clause-kinds
returns-clause-kinds c = c.counted.ensures.kinds ∙ ap (λ kinds. slice_get (flat_map kinds_of kinds) c.args.k) c.classes.ensures.kinds

pub returns-clause-few : goal.returns-clause-few
returns-clause-few c = few_found c.counted.result c.args.k (returns-clause-names c)
