-- `find_method`: the first of the class with this id.
use Rattle.std.proofs.Common.{◌∙◌}
use Rattle.amqp_names.proofs.Found.{method_named, method_row, no_rows}
use Rattle.amqp_names.proofs.methods.find_method.Goals as goal

pub returns-in-Some-clause-names : goal.returns-in-Some-clause-names
returns-in-Some-clause-names c =
    method_named c.args.class_id c.args.method_id c.in-Some.class c.copied.result c.in-Some.ensures.names (c.copied.ensures ∙ c.method_among.ensures)

pub returns-in-Some-clause-kinds : goal.returns-in-Some-clause-kinds
returns-in-Some-clause-kinds c =
    method_row c.args.class_id c.args.method_id c.in-Some.class c.copied.result c.in-Some.ensures.kinds (c.copied.ensures ∙ c.method_among.ensures)

pub returns-in-None-clause-kinds : goal.returns-in-None-clause-kinds
returns-in-None-clause-kinds c = no_rows c.args.class_id c.args.method_id c.in-None.ensures.kinds
