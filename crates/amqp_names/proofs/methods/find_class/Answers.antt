-- `find_class`: the first of the table with this id.
use Rattle.std.proofs.Common.{◌∙◌}
use Rattle.amqp_names.proofs.Found.{class_named, class_rows}
use Rattle.amqp_names.proofs.methods.find_class.Goals as goal

pub returns-clause-names : goal.returns-clause-names
returns-clause-names c = class_named c.args.class_id c.classes.result.now c.copied.result c.classes.ensures.names (c.copied.ensures ∙ c.class_among.ensures)

pub returns-clause-kinds : goal.returns-clause-kinds
returns-clause-kinds c = class_rows c.args.class_id c.classes.result.now c.copied.result c.classes.ensures.kinds (c.copied.ensures ∙ c.class_among.ensures)
