-- What laws say of names.
use Rattle.std.specs.Prelude.{◌≡◌, Some, option_map}
use Rattle.amqp_protocol.specs.Classes.{class_name, method_of}
use Rattle.amqp_protocol.specs.declared.class.AMQPClass.{AMQPClass}
use Rattle.amqp_names.specs.Tables.{class_at}

-- the name of a typed method's class is the one that the table of names has for the class's id
abbrev pub ClassesAreNamed : Type 0
ClassesAreNamed =
    (m : AMQPClass)
    → option_map (λ c. c.name) (class_at (method_of m).class) ≡ Some (class_name m)
