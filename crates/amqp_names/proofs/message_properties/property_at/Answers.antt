-- `property_at`: the element of the table at the place.
use Rattle.std.proofs.Common.{◌∙◌, map}
use Rattle.std.proofs.lemmas.Option.{slice_get-map}
use Rattle.amqp_types.specs.Properties.{properties}
use Rattle.amqp_names.specs.Names.{property_names}
use Rattle.amqp_names.specs.Tables.{field_kind, field_name, property_kind}
use Rattle.amqp_names.proofs.Found.{got_seen}
use Rattle.amqp_names.proofs.message_properties.property_at.Goals as goal

pub returns-clause-name : goal.returns-clause-name
returns-clause-name c =
    got_seen field_name c.properties.result.now property_names c.args.place c.get.result c.copied.result c.properties.ensures.names c.copied.ensures
    c.get.ensures.lookup.0 c.get.ensures.lookup.1

pub returns-clause-kind : goal.returns-clause-kind
returns-clause-kind c =
    got_seen field_kind c.properties.result.now (map property_kind properties)
    c.args.place c.get.result c.copied.result c.properties.ensures.kinds c.copied.ensures
    c.get.ensures.lookup.0 c.get.ensures.lookup.1
    ∙ slice_get-map property_kind properties c.args.place
