-- `properties_fields`: clauses `lists` and `held`.
use Rattle.std.proofs.Common.{rules}
use Rattle.amqp_types.specs.Properties.{properties, later_properties}
use Rattle.amqp_types.specs.PropertyBytes.{set_bytes, properties_bytes, properties_size, any_deep_option, any_long_option}
use Rattle.amqp_values.specs.Fields.{field_bytes, is_deep_field, is_long_field, fields_bytes, any_deep_field, any_long_field, fields_size}
use Rattle.amqp_properties.proofs.Holding.{options_held}
use Rattle.amqp_properties.proofs.generation.properties_fields.Goals as goal

pub returns-clause-lists : goal.returns-clause-lists
unfolding fields_bytes fields_size any_deep_field any_long_field field_bytes is_deep_field is_long_field
    properties later_properties set_bytes properties_bytes properties_size any_deep_option any_long_option
returns-clause-lists c = record { few = search rules; spelled = cc; sized = cc }

pub returns-clause-held : goal.returns-clause-held
returns-clause-held c = λ h.
    options_held c.args.p.now (c.field_short_string.ensures.held h.1.0) (c.field_short_string-2.ensures.held h.1.1.0)
    (c.field_table.ensures.held h.1.1.1.0) (c.field_short_short_uint.ensures.held h.1.1.1.1.0) (c.field_short_short_uint-2.ensures.held h.1.1.1.1.1.0)
    (c.field_short_string-3.ensures.held h.1.1.1.1.1.1.0) (c.field_short_string-4.ensures.held h.1.1.1.1.1.1.1.0)
    (c.field_short_string-5.ensures.held h.1.1.1.1.1.1.1.1.0) (c.field_short_string-6.ensures.held h.1.1.1.1.1.1.1.1.1.0)
    (c.field_long_long_uint.ensures.held h.1.1.1.1.1.1.1.1.1.1.0)
    (c.field_short_string-7.ensures.held h.1.1.1.1.1.1.1.1.1.1.1.0) (c.field_short_string-8.ensures.held h.1.1.1.1.1.1.1.1.1.1.1.1.0)
    (c.field_short_string-9.ensures.held h.1.1.1.1.1.1.1.1.1.1.1.1.1.0) (c.field_short_string-10.ensures.held h.1.1.1.1.1.1.1.1.1.1.1.1.1.1.0)
