-- `size_properties`: what it ensures.
use Rattle.std.proofs.Common.{rules, option_map, arith}
use Rattle.std.proofs.lemmas.Grind.{common_steps}
use Rattle.amqp_types.specs.Slots.{entries_item, table_form}
use Rattle.amqp_types.specs.Properties.{properties, later_properties}
use Rattle.amqp_types.specs.PropertyBytes.{optional_bytes}
use Rattle.amqp_properties.specs.Options.{options}
use Rattle.amqp_properties.proofs.Sizes.{properties_length, size_refused, size_counted}
use Rattle.amqp_properties.proofs.generation.size_properties.Goals as goal

pub returns-in_err-headers : goal.returns-in_err-headers
returns-in_err-headers c =
    let p = c.args.value.now in
    let refused = size_refused p (optional_bytes table_form (option_map entries_item p.headers)) c.in_err-headers.field-0.0 (search rules) in
    record { measured = grind (arith, common_steps); bound = search rules }

pub returns : goal.returns
unfolding properties later_properties
returns c =
    let p = c.args.value.now in
    let sum = properties_length (options p) in
    record {
      measured = size_counted p (optional_bytes table_form (option_map entries_item p.headers)) _ _ (omega (
        arith,
        sum,
        c.size_optional_text.ensures.size,
        c.size_optional_text-2.ensures.size,
        c.size_optional_text-3.ensures.size,
        c.size_optional_text-4.ensures.size,
        c.size_optional_text-5.ensures.size,
        c.size_optional_text-6.ensures.size,
        c.size_optional_text-7.ensures.size,
        c.size_optional_text-8.ensures.size,
        c.size_optional_text-9.ensures.size,
        c.size_optional_text-10.ensures.size,
        c.size_optional_byte.ensures.size,
        c.size_optional_byte-2.ensures.size,
        c.size_optional_time.ensures.size,
      )) (search rules);
      bound = omega (
        arith,
        c.size_optional_text.ensures.bound,
        c.size_optional_text-2.ensures.bound,
        c.size_optional_text-3.ensures.bound,
        c.size_optional_text-4.ensures.bound,
        c.size_optional_text-5.ensures.bound,
        c.size_optional_text-6.ensures.bound,
        c.size_optional_text-7.ensures.bound,
        c.size_optional_text-8.ensures.bound,
        c.size_optional_text-9.ensures.bound,
        c.size_optional_text-10.ensures.bound,
        c.size_optional_byte.ensures.bound,
        c.size_optional_byte-2.ensures.bound,
        c.size_optional_time.ensures.bound,
        c.in_ok-headers.ensures.bound,
      );
    }
