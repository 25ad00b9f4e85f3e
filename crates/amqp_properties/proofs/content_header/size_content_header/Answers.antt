-- `size_content_header`: clause `size`.
use Rattle.std.proofs.Common.{◌≡◌, Ok, sym, rules}
use Rattle.amqp_types.specs.PropertyBytes.{properties_size}
use Rattle.amqp_properties.specs.Headers.{header_of}
use Rattle.amqp_properties.proofs.Sizes.{header_counted}
use Rattle.amqp_properties.proofs.content_header.size_content_header.Goals as goal

pub returns-clause-size : goal.returns-clause-size
returns-clause-size c =
    let header = header_of c.args.header.now in
    let found : properties_size header.options ≡ Ok c.in_ok-size_properties.field-0 = search rules in
    sym (header_counted header c.in_ok-size_properties.field-0 found)
