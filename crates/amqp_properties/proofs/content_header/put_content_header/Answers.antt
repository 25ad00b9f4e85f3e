-- `put_content_header`: what it ensures.
use Rattle.std.proofs.Common.{ℕ, List, subst}
use Rattle.amqp_types.specs.Writing.{Puts}
use Rattle.amqp_types.specs.SlotBytes.{slots_bytes}
use Rattle.amqp_types.specs.PropertyBytes.{properties_bytes}
use Rattle.amqp_types.specs.ContentHeaders.{header_slots, header_items, content_header_bytes}
use Rattle.amqp_types.proofs.Puts.{puts_then}
use Rattle.amqp_properties.specs.Headers.{header_of}
use Rattle.amqp_properties.proofs.content_header.put_content_header.Goals as goal

pub returns : goal.returns
unfolding content_header_bytes
returns c =
    let header = header_of c.args.header.now in
    let first =
    subst (λ (bytes : List ℕ). Puts c.args.buf.now c.put_bytes-at.new.buf c.args.at bytes c.put_bytes-at.result)
    c.header_start.ensures c.put_bytes-at.ensures in
    puts_then _ _ _ _ _ _ (slots_bytes header_slots (header_items header)) (properties_bytes header.options) c.requires.room first c.put_properties.ensures
