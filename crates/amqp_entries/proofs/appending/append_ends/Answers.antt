-- A key, and the value after it.
use Rattle.amqp_types.specs.Strings.{short_string_bytes}
use Rattle.amqp_types.specs.ValueBytes.{tagged_bytes}
use Rattle.amqp_types.proofs.Puts.{puts_then}
use Rattle.amqp_entries.specs.Flaws.{text_flaw}
use Rattle.amqp_entries.proofs.Room.{entry_fits, entry_room}
use Rattle.amqp_entries.proofs.appending.append_ends.Goals as goal

pub returns-clause-appends : goal.returns-clause-appends
returns-clause-appends g c =
    let key = c.args.key.now in
    let value = g.V.ToValue.value c.args.value.now in
    let flaw = g.V.ToValue.flaw c.args.value.now in
    let fits = c.has_room.ensures.0 c.if-not-has_room.false in (
      entry_fits (text_flaw key) flaw (short_string_bytes key) (tagged_bytes value) _ _ _ _ c.short_key_size-key_size.ensures.size c.in_ok-size.ensures.size
          fits,
      puts_then _ _ _ _ _ _ _ _ (entry_room (text_flaw key) flaw (short_string_bytes key) (tagged_bytes value) _ _ _ _ c.short_key_size-key_size.ensures.size
          c.in_ok-size.ensures.size fits) c.put_text_ends-place.ensures c.put.ensures,
    )
