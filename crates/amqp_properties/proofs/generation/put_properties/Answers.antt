-- `put_properties`: what calls require, and what it ensures.
use Rattle.std.proofs.Common.{arith}
use Rattle.std.proofs.lemmas.Grind.{common_steps}
use Rattle.amqp_types.specs.Properties.{properties, later_properties}
use Rattle.amqp_types.specs.PropertyBytes.{properties_bytes}
use Rattle.amqp_types.specs.SlotBytes.{form_bytes}
use Rattle.amqp_properties.proofs.Chained.{masked, room, next, ends, headers_fit}
use Rattle.amqp_properties.proofs.generation.put_properties.Goals as goal

pub put_short_uint-mask-requires : goal.put_short_uint-mask-requires
unfolding properties_bytes form_bytes
put_short_uint-mask-requires c = record { room = grind (arith, common_steps) }

pub put_optional_text-type_end-requires : goal.put_optional_text-type_end-requires
unfolding properties later_properties
put_optional_text-type_end-requires c =
    let fits = c.requires.room in
    let p0 = masked c.args.value.now c.args.buf.now c.put_short_uint-mask.new.buf c.args.at c.put_short_uint-mask.result c.bitmask.result fits
    c.bitmask.ensures c.put_short_uint-mask.ensures in
    record { room = room fits p0 }

pub put_optional_text-encoding-requires : goal.put_optional_text-encoding-requires
unfolding properties later_properties
put_optional_text-encoding-requires c =
    let fits = c.requires.room in
    let p0 = masked c.args.value.now c.args.buf.now c.put_short_uint-mask.new.buf c.args.at c.put_short_uint-mask.result c.bitmask.result fits
    c.bitmask.ensures c.put_short_uint-mask.ensures in
    let p1 = next fits p0 c.put_optional_text-type_end.ensures in
    record { room = room fits p1 }

pub put_optional_table-headers-requires-clause-shallow : goal.put_optional_table-headers-requires-clause-shallow
put_optional_table-headers-requires-clause-shallow c = (headers_fit c.args.value.now c.requires.fits).0

pub put_optional_table-headers-requires-clause-short : goal.put_optional_table-headers-requires-clause-short
put_optional_table-headers-requires-clause-short c = (headers_fit c.args.value.now c.requires.fits).1

pub put_optional_table-headers-requires-clause-room : goal.put_optional_table-headers-requires-clause-room
unfolding properties later_properties
put_optional_table-headers-requires-clause-room c =
    let fits = c.requires.room in
    let p0 = masked c.args.value.now c.args.buf.now c.put_short_uint-mask.new.buf c.args.at c.put_short_uint-mask.result c.bitmask.result fits
    c.bitmask.ensures c.put_short_uint-mask.ensures in
    let p1 = next fits p0 c.put_optional_text-type_end.ensures in
    let p2 = next fits p1 c.put_optional_text-encoding.ensures in
    room fits p2

pub put_optional_byte-mode-requires : goal.put_optional_byte-mode-requires
unfolding properties later_properties
put_optional_byte-mode-requires c =
    let fits = c.requires.room in
    let p0 = masked c.args.value.now c.args.buf.now c.put_short_uint-mask.new.buf c.args.at c.put_short_uint-mask.result c.bitmask.result fits
    c.bitmask.ensures c.put_short_uint-mask.ensures in
    let p1 = next fits p0 c.put_optional_text-type_end.ensures in
    let p2 = next fits p1 c.put_optional_text-encoding.ensures in
    let p3 = next fits p2 c.put_optional_table-headers.ensures in
    record { room = room fits p3 }

pub put_optional_byte-priority-requires : goal.put_optional_byte-priority-requires
unfolding properties later_properties
put_optional_byte-priority-requires c =
    let fits = c.requires.room in
    let p0 = masked c.args.value.now c.args.buf.now c.put_short_uint-mask.new.buf c.args.at c.put_short_uint-mask.result c.bitmask.result fits
    c.bitmask.ensures c.put_short_uint-mask.ensures in
    let p1 = next fits p0 c.put_optional_text-type_end.ensures in
    let p2 = next fits p1 c.put_optional_text-encoding.ensures in
    let p3 = next fits p2 c.put_optional_table-headers.ensures in
    let p4 = next fits p3 c.put_optional_byte-mode.ensures in
    record { room = room fits p4 }

pub put_optional_text-correlation-requires : goal.put_optional_text-correlation-requires
unfolding properties later_properties
put_optional_text-correlation-requires c =
    let fits = c.requires.room in
    let p0 = masked c.args.value.now c.args.buf.now c.put_short_uint-mask.new.buf c.args.at c.put_short_uint-mask.result c.bitmask.result fits
    c.bitmask.ensures c.put_short_uint-mask.ensures in
    let p1 = next fits p0 c.put_optional_text-type_end.ensures in
    let p2 = next fits p1 c.put_optional_text-encoding.ensures in
    let p3 = next fits p2 c.put_optional_table-headers.ensures in
    let p4 = next fits p3 c.put_optional_byte-mode.ensures in
    let p5 = next fits p4 c.put_optional_byte-priority.ensures in
    record { room = room fits p5 }

pub put_optional_text-reply-requires : goal.put_optional_text-reply-requires
unfolding properties later_properties
put_optional_text-reply-requires c =
    let fits = c.requires.room in
    let p0 = masked c.args.value.now c.args.buf.now c.put_short_uint-mask.new.buf c.args.at c.put_short_uint-mask.result c.bitmask.result fits
    c.bitmask.ensures c.put_short_uint-mask.ensures in
    let p1 = next fits p0 c.put_optional_text-type_end.ensures in
    let p2 = next fits p1 c.put_optional_text-encoding.ensures in
    let p3 = next fits p2 c.put_optional_table-headers.ensures in
    let p4 = next fits p3 c.put_optional_byte-mode.ensures in
    let p5 = next fits p4 c.put_optional_byte-priority.ensures in
    let p6 = next fits p5 c.put_optional_text-correlation.ensures in
    record { room = room fits p6 }

pub put_optional_text-expiration-requires : goal.put_optional_text-expiration-requires
unfolding properties later_properties
put_optional_text-expiration-requires c =
    let fits = c.requires.room in
    let p0 = masked c.args.value.now c.args.buf.now c.put_short_uint-mask.new.buf c.args.at c.put_short_uint-mask.result c.bitmask.result fits
    c.bitmask.ensures c.put_short_uint-mask.ensures in
    let p1 = next fits p0 c.put_optional_text-type_end.ensures in
    let p2 = next fits p1 c.put_optional_text-encoding.ensures in
    let p3 = next fits p2 c.put_optional_table-headers.ensures in
    let p4 = next fits p3 c.put_optional_byte-mode.ensures in
    let p5 = next fits p4 c.put_optional_byte-priority.ensures in
    let p6 = next fits p5 c.put_optional_text-correlation.ensures in
    let p7 = next fits p6 c.put_optional_text-reply.ensures in
    record { room = room fits p7 }

pub put_optional_text-message-requires : goal.put_optional_text-message-requires
unfolding properties later_properties
put_optional_text-message-requires c =
    let fits = c.requires.room in
    let p0 = masked c.args.value.now c.args.buf.now c.put_short_uint-mask.new.buf c.args.at c.put_short_uint-mask.result c.bitmask.result fits
    c.bitmask.ensures c.put_short_uint-mask.ensures in
    let p1 = next fits p0 c.put_optional_text-type_end.ensures in
    let p2 = next fits p1 c.put_optional_text-encoding.ensures in
    let p3 = next fits p2 c.put_optional_table-headers.ensures in
    let p4 = next fits p3 c.put_optional_byte-mode.ensures in
    let p5 = next fits p4 c.put_optional_byte-priority.ensures in
    let p6 = next fits p5 c.put_optional_text-correlation.ensures in
    let p7 = next fits p6 c.put_optional_text-reply.ensures in
    let p8 = next fits p7 c.put_optional_text-expiration.ensures in
    record { room = room fits p8 }

pub put_optional_time-time-requires : goal.put_optional_time-time-requires
unfolding properties later_properties
put_optional_time-time-requires c =
    let fits = c.requires.room in
    let p0 = masked c.args.value.now c.args.buf.now c.put_short_uint-mask.new.buf c.args.at c.put_short_uint-mask.result c.bitmask.result fits
    c.bitmask.ensures c.put_short_uint-mask.ensures in
    let p1 = next fits p0 c.put_optional_text-type_end.ensures in
    let p2 = next fits p1 c.put_optional_text-encoding.ensures in
    let p3 = next fits p2 c.put_optional_table-headers.ensures in
    let p4 = next fits p3 c.put_optional_byte-mode.ensures in
    let p5 = next fits p4 c.put_optional_byte-priority.ensures in
    let p6 = next fits p5 c.put_optional_text-correlation.ensures in
    let p7 = next fits p6 c.put_optional_text-reply.ensures in
    let p8 = next fits p7 c.put_optional_text-expiration.ensures in
    let p9 = next fits p8 c.put_optional_text-message.ensures in
    record { room = room fits p9 }

pub put_optional_text-kind-requires : goal.put_optional_text-kind-requires
unfolding properties later_properties
put_optional_text-kind-requires c =
    let fits = c.requires.room in
    let p0 = masked c.args.value.now c.args.buf.now c.put_short_uint-mask.new.buf c.args.at c.put_short_uint-mask.result c.bitmask.result fits
    c.bitmask.ensures c.put_short_uint-mask.ensures in
    let p1 = next fits p0 c.put_optional_text-type_end.ensures in
    let p2 = next fits p1 c.put_optional_text-encoding.ensures in
    let p3 = next fits p2 c.put_optional_table-headers.ensures in
    let p4 = next fits p3 c.put_optional_byte-mode.ensures in
    let p5 = next fits p4 c.put_optional_byte-priority.ensures in
    let p6 = next fits p5 c.put_optional_text-correlation.ensures in
    let p7 = next fits p6 c.put_optional_text-reply.ensures in
    let p8 = next fits p7 c.put_optional_text-expiration.ensures in
    let p9 = next fits p8 c.put_optional_text-message.ensures in
    let p10 = next fits p9 c.put_optional_time-time.ensures in
    record { room = room fits p10 }

pub put_optional_text-user-requires : goal.put_optional_text-user-requires
unfolding properties later_properties
put_optional_text-user-requires c =
    let fits = c.requires.room in
    let p0 = masked c.args.value.now c.args.buf.now c.put_short_uint-mask.new.buf c.args.at c.put_short_uint-mask.result c.bitmask.result fits
    c.bitmask.ensures c.put_short_uint-mask.ensures in
    let p1 = next fits p0 c.put_optional_text-type_end.ensures in
    let p2 = next fits p1 c.put_optional_text-encoding.ensures in
    let p3 = next fits p2 c.put_optional_table-headers.ensures in
    let p4 = next fits p3 c.put_optional_byte-mode.ensures in
    let p5 = next fits p4 c.put_optional_byte-priority.ensures in
    let p6 = next fits p5 c.put_optional_text-correlation.ensures in
    let p7 = next fits p6 c.put_optional_text-reply.ensures in
    let p8 = next fits p7 c.put_optional_text-expiration.ensures in
    let p9 = next fits p8 c.put_optional_text-message.ensures in
    let p10 = next fits p9 c.put_optional_time-time.ensures in
    let p11 = next fits p10 c.put_optional_text-kind.ensures in
    record { room = room fits p11 }

pub put_optional_text-app-requires : goal.put_optional_text-app-requires
unfolding properties later_properties
put_optional_text-app-requires c =
    let fits = c.requires.room in
    let p0 = masked c.args.value.now c.args.buf.now c.put_short_uint-mask.new.buf c.args.at c.put_short_uint-mask.result c.bitmask.result fits
    c.bitmask.ensures c.put_short_uint-mask.ensures in
    let p1 = next fits p0 c.put_optional_text-type_end.ensures in
    let p2 = next fits p1 c.put_optional_text-encoding.ensures in
    let p3 = next fits p2 c.put_optional_table-headers.ensures in
    let p4 = next fits p3 c.put_optional_byte-mode.ensures in
    let p5 = next fits p4 c.put_optional_byte-priority.ensures in
    let p6 = next fits p5 c.put_optional_text-correlation.ensures in
    let p7 = next fits p6 c.put_optional_text-reply.ensures in
    let p8 = next fits p7 c.put_optional_text-expiration.ensures in
    let p9 = next fits p8 c.put_optional_text-message.ensures in
    let p10 = next fits p9 c.put_optional_time-time.ensures in
    let p11 = next fits p10 c.put_optional_text-kind.ensures in
    let p12 = next fits p11 c.put_optional_text-user.ensures in
    record { room = room fits p12 }

pub put_optional_text-requires : goal.put_optional_text-requires
unfolding properties later_properties
put_optional_text-requires c =
    let fits = c.requires.room in
    let p0 = masked c.args.value.now c.args.buf.now c.put_short_uint-mask.new.buf c.args.at c.put_short_uint-mask.result c.bitmask.result fits
    c.bitmask.ensures c.put_short_uint-mask.ensures in
    let p1 = next fits p0 c.put_optional_text-type_end.ensures in
    let p2 = next fits p1 c.put_optional_text-encoding.ensures in
    let p3 = next fits p2 c.put_optional_table-headers.ensures in
    let p4 = next fits p3 c.put_optional_byte-mode.ensures in
    let p5 = next fits p4 c.put_optional_byte-priority.ensures in
    let p6 = next fits p5 c.put_optional_text-correlation.ensures in
    let p7 = next fits p6 c.put_optional_text-reply.ensures in
    let p8 = next fits p7 c.put_optional_text-expiration.ensures in
    let p9 = next fits p8 c.put_optional_text-message.ensures in
    let p10 = next fits p9 c.put_optional_time-time.ensures in
    let p11 = next fits p10 c.put_optional_text-kind.ensures in
    let p12 = next fits p11 c.put_optional_text-user.ensures in
    let p13 = next fits p12 c.put_optional_text-app.ensures in
    record { room = room fits p13 }

pub returns : goal.returns
unfolding properties later_properties
returns c =
    let fits = c.requires.room in
    let p0 = masked c.args.value.now c.args.buf.now c.put_short_uint-mask.new.buf c.args.at c.put_short_uint-mask.result c.bitmask.result fits
    c.bitmask.ensures c.put_short_uint-mask.ensures in
    let p1 = next fits p0 c.put_optional_text-type_end.ensures in
    let p2 = next fits p1 c.put_optional_text-encoding.ensures in
    let p3 = next fits p2 c.put_optional_table-headers.ensures in
    let p4 = next fits p3 c.put_optional_byte-mode.ensures in
    let p5 = next fits p4 c.put_optional_byte-priority.ensures in
    let p6 = next fits p5 c.put_optional_text-correlation.ensures in
    let p7 = next fits p6 c.put_optional_text-reply.ensures in
    let p8 = next fits p7 c.put_optional_text-expiration.ensures in
    let p9 = next fits p8 c.put_optional_text-message.ensures in
    let p10 = next fits p9 c.put_optional_time-time.ensures in
    let p11 = next fits p10 c.put_optional_text-kind.ensures in
    let p12 = next fits p11 c.put_optional_text-user.ensures in
    let p13 = next fits p12 c.put_optional_text-app.ensures in
    let p14 = next fits p13 c.put_optional_text.ensures in
    ends p14
