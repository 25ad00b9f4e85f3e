-- `form_size`: clause `used`.
use Rattle.std.proofs.Common.{ap, length}
use Rattle.amqp_types.specs.Numbers.{bytes1, bytes2, bytes4, bytes8}
use Rattle.amqp_canonical.proofs.SlotParts.{number_used, flags_used, text_used, long_used, table_used}
use Rattle.amqp_canonical.proofs.slot_writing.form_size.Goals as goal

pub returns-in-Octet-clause-used : goal.returns-in-Octet-clause-used
returns-in-Octet-clause-used c = rw c.in-Octet.is (number_used bytes1 c.args.i.now)

pub returns-in-Short-clause-used : goal.returns-in-Short-clause-used
returns-in-Short-clause-used c = rw c.in-Short.is (number_used bytes2 c.args.i.now)

pub returns-in-Long-clause-used : goal.returns-in-Long-clause-used
returns-in-Long-clause-used c = rw c.in-Long.is (number_used bytes4 c.args.i.now)

pub returns-in-LongLong-clause-used : goal.returns-in-LongLong-clause-used
returns-in-LongLong-clause-used c = rw c.in-LongLong.is (number_used bytes8 c.args.i.now)

pub returns-in-Flags-clause-used : goal.returns-in-Flags-clause-used
returns-in-Flags-clause-used c = rw c.in-Flags.is (flags_used _ c.args.i.now)

pub returns-in-ShortString-clause-used : goal.returns-in-ShortString-clause-used
returns-in-ShortString-clause-used c = rw c.in-ShortString.is (text_used c.args.i.now _ (ap length c.split_key.ensures.key))

pub returns-in-LongString-clause-used : goal.returns-in-LongString-clause-used
returns-in-LongString-clause-used c = rw c.in-LongString.is (long_used c.args.i.now _ c.long_size.ensures.used)

pub returns-in-Table-clause-used : goal.returns-in-Table-clause-used
returns-in-Table-clause-used c = rw c.in-Table.is (table_used c.args.i.now _ c.long_size-in-Table.ensures.used)
