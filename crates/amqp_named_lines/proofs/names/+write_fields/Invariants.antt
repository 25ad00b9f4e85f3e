-- Each call has one field less.
use Rattle.std.proofs.Common.{length}
use Rattle.amqp_named_lines.proofs.names.+write_fields.Given as goal

abbrev pub decreases-write_fields : goal.decreases-write_fields
decreases-write_fields l = length l.fields.now
