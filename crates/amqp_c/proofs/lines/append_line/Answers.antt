-- `append_line`: what it ensures and what calls require.
use Rattle.std.proofs.Common.{refl}
use Rattle.amqp_types.specs.Levels.{plain}
use Rattle.amqp_c.proofs.FrameLines.{no_front, no_line}
use Rattle.amqp_c.proofs.Fronts.{front_few, taken_as}
use Rattle.amqp_c.proofs.lines.append_line.Goals as goal

pub dump_line-requires : goal.dump_line-requires
dump_line-requires c = record { few = front_few c.in-Ok.ensures c.frame_at.ensures c.ranges.max_payload.fits }

pub returns-in-Err : goal.returns-in-Err
returns-in-Err c = no_front c.args.max_payload c.args.bytes.now c.in-Err.error c.in-Err.ensures

pub returns-in-Err-dump_line : goal.returns-in-Err-dump_line
returns-in-Err-dump_line c = no_line c.in-Err-dump_line.error c.in-Ok.ensures c.frame_at.ensures c.in-Err-dump_line.ensures.0

pub returns-in-Ok-dump_line : goal.returns-in-Ok-dump_line
returns-in-Ok-dump_line c =
    let line = c.in-Ok-dump_line.ensures in (line.0, taken_as c.in-Ok.ensures c.frame_at.ensures plain line.0 refl line.1, line.2)
