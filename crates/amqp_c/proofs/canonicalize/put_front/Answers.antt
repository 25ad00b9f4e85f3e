-- `put_front`: what it ensures and what calls require.
use Rattle.std.proofs.Common.{arith, refl}
use Rattle.amqp_types.specs.Levels.{level_of}
use Rattle.amqp_c.proofs.Fronts.{error_as, fits_as, front_few, taken_as, unscanned}
use Rattle.amqp_c.proofs.canonicalize.put_front.Goals as goal

pub put_at_level-requires-clause-few : goal.put_at_level-requires-clause-few
put_at_level-requires-clause-few c = front_few c.in-Ok.ensures c.frame_at.ensures c.ranges.max_payload.fits

pub put_at_level-requires-clause-room : goal.put_at_level-requires-clause-room
put_at_level-requires-clause-room c = omega (arith, fits_as c.in-Ok.ensures c.frame_at.ensures, c.in-Ok.ensures.inside, c.requires.room)

pub returns-in-Err : goal.returns-in-Err
returns-in-Err c = (unscanned (level_of c.args.profile) c.args.max_payload c.args.bytes.now c.in-Err.error c.in-Err.ensures, refl)

pub returns-in-Err-put_at_level : goal.returns-in-Err-put_at_level
returns-in-Err-put_at_level c =
    let puts = c.in-Err-put_at_level.ensures.puts in (error_as c.in-Ok.ensures c.frame_at.ensures puts.1 puts.2, puts.3)

pub returns-in-Ok-put_at_level : goal.returns-in-Ok-put_at_level
returns-in-Ok-put_at_level c =
    let puts = c.in-Ok-put_at_level.ensures.puts in
    record {
      frame = puts.0;
      found = taken_as c.in-Ok.ensures c.frame_at.ensures (level_of c.args.profile) puts.0 puts.2 puts.1;
      put = puts.3;
      no_longer = omega (arith, c.in-Ok-put_at_level.ensures.within, fits_as c.in-Ok.ensures c.frame_at.ensures);
    }
