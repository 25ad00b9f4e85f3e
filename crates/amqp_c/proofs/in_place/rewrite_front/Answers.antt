-- `rewrite_front`: what it ensures and what calls require.
use Rattle.std.proofs.Common.{arith}
use Rattle.amqp_types.specs.Levels.{level_of}
use Rattle.amqp_c.proofs.Fronts.{error_as, fits_as, front_few, unscanned}
use Rattle.amqp_c.proofs.InPlace.{rewrite_kept, rewrite_no_room, rewrite_spare}
use Rattle.amqp_c.proofs.in_place.rewrite_front.Goals as goal

pub returns-in-Err : goal.returns-in-Err
returns-in-Err c = unscanned (level_of c.args.profile) c.args.max_payload c.args.bytes.now c.in-Err.error c.in-Err.ensures

pub returns-in-Err-judge_at : goal.returns-in-Err-judge_at
returns-in-Err-judge_at c = error_as c.in-Ok.ensures c.frame_at-raw.ensures c.in-Err-judge_at.ensures.1 c.in-Err-judge_at.ensures.2

pub returns-then-judged : goal.returns-then-judged
returns-then-judged c =
    rewrite_kept c.in-Ok.ensures c.frame_at-raw.ensures (level_of c.args.profile) c.in-Ok-judge_at.ensures c.are_bytes.ensures c.if-judged.true

pub returns-then-spare-layout : goal.returns-then-spare-layout
returns-then-spare-layout c =
    rewrite_no_room c.in-Ok.ensures c.frame_at-raw.ensures (level_of c.args.profile) c.in-Ok-judge_at.ensures c.are_bytes.ensures
    c.if-judged.false c.if-spare-layout.true

pub put_frame-requires-clause-few : goal.put_frame-requires-clause-few
put_frame-requires-clause-few c = front_few c.in-Ok.ensures c.frame_at-raw.ensures c.ranges.max_payload.fits

pub put_frame-requires-clause-room : goal.put_frame-requires-clause-room
put_frame-requires-clause-room c = omega (arith, fits_as c.in-Ok.ensures c.frame_at-raw.ensures, c.if-spare-layout.false)

pub returns : goal.returns
returns c =
    rewrite_spare c.in-Ok.ensures c.frame_at-raw.ensures (level_of c.args.profile) c.in-Ok-judge_at.ensures c.if-spare-layout.false
    c.put_frame.ensures.puts c.put_frame.ensures.within
