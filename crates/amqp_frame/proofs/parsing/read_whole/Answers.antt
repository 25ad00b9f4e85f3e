-- `read_whole`: clauses `inside` and `within`.
use Rattle.std.proofs.Common.{arith}
use Rattle.amqp_frame.proofs.Within.{payload_within, payload_error}
use Rattle.amqp_frame.proofs.parsing.read_whole.Goals as goal

pub returns-clause-inside : goal.returns-clause-inside
returns-clause-inside c = payload_error c.args.frame_type c.args.channel_id c.args.payload.now _ c.read_as.ensures.whole

pub returns-clause-within : goal.returns-clause-within
returns-clause-within c = λ few.
    payload_within c.args.frame_type c.args.channel_id c.args.payload.now _
    (omega (arith, c.ranges.channel_id.fits)) (λ i. omega (arith, c.type_inv.payload i)) few c.read_as.ensures.whole
