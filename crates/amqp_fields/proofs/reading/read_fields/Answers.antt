-- `read_fields`: clauses `listed` and `bound`.
use Rattle.std.proofs.Common.{arith}
use Rattle.amqp_fields.proofs.Answering.{fields_few, fields_listed}
use Rattle.amqp_fields.proofs.reading.read_fields.Goals as goal

pub returns-then-count-nodes-clause-bound : goal.returns-then-count-nodes-clause-bound
returns-then-count-nodes-clause-bound c = fields_few c.args.frame_type c.args.payload.now c.args.deep

pub returns-clause-bound : goal.returns-clause-bound
returns-clause-bound c = fields_few c.args.frame_type c.args.payload.now c.args.deep

pub returns-clause-listed : goal.returns-clause-listed
returns-clause-listed c =
    let decoded = c.in-Ok.ensures in
    fields_listed _ _ _ _ _ c.in-Ok.decoded.count
    decoded.0.frame c.requires.few decoded.0.is decoded.1 (omega (arith, c.if-count-nodes.false))
