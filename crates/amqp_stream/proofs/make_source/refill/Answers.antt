-- `refill`: clauses `making` and `some`.
use Rattle.amqp_stream.proofs
use proofs.Names.{arith}
use proofs.MadeSizes.{made_frame-some}
use proofs.Giving.{refilled_making}
use proofs.make_source.refill.Goals as goal

pub returns-clause-making : goal.returns-clause-making
returns-clause-making c = refilled_making c.requires c.if-next-frames.false c.put_made-end.ensures

pub returns-clause-some : goal.returns-clause-some
returns-clause-some c = λ _. omega (arith, made_frame-some c.args.next.now)
