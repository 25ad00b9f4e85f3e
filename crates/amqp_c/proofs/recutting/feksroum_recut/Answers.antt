-- `feksroum_recut`: clause `cut`.
use Rattle.std.proofs.Common.{◌+◌, ◌==◌, arith, refl}
use Rattle.amqp_c.proofs.BodiesCut.{cut_is}
use Rattle.amqp_c.proofs.recutting.feksroum_recut.Goals as goal

pub returns-clause-cut : goal.returns-clause-cut
returns-clause-cut c = λ less flag front body front_is body_is.
    cut_is c.args.size (c.from.result + c.from-2.result) (c.args.ends == 1) front body
    (record { pieces = c.count_pieces.result; left = c.count_left.result; status = 0 })
    (omega (arith, front_is, body_is, c.from.ensures, c.from-2.ensures)) c.count_pieces.ensures c.count_left.ensures.left refl
