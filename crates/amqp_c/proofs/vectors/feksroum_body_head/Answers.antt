-- `feksroum_body_head`: clause `frame`.
use Rattle.std.proofs.Common.{◌++◌, [], ◌∷◌, ap, sym}
use Rattle.amqp_types.specs.Constants.{body_byte, end_byte}
use Rattle.amqp_wire.specs.Canonical.{canon}
use Rattle.amqp_wire.specs.Spelling.{head}
use Rattle.amqp_c.proofs.vectors.feksroum_body_head.Goals as goal

pub returns-then-out-ge7-clause-frame : goal.returns-then-out-ge7-clause-frame
unfolding canon
returns-then-out-ge7-clause-frame c = λ content size. ap (λ n. head body_byte c.args.channel n ++ (content ++ end_byte ∷ [])) (sym size)

pub returns-else-out-ge7-clause-frame : goal.returns-else-out-ge7-clause-frame
unfolding canon
returns-else-out-ge7-clause-frame c = λ content size. ap (λ n. head body_byte c.args.channel n ++ (content ++ end_byte ∷ [])) (sym size)
