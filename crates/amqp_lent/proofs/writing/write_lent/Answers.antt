-- `write_lent`: what it ensures.
use Rattle.std.proofs.Common.{◌≡◌, length, Ok, refl, sym, ap, arith}
use Rattle.amqp_wire.specs.Canonical.{canon}
use Rattle.amqp_lent.proofs.writing.write_lent.Goals as goal

pub returns-then-size-buf : goal.returns-then-size-buf
returns-then-size-buf c = λ read stands. (refl, omega (arith, c.lent_size-size.ensures read stands), refl)

pub returns : goal.returns
returns c = λ read stands.
    let put = c.put_lent.ensures read stands in
    let many : c.put_lent.result ≡ length (canon read) = omega (arith, put.behind) in
    (ap Ok (sym many), many, put.put (omega (arith, c.lent_size-size.ensures read stands)))
