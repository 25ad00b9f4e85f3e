-- `read_count`: what calls require.
use Rattle.std.proofs.Common.{subst, sym, ap, take, ◌∙◌, arith}
use Rattle.std.specs.Char.{is_ascii_digit}
use Rattle.std.specs.Str.Parse.{AllDigits}
use Rattle.std.proofs.lemmas.List.Sums.{prefix_len-le-length}
use Rattle.amqp_select.proofs.Numerals.{front_digits}
use Rattle.amqp_select.proofs.parsing.read_count.Goals as goal

pub split_at-requires : goal.split_at-requires
split_at-requires c = omega (arith, c.count_digits.ensures, prefix_len-le-length is_ascii_digit c.args.bytes.now)

pub number_of-requires : goal.number_of-requires
number_of-requires c =
    let front = ap (λ n. take n c.args.bytes.now) (sym c.count_digits.ensures) ∙ sym c.split_at.ensures.front in
    subst (AllDigits 10) front (front_digits c.args.bytes.now)
