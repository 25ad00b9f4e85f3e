-- `sixteens_are_ascii`: bytes whose first and last ones are ASCII.
use Rattle.std.proofs.Common.{ℕ, List, length, take, drop, ◌-◌, subst}
use Rattle.std.proofs.lemmas.List.{take_rest}
use Rattle.std.specs.Str.{IsAscii}
use Rattle.amqp_canonical.proofs.AsciiEnds.{ascii_ends}
use Rattle.amqp_canonical.proofs.ascii.sixteens_are_ascii.Goals as goal

pub returns-then-eights_are_ascii : goal.returns-then-eights_are_ascii
returns-then-eights_are_ascii c = λ test.
    let bytes = c.args.bytes.now in
    let P : List ℕ → Type 0 = λ bs. IsAscii bs in
    let first : IsAscii (take 16 bytes) = c.eights_are_ascii.ensures c.if-eights_are_ascii.true in
    let last : IsAscii (drop (length bytes - 16) bytes) =
    subst P (take_rest bytes (length bytes - 16)) (c.eights_are_ascii-then-eights_are_ascii.ensures test) in
    ascii_ends bytes 16 c.requires.many c.requires.few first last
