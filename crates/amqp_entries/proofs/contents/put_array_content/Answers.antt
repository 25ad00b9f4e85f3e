-- A length, and the canonical content after it.
use Rattle.std.proofs.Common.{ℕ, subst}
use Rattle.amqp_types.specs.Numbers.{bytes4, number_bytes}
use Rattle.amqp_types.specs.Writing.{Puts}
use Rattle.amqp_types.proofs.Puts.{puts_then}
use Rattle.amqp_entries.proofs.contents.put_array_content.Goals as goal

pub returns : goal.returns
returns c =
    let P : ℕ → Type 0 = λ n. Puts c.args.buf.now c.put_long_uint-place.new.buf c.args.at (number_bytes bytes4 n) c.put_long_uint-place.result in
    puts_then _ _ _ _ _ _ _ _ c.requires.room (subst P (c.requires.found.size_is c.requires.fits) c.put_long_uint-place.ensures) c.rewrite_values.ensures
