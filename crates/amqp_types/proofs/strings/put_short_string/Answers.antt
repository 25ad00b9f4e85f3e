-- `put_short_string`: what it ensures.
use Rattle.std.proofs.Common.{◌≡◌, ◌∷◌, [], ap, ◌∙◌, subst, List, ℕ, length, arith}
use Rattle.amqp_types.specs.Strings.{short_string_bytes}
use Rattle.amqp_types.specs.Writing.{Puts}
use Rattle.amqp_types.proofs.Puts.{puts_then}
use Rattle.amqp_types.proofs.strings.put_short_string.Goals as goal

pub returns : goal.returns
returns c =
    let text : c.as_bytes.result.now ≡ c.args.value.now = c.as_bytes.ensures.value ∙ c.as_str.ensures.value in
    let whole : c.len.result ∷ c.as_bytes.result.now ≡ short_string_bytes c.args.value.now = cc in
    let P : List ℕ → Type 0 = λ bytes. Puts c.args.buf.now c.put_bytes.new.buf c.args.at bytes c.put_bytes.result in
    subst P whole (puts_then c.args.buf.now _ _ c.args.at _ _ (c.len.result ∷ []) c.as_bytes.result.now
    (omega (arith, ap length whole, c.requires.room)) c.put_bytes-place.ensures c.put_bytes.ensures)
