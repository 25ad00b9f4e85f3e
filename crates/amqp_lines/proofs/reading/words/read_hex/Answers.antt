-- `read_hex`: what it ensures and what loops keep.
use Rattle.amqp_lines.proofs
use proofs.Names.{ℕ, [], ◌∷◌, ◌++◌, refl, sym, ap, ◌∙◌, read_hex}
use proofs.ReadSteps.{goes_on, stops, hex_few, hex_end, hex_next}
use proofs.reading.words.read_hex.Goals as goal

pub returns-then-not-is_hex : goal.returns-then-not-is_hex
returns-then-not-is_hex c =
    stops c.loop-rest.invariant (hex_end _ c.in-len2-up.len_at_least (sym c.is_hex.ensures ∙ c.if-not-is_hex.true)) refl

pub loop-rest-preserved : goal.loop-rest-preserved
loop-rest-preserved c =
    goes_on _ read_hex c.loop-rest.invariant (hex_next _ c.in-len2-up.len_at_least (sym c.is_hex.ensures ∙ c.if-not-is_hex.false))
    (c.bytes_from-rest.ensures, c.in_ok-push.ensures.items ∙ ap (λ (b : ℕ). c.loop-rest.out.items ++ b ∷ []) c.hex_byte.ensures)

pub returns : goal.returns
returns c = stops c.loop-rest.invariant (hex_few _ c.in_default.len_below) refl
