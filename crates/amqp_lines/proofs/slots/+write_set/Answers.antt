-- `write_set`, which calls itself: what they ensure.
use Rattle.amqp_lines.proofs
use proofs.Names.{◌≡◌, true, false, sym, ◌∙◌, arith, take_rest}
use proofs.Names.forms
use proofs.RenderedSlots.{no_options, option_said, option_past}
use proofs.slots.+write_set.Goals as goal

pub returns-in-empty : goal.returns-in-empty
returns-in-empty t c = no_options _ _ _ _ c.in-empty.len_below

pub returns-then-not-has_bit : goal.returns-then-not-has_bit
returns-then-not-has_bit t c =
    let off : c.has_bit.result ≡ false = grind arith in
    let others = rw take_rest at c.write_set.ensures in
    option_past _ _ (0, forms.Octet) _ _
    _ _ c.in-len1-up.len_at_least (sym c.has_bit.ensures ∙ off) others

pub returns-in_ok-used-in-len1-up : goal.returns-in_ok-used-in-len1-up
returns-in_ok-used-in-len1-up t c =
    let on : c.has_bit.result ≡ true = grind arith in
    let others = rw take_rest at c.write_set-in-len1-up.ensures in
    option_said _ _ (0, forms.Octet) _ _ _ _
    _ _ _ _
    c.in-len1-up.len_at_least (sym c.has_bit.ensures ∙ on) c.in_ok-write_name-in-len1-up.ensures c.in_ok-used-in-len1-up.ensures c.bytes_from.ensures others
