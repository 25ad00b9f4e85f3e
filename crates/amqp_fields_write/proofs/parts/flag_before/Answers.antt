-- `flag_before`: what it ensures.
use Rattle.amqp_fields_write.proofs
use proofs.Names.{get_or, refl, sym, ◌∙◌, arith, blank}
use proofs.FieldsMade.{byte_more, byte_refused, flag_few, flags_missing, flags_more, flags_other}
use proofs.ValuesMade.{misfits}
use proofs.parts.flag_before.Goals as goal

pub returns-in-empty : goal.returns-in-empty
returns-in-empty c = flags_missing _ _ 0 _ _ c.requires.some c.in-empty.len_below ∙ misfits refl c.bad.ensures

pub returns-then-not-is_flag : goal.returns-then-not-is_flag
returns-then-not-is_flag c =
    flags_other _ _ 0 _ _ blank c.requires.some c.in-len1-up.len_at_least (sym c.is_flag.ensures ∙ c.if-not-is_flag.true)
    ∙ misfits c.index_of.ensures c.bad-then-not-is_flag.ensures

pub returns-in-Ok : goal.returns-in-Ok
returns-in-Ok c =
    let is = sym c.is_flag.ensures ∙ c.if-not-is_flag.false in
    let few = flag_few c.args.place (get_or c.args.nodes.now 0 blank) is in
    byte_more _ _ _ c.args.count c.in-Ok.byte _
    (flags_more _ _ _ _ _ blank c.requires.some c.in-len1-up.len_at_least is refl)
    few c.requires.some (rw c.in-Ok.is at c.requires.others) (grind (arith, few))

pub returns-in-Err : goal.returns-in-Err
returns-in-Err c =
    let is = sym c.is_flag.ensures ∙ c.if-not-is_flag.false in
    byte_refused _ _ _ _
    (flags_more _ _ _ _ _ blank c.requires.some c.in-len1-up.len_at_least is refl)
    (rw c.in-Err.is at c.requires.others)
