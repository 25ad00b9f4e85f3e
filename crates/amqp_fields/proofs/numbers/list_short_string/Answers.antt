-- `list_short_string`: clause `listed`.
use Rattle.amqp_fields.proofs.Names.{take_rest}
use Rattle.amqp_fields.proofs.Strings.{no_length, short_listed, too_short, unlisted}
use Rattle.amqp_fields.proofs.numbers.list_short_string.Goals as goal

pub returns-then-n-rest-clause-listed : goal.returns-then-n-rest-clause-listed
returns-then-n-rest-clause-listed c =
    unlisted _ _ _ _ _ _ _ _ (too_short c.args.i.now c.in-len1-up.len_at_least (rw take_rest at c.if-n-rest.true))

pub returns-in-empty-clause-listed : goal.returns-in-empty-clause-listed
returns-in-empty-clause-listed c = unlisted _ _ _ _ _ _ _ _ (no_length c.args.i.now c.in-empty.len_below)

pub returns-else-n-rest-clause-listed : goal.returns-else-n-rest-clause-listed
returns-else-n-rest-clause-listed c =
    let place = rw (take_rest, take_rest) at c.before-behind.ensures in
    let node = rw take_rest at c.spanned-node.ensures in
    short_listed _ _ _ _ _ _ _ _ _ c.in-len1-up.len_at_least (rw take_rest at c.if-n-rest.false) place node c.push-count.ensures
