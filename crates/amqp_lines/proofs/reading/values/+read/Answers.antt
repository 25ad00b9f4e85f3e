-- the calls of cycle `read`: what they ensure and what loops keep.
use Rattle.amqp_lines.proofs
use proofs.Names.{rules, ℕ, ◌-◌, refl, sym, ap, ◌∙◌, append-nil, arith, closing, ends_at, inside, listed, or_comma, read_item, read_value}
use proofs.ReadSteps.{inside_begins, goes_on, stops, listed_over, listed_none, listed_next, framed_read, value_none, value_alone, value_read, lists_none}
use proofs.ReadSteps.{lists_some}
use proofs.reading.values.+read.Goals as goal

pub read_value-returns-in-empty : goal.read_value-returns-in-empty
read_value-returns-in-empty t c = rw (value_none c.args.depth_left c.args.i.now c.in-empty.len_below) (refl, sym (append-nil _))

pub read_value-returns-in-None : goal.read_value-returns-in-None
read_value-returns-in-None t c =
    value_alone _ _ _ _ _ c.in-len1-up.len_at_least
    (sym c.from_byte.ensures ∙ c.in-None.is) c.in_ok-push-in-len1-up.ensures.items c.bytes_from-rest.ensures

pub read_value-returns-in-Some : goal.read_value-returns-in-Some
read_value-returns-in-Some t c =
    value_read _ _ _ _ _ _ _ _ _ c.in-len1-up.len_at_least
    (sym c.from_byte.ensures ∙ c.in-Some.is) c.in_ok-push-in-len1-up.ensures.items c.bytes_from-rest.ensures
    (rw c.after_colon.ensures at c.read_after_tag.ensures)

pub read_list-returns-then-depth_left-eq0 : goal.read_list-returns-then-depth_left-eq0
read_list-returns-then-depth_left-eq0 t c =
    rw (lists_none c.args.keyed c.if-depth_left-eq0.true) (refl, sym (append-nil _))

pub read_list-returns : goal.read_list-returns
read_list-returns t c =
    rw (lists_some c.args.depth_left c.args.keyed c.args.i.now (omega arith))
    (framed_read 4 _ (inside (or_comma (read_item (read_value (c.args.depth_left - 1)) _)) (closing _) _) _ _ _ _ _
    (omega arith) c.in_ok-place.ensures.place c.in_ok-place.ensures.zeros c.in_ok-rest.ensures c.put_length.ensures)

pub read_items-items-init : goal.read_items-items-init
read_items-items-init t c = inside_begins _ _ _ _ _ _ (search rules) c.bytes_from-rest.ensures

pub read_items-items-preserved : goal.read_items-items-preserved
read_items-items-preserved t c =
    let item = or_comma (read_item (read_value _) _) in
    let close = ap (λ (k : ℕ). ends_at k c.items.rest.now) (sym c.closing.ensures) in
    goes_on _ (listed item (closing _) (c.items.left - 1)) c.items.invariant
    (listed_next item (closing _) _ _ (omega arith) refl (close ∙ sym c.ends_at.ensures ∙ c.if-ends_at.false))
    c.in_ok-next.ensures

pub read_items-returns-then-ends_at : goal.read_items-returns-then-ends_at
read_items-returns-then-ends_at t c =
    let item = or_comma (read_item (read_value _) _) in
    let close = ap (λ (k : ℕ). ends_at k c.items.rest.now) (sym c.closing.ensures) in
    stops c.items.invariant
    (listed_over item (closing _) _ _ (close ∙ sym c.ends_at.ensures ∙ c.if-ends_at.true)) (search rules)

pub read_items-returns : goal.read_items-returns
read_items-returns t c =
    let item = or_comma (read_item (read_value _) _) in
    stops c.items.invariant (listed_none item (closing _) _ _ (omega arith)) (search rules)
