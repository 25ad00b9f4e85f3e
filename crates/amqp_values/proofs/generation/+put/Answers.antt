-- the calls of cycle `put`: what they ensure, what loops keep and what calls require.
use Rattle.std.proofs.Common.{◌≡◌, ℕ, ◌+◌, ◌++◌, ◌∷◌, [], List, length, drop, map, arith, sym, ap, ◌∙◌, subst, append_assoc}
use Rattle.std.proofs.lemmas.List.{at_drop_all}
use Rattle.amqp_types.specs.Values.{Entry, weight, values_weight, entries_weight, values_of, entries_of}
use Rattle.amqp_types.specs.ValueBytes.{value_bytes, values_bytes, entries_bytes, tagged_bytes, is_long, any_value_long, any_entry_long}
use Rattle.amqp_types.specs.Strings.{is_too_long}
use Rattle.amqp_types.specs.Writing.{Puts}
use Rattle.amqp_types.proofs.WrittenParts.{written-nil}
use Rattle.amqp_values.specs.Views.{value_of}
use Rattle.amqp_values.proofs.Parts.{weight_at}
use Rattle.amqp_laws.proofs.Pieces.{IsPut, has_room, puts}
use Rattle.amqp_values.proofs.Walk.{at_place}
use Rattle.amqp_values.proofs.InFront.{room_behind, contained, length_put}
use Rattle.amqp_laws.proofs.Deciding.{or_left, or_right}
use Rattle.amqp_types.specs.Tags.{tag_byte, tag_of}
use Rattle.amqp_types.proofs.Puts.{puts_then, puts_none}
use Rattle.amqp_values.proofs.generation.+put.Goals as goal

pub put_behind-returns-in-Void : goal.put_behind-returns-in-Void
put_behind-returns-in-Void t c = puts_none c.args.buf.now c.args.at _ (ap (λ v. value_bytes (value_of v)) c.in-Void.is)

pub put_tagged-returns : goal.put_tagged-returns
put_tagged-returns t c =
    let v = value_of c.args.value.now in
    let byte : c.to_byte.result ≡ tag_byte (tag_of v) = c.to_byte.ensures ∙ ap tag_byte c.tag.ensures in
    let P : List ℕ → Type 0 = λ bytes. Puts c.args.buf.now c.put_behind.new.buf c.args.at bytes c.put_behind.result in
    subst P (ap (λ b. b ∷ value_bytes v) byte) (puts_then c.args.buf.now _ _ c.args.at _ _ (c.to_byte.result ∷ [])
    (value_bytes v) (omega (arith, c.requires.room)) c.put_bytes-place.ensures c.put_behind.ensures)

pub put_array-loop-value-init : goal.put_array-loop-value-init
put_array-loop-value-init t c =
    let vs = values_of c.args.array.now in
    let all = c.as_slice-value-items.ensures in
    record {
      all = all;
      short = ap (λ xs. any_value_long (values_of xs)) all ∙ or_left (any_value_long vs) (is_too_long (values_bytes vs)) c.requires.short;
      put = ([], record { whole = ap (λ xs. values_bytes (values_of xs)) all; here = sym (written-nil c.args.buf.now (c.args.at + 4)); end = omega arith });
    }

pub put_array-put_tagged-end-requires : goal.put_array-put_tagged-end-requires
put_array-put_tagged-end-requires t c =
    let fits = room_behind c.args.buf.now c.args.at (values_bytes (values_of c.args.array.now)) c.requires.room in
    let l = c.loop-value in
    let xs = c.as_slice-value-items.result.now in
    let v = value_of c.value-item.result in
    let small = weight_at xs l.value-index c.value-item.result c.loop-value-test.true in
    let here = ap (λ x. weight (value_of x)) c.value-item.is in
    let all = ap (λ vs. values_weight (values_of vs)) l.invariant.all in
    let turn = at_place (λ vs. values_bytes (values_of vs)) xs l.value-index c.value-item.result c.loop-value-test.true c.value-item.is in
    let short =
    sym (at_place (λ vs. any_value_long (values_of vs)) xs l.value-index c.value-item.result c.loop-value-test.true c.value-item.is) ∙ l.invariant.short in
    let P : List ℕ → Type 0 = λ bs. IsPut c.args.buf.now l.buf (c.args.at + 4) l.end l.invariant.put.0 bs (values_bytes (values_of c.args.array.now)) in
    let left = values_bytes (values_of (map value_of (drop (l.value-index + 1) xs))) in
    let room = has_room c.args.buf.now l.buf (c.args.at + 4) l.end l.invariant.put.0 (tagged_bytes v) left _ fits (subst P turn l.invariant.put.1) in
    (omega (arith, c.decreases, small, here, all), (or_left (is_long v) _ short, omega (arith, room)))

pub put_array-loop-value-preserved : goal.put_array-loop-value-preserved
put_array-loop-value-preserved t c =
    let fits = room_behind c.args.buf.now c.args.at (values_bytes (values_of c.args.array.now)) c.requires.room in
    let l = c.loop-value in
    let xs = c.as_slice-value-items.result.now in
    let v = value_of c.value-item.result in
    let turn = at_place (λ vs. values_bytes (values_of vs)) xs l.value-index c.value-item.result c.loop-value-test.true c.value-item.is in
    let short =
    sym (at_place (λ vs. any_value_long (values_of vs)) xs l.value-index c.value-item.result c.loop-value-test.true c.value-item.is) ∙ l.invariant.short in
    let P : List ℕ → Type 0 = λ bs. IsPut c.args.buf.now l.buf (c.args.at + 4) l.end l.invariant.put.0 bs (values_bytes (values_of c.args.array.now)) in
    let left = values_bytes (values_of (map value_of (drop (l.value-index + 1) xs))) in
    record {
      all = l.invariant.all;
      short = or_right (is_long v) _ short;
      put = (
        l.invariant.put.0 ++ tagged_bytes v,
        puts c.args.buf.now l.buf _ (c.args.at + 4) l.end _ l.invariant.put.0
            (tagged_bytes v) left _ fits (subst P turn l.invariant.put.1) c.put_tagged-end.ensures,
      );
    }

pub put_array-returns : goal.put_array-returns
put_array-returns t c =
    let l = c.loop-value in
    let all = values_bytes (values_of c.args.array.now) in
    let none = at_drop_all (λ ys. values_bytes (values_of (map value_of ys))) c.as_slice-value-items.result.now l.value-index c.loop-value-test.false in
    length_put c.args.buf.now l.buf _ c.args.at l.end _ all
    (contained c.args.buf.now l.buf c.args.at l.end l.invariant.put.0 _ all c.requires.room none l.invariant.put.1) c.put_long_uint.ensures

pub put_table-loop-key-init : goal.put_table-loop-key-init
put_table-loop-key-init t c =
    let es = entries_of c.args.table.now in
    let all : c.into_iter-key-iterator.result ≡ c.args.table.now = cc in
    record {
      short = ap (λ xs. any_entry_long (entries_of xs)) all ∙ or_left (any_entry_long es) (is_too_long (entries_bytes es)) c.requires.short;
      smaller = omega (arith, ap (λ xs. entries_weight (entries_of xs)) all);
      put = ([], record { whole = ap (λ xs. entries_bytes (entries_of xs)) all; here = sym (written-nil c.args.buf.now (c.args.at + 4)); end = omega arith });
    }

-- the first of the pairs that are left
turned : (before now : List ℕ) (at place : ℕ) (done : List ℕ) (left more : List Entry) (e : Entry) (all : List ℕ)
    → left ≡ e ∷ more → IsPut before now at place done (entries_bytes (entries_of left)) all
    → IsPut before now at place done ((length e.0 ∷ e.0) ++ (tagged_bytes e.1 ++ entries_bytes (entries_of more))) all
turned before now at place done left more e all is p =
    let P : List ℕ → Type 0 = λ bs. IsPut before now at place done bs all in
    subst P (ap (λ es. entries_bytes (entries_of es)) is ∙ append_assoc (length e.0 ∷ e.0) (tagged_bytes e.1) (entries_bytes (entries_of more))) p

pub put_table-put_short_string-end-requires : goal.put_table-put_short_string-end-requires
put_table-put_short_string-end-requires t c =
    let fits = room_behind c.args.buf.now c.args.at (entries_bytes (entries_of c.args.table.now)) c.requires.room in
    let l = c.loop-key in
    let e : Entry = (c.in-Some.key.now, value_of c.in-Some.value.now) in
    let p = turned c.args.buf.now l.buf (c.args.at + 4) l.end l.invariant.put.0 l.key-iterator c.next.new.self e _ c.in-Some.ensures.steps l.invariant.put.1 in
    omega (
      arith,
      has_room c.args.buf.now l.buf (c.args.at + 4) l.end l.invariant.put.0 (length e.0 ∷ e.0)
          (tagged_bytes e.1 ++ entries_bytes (entries_of c.next.new.self)) _ fits p,
    )

pub put_table-put_tagged-end-requires : goal.put_table-put_tagged-end-requires
put_table-put_tagged-end-requires t c =
    let fits = room_behind c.args.buf.now c.args.at (entries_bytes (entries_of c.args.table.now)) c.requires.room in
    let l = c.loop-key in
    let e : Entry = (c.in-Some.key.now, value_of c.in-Some.value.now) in
    let more = entries_bytes (entries_of c.next.new.self) in
    let p = turned c.args.buf.now l.buf (c.args.at + 4) l.end l.invariant.put.0 l.key-iterator c.next.new.self e _ c.in-Some.ensures.steps l.invariant.put.1 in
    let all = entries_bytes (entries_of c.args.table.now) in
    let mid = c.put_short_string-end in
    let q =
    puts c.args.buf.now l.buf mid.new.buf (c.args.at + 4) l.end mid.result l.invariant.put.0
    (length e.0 ∷ e.0) (tagged_bytes e.1 ++ more) all fits p mid.ensures in
    let room = has_room c.args.buf.now mid.new.buf (c.args.at + 4) mid.result (l.invariant.put.0 ++ (length e.0 ∷ e.0)) (tagged_bytes e.1) more all fits q in
    let whole = ap (λ xs. entries_weight (entries_of xs)) c.in-Some.ensures.steps in
    let short = sym (ap (λ xs. any_entry_long (entries_of xs)) c.in-Some.ensures.steps) ∙ l.invariant.short in
    (omega (arith, c.decreases, whole, l.invariant.smaller), (or_left (is_long e.1) _ short, omega (arith, room)))

pub put_table-loop-key-preserved : goal.put_table-loop-key-preserved
put_table-loop-key-preserved t c =
    let fits = room_behind c.args.buf.now c.args.at (entries_bytes (entries_of c.args.table.now)) c.requires.room in
    let l = c.loop-key in
    let e : Entry = (c.in-Some.key.now, value_of c.in-Some.value.now) in
    let more = entries_bytes (entries_of c.next.new.self) in
    let p = turned c.args.buf.now l.buf (c.args.at + 4) l.end l.invariant.put.0 l.key-iterator c.next.new.self e _ c.in-Some.ensures.steps l.invariant.put.1 in
    let all = entries_bytes (entries_of c.args.table.now) in
    let mid = c.put_short_string-end in
    let q =
    puts c.args.buf.now l.buf mid.new.buf (c.args.at + 4) l.end mid.result l.invariant.put.0
    (length e.0 ∷ e.0) (tagged_bytes e.1 ++ more) all fits p mid.ensures in
    let last = c.put_tagged-end in
    let r =
    puts c.args.buf.now mid.new.buf last.new.buf (c.args.at + 4) mid.result last.result
    (l.invariant.put.0 ++ (length e.0 ∷ e.0)) (tagged_bytes e.1) more all fits q last.ensures in
    let whole = ap (λ xs. entries_weight (entries_of xs)) c.in-Some.ensures.steps in
    let short = sym (ap (λ xs. any_entry_long (entries_of xs)) c.in-Some.ensures.steps) ∙ l.invariant.short in
    record {
      short = or_right (is_long e.1) _ short;
      smaller = omega (arith, whole, l.invariant.smaller);
      put = ((l.invariant.put.0 ++ (length e.0 ∷ e.0)) ++ tagged_bytes e.1, r);
    }

pub put_table-returns : goal.put_table-returns
put_table-returns t c =
    let l = c.loop-key in
    let all = entries_bytes (entries_of c.args.table.now) in
    let none = ap (λ es. entries_bytes (entries_of es)) c.in-None.ensures.steps.0 in
    length_put c.args.buf.now l.buf _ c.args.at l.end _ all
    (contained c.args.buf.now l.buf c.args.at l.end l.invariant.put.0 _ all c.requires.room none l.invariant.put.1) c.put_long_uint.ensures
