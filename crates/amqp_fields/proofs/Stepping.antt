-- What values are listed as, step by step.
use Rattle.std.proofs.Common.{drop-drop, get_or-drop, length-drop, length-take-le, ◌≡◌, ℕ, zero, suc, ◌+◌, ◌-◌, ◌<◌, ◌≤◌, List, [], ◌∷◌, length, get_or, drop}
use Rattle.std.proofs.Common.{take, set, Some, None, Result, Ok, Err, refl, sym, ap, subst, ◌∙◌, arith}
use Rattle.amqp_fields.proofs.Names.{nil_from_length, Judged, Judge, Fault, took, ◌>>=◌, judge_short_string, judge_long_string, filled, next_item, read_map}
use Rattle.amqp_fields.proofs.Names.{took_all, tag_at, tag_byte, FieldTag, IsRead, after_key, Node, Step, Filled, blank, held, keyed, spanned, Grows, listing}
use Rattle.amqp_fields.proofs.Names.{end_before, holding, listed_behind, listed_entry, listed_items, listed_nested, listed_tagged, listed_value}
use Rattle.amqp_fields.proofs.Names.{of_kind, Lists, ListsAll, key_label}
use Rattle.amqp_fields.proofs.Pushing.{grows_held, grows_more, grows_none}
use Rattle.amqp_fields.proofs.Strings.{IsKey, is_key, long_size}

-- where something is read, what comes next decides what is listed
pub listed_next : {A : Type 0} (j : Judged A) (f : A × ℕ → Judged (List Node)) (old new : List Node) (count : ℕ) (step : Step) (x : A) (n : ℕ)
    → j ≡ took x n → Lists (f (x, n)) old count new step → Lists (j >>= f) old count new step
listed_next j f old new count step x n e h = rw e h

-- ---- how deep values may nest

pub nested_none : (depth_left : ℕ) → depth_left ≡ 0 → listed_nested depth_left ≡ None
unfolding listed_nested
nested_none zero h = refl
nested_none (suc depth_left) h = absurd (omega arith)

pub nested_more : (depth_left : ℕ) → 0 < depth_left → listed_nested depth_left ≡ Some (listed_value (depth_left - 1))
unfolding listed_nested listed_value
nested_more zero h = absurd (omega arith)
nested_more (suc depth_left) h = ap (λ n. Some (listed_tagged (listed_nested n))) {x = depth_left} {y = suc depth_left - 1} (omega arith)

-- ---- a tag and its value

-- what stands after so many bytes
more_used : (j : Judged (List Node)) (n used total : ℕ) (old new : List Node) (count : ℕ) → Lists j old count new (record { used = used; count = total })
    → Lists (j >>= λ x. took x.0 (n + x.1)) old count new (record { used = n + used; count = total })
more_used (took added k) n used total old new count h = (ap (λ u. n + u) h.0, h.1)
more_used j n used total old new count h = tt

-- a value is listed as what stands after its tag
pub value_listed : (depth_left end : ℕ) (label mark : Node) (i : List ℕ) (t : FieldTag) (old new : List Node) (count : ℕ) (step : Step)
    → 1 ≤ length i → tag_at (get_or i 0 0) ≡ Some t → mark ≡ of_kind label (tag_byte t)
    → Lists (listed_behind (listed_nested depth_left) end mark t (drop 1 i)) old count new step
    → Lists (listed_value depth_left end label i) old count new (record { used = 1 + step.used; count = step.count })
unfolding listed_value listed_tagged
value_listed depth_left end label mark [] t old new count step some is e h = tt
value_listed depth_left end label mark (byte ∷ bytes) t old new count step some is e h =
    rw is (more_used (listed_behind (listed_nested depth_left) end (of_kind label (tag_byte t)) t bytes) 1 _ _ _ _ _ (rw e at h))

-- ---- what fills an array or a table

-- the node, what fills it, and then how many that is
closed : (groups : Result (List (List Node)) Fault) (used count begun : ℕ) (node : Node) (filling : Filled) (a b c d : List Node)
    → Grows (listing a count) (listing b begun) (node ∷ []) → ListsAll groups b begun c filling
    → d ≡ set c count (held (get_or c count blank) (filling.count - begun) filling.items)
    → Lists (took_all used (read_map (holding node) groups)) a count d (record { used = used; count = filling.count })
closed (Err bad) used count begun node filling a b c d one all last = tt
closed (Ok groups) used count begun node filling a b c d one all last =
    (refl, grows_held _ _ _ _ _ _ _ _ _ _ one all.0 all.1 last)

-- a node with a span, what fills it, and then how many that is, are listed
pub items_listed : (item : ℕ → Judge (List Node)) (end : ℕ) (label node : Node)
    (i content rest : List ℕ) (used inner count begun : ℕ) (filling : Filled) (a b c d : List Node)
    → judge_long_string i ≡ took content used → rest ≡ drop used i → inner ≡ end - length rest
    → node ≡ spanned label (end - (length i - (4 + length content))) content
    → Grows (listing a count) (listing b begun) (node ∷ []) → ListsAll (filled (item inner) 0 content) b begun c filling
    → d ≡ set c count (held (get_or c count blank) (filling.count - begun) filling.items)
    → Lists (listed_items item end label i) a count d (record { used = used; count = filling.count })
unfolding listed_items
items_listed item end label node i content rest used inner count begun filling a b c d is behind place one_is one all last =
    let at : inner ≡ end_before end (drop used i) = place ∙ ap (λ (xs : List ℕ). end - length xs) behind in
    let front : end - (length i - (4 + length content)) ≡ inner = omega (arith, long_size i content used is, length-drop used i) in
    let it : node ≡ spanned label inner content = one_is ∙ ap (λ e. spanned label e content) front in
    listed_next _ _ _ _ _ _ _ _ is (rw (← at, ← it) (closed (filled (item inner) 0 content) _ _ _ _ filling _ _ _ _ one all last))

-- ---- things that fill some bytes, one after another

-- Where what is left is listed after the nodes so far, all of the content is. So many things came before.
pub record GoesOn (item : Judge (List Node)) (content : List ℕ) (old : List Node) (count : ℕ) (rest : List ℕ) (now : List Node) (k items : ℕ) : Type 0 where
  pub left : (new : List Node) (more total : ℕ) → ListsAll (filled item 0 rest) now k new (record { items = more; count = total })
      → ListsAll (filled item 0 content) old count new (record { items = items + more; count = total })

filled_drop : (item : Judge (List Node)) (k : ℕ) (bytes : List ℕ) → filled item k bytes ≡ filled item 0 (drop k bytes)
unfolding filled
filled_drop item zero bytes = refl
filled_drop item (suc k) [] = refl
filled_drop item (suc k) (byte ∷ bytes) = filled_drop item k bytes

-- what comes next is listed, and then the others
next_listed : (item : Judge (List Node)) (rest next : List ℕ) (now mid new : List Node) (k more total : ℕ) (step : Step) → 0 < length rest
    → Lists (item rest) now k mid step → 0 < step.used → next ≡ drop step.used rest
    → ListsAll (filled item 0 next) mid step.count new (record { items = more; count = total })
    → ListsAll (filled item 0 rest) now k new (record { items = 1 + more; count = total })
unfolding filled
next_listed item [] next now mid new k more total step some one up e all = absurd (omega arith)
next_listed item (byte ∷ bytes) next now mid new k more total step some one up e all = by_item (item (byte ∷ bytes)) one
  where
    by_others : (group : List Node) → Grows (listing now k) (listing mid step.count) group → (r : Result (List (List Node)) Fault)
        → ListsAll r mid step.count new (record { items = more; count = total })
        → ListsAll (read_map (λ gs. group ∷ gs) r) now k new (record { items = 1 + more; count = total })
    by_others group grows (Err bad) h = tt
    by_others group grows (Ok groups) h =
        (omega arith, grows_more _ _ _ _ _ grows h.1)

    by_item : (j : Judged (List Node)) → Lists j now k mid step
        → ListsAll (next_item j (λ n. filled item (n - 1) bytes)) now k new (record { items = 1 + more; count = total })
    by_item (took group n) h =
        let dropped : drop (n - 1) bytes ≡ next =
        ap (λ u. drop u (byte ∷ bytes)) {x = suc (n - 1)} {y = step.used} (omega arith) ∙ sym e in
        by_others group h.1 (filled item (n - 1) bytes) (rw (filled_drop item (n - 1) bytes, dropped) all)
    by_item j h = tt

-- what is listed next leaves what comes after it
pub goes_on : {item : Judge (List Node)} {content rest : List ℕ} {old now : List Node} {count k items : ℕ} (front : ℕ) (behind next : List ℕ)
    (new : List Node) (step : Step) → GoesOn item content old count rest now k items → 0 < front → front ≤ length rest
    → Lists (item rest) now k new (record { used = front + step.used; count = step.count }) → behind ≡ drop front rest → next ≡ drop step.used behind
    → items + length rest ≤ length content
    → GoesOn item content old count next new step.count (items + 1) × (items + 1 + length next ≤ length content)
goes_on {item = item} {content = content} {rest = rest} {old = old} {now = now} {count = count} {k = k} {items = items}
    front behind next new step h up some listed after e room =
    let is_next : next ≡ drop (front + step.used) rest = e ∙ ap (drop step.used) after ∙ drop-drop step.used front rest in (
      record {
        left = λ final more total all.
            subst (λ n. ListsAll (filled item 0 content) old count final (record { items = n; count = total })) {x = items + (1 + more)} {y = items + 1 + more}
            (omega arith) (h.left final (1 + more) total (next_listed item rest next now new final k more total
            (record { used = front + step.used; count = step.count }) (omega arith) listed (omega arith) is_next all));
      },
      omega (arith, ap length is_next, length-drop (front + step.used) rest),
    )

-- where nothing more is listed
ends : {item : Judge (List Node)} {content rest : List ℕ} {old now : List Node} {count k items : ℕ} → GoesOn item content old count rest now k items
    → ListsAll (filled item 0 rest) now k now (record { items = 0; count = k })
    → ListsAll (filled item 0 content) old count now (record { items = items; count = k })
ends {item = item} {content = content} {old = old} {now = now} {count = count} {k = k} {items = items} h none =
    subst (λ n. ListsAll (filled item 0 content) old count now (record { items = n; count = k }))
    {x = items + 0} {y = items} (omega arith) (h.left now 0 k none)

-- where no bytes are left, all that fills them is listed
pub done : {item : Judge (List Node)} {content rest : List ℕ} {old now : List Node} {count k items : ℕ} → GoesOn item content old count rest now k items
    → length rest ≡ 0 → ListsAll (filled item 0 content) old count now (record { items = items; count = k })
unfolding filled
done {item = item} {rest = rest} {now = now} {k = k} h none =
    ends h (rw (nil_from_length rest none) (refl, grows_none _))

-- where the next thing is not read, nothing is promised
pub stops : {item : Judge (List Node)} {content rest : List ℕ} {old now : List Node} {count k items : ℕ} → GoesOn item content old count rest now k items
    → 0 < length rest → (IsRead (item rest) → ⊥) → ListsAll (filled item 0 content) old count now (record { items = items; count = k })
unfolding filled
stops {item = item} {rest = rest} {now = now} {k = k} h some none = ends h (by_rest rest some none)
  where
    by_rest : (rest : List ℕ) → 0 < length rest → (IsRead (item rest) → ⊥) → ListsAll (filled item 0 rest) now k now (record { items = 0; count = k })
    by_rest [] some none = absurd (omega arith)
    by_rest (byte ∷ bytes) some none = by_item (item (byte ∷ bytes)) none
      where
        by_item : (j : Judged (List Node)) → (IsRead j → ⊥)
            → ListsAll (next_item j (λ n. filled item (n - 1) bytes)) now k now (record { items = 0; count = k })
        by_item (took group n) none = absurd (none tt)
        by_item j none = tt

-- ---- one value of an array, one entry of a table

-- a value without a known tag is not read
pub value_stops : (depth_left end : ℕ) (label : Node) (i : List ℕ)
    → (1 ≤ length i → tag_at (get_or i 0 0) ≡ None) → IsRead (listed_value depth_left end label i) → ⊥
unfolding listed_value listed_tagged
value_stops depth_left end label [] none read = read
value_stops depth_left end label (byte ∷ bytes) none read =
    rw (none (omega arith)) at read

-- the tag of an entry stands after the key
after_is : (n : ℕ) (bytes : List ℕ) → drop (2 + n) (n ∷ bytes) ≡ drop 1 (drop n bytes)
after_is n bytes = ap (λ k. drop k (n ∷ bytes)) {x = 2 + n} {y = suc (n + 1)} (omega arith) ∙ sym (drop-drop 1 n bytes)

tag_is : (n : ℕ) (bytes : List ℕ) → get_or (n ∷ bytes) (n + 1) 0 ≡ get_or (drop n bytes) 0 0
tag_is n bytes = ap (λ k. get_or (n ∷ bytes) k 0) {x = n + 1} {y = suc (n + 0)} (omega arith) ∙ sym (get_or-drop n bytes 0 0)

label_is : (end n : ℕ) (bytes : List ℕ) → n ≤ length bytes → 1 + length bytes ≤ end
    → key_label end (n ∷ bytes) ≡ keyed (end - length (drop n bytes)) (take n bytes)
label_is end n bytes few within =
    let size : length (take n bytes) ≡ n = length-take-le n bytes few in
    let start : end - length (drop n bytes) - length (take n bytes) ≡ end - length (n ∷ bytes) + 1 = omega (arith, length-drop n bytes, few) in
    sym (ap (λ k. record blank { key_start = end - length (drop n bytes) - length (take n bytes); key_length = k }) size
    ∙ ap (λ s. record blank { key_start = s; key_length = n }) start)

-- an entry whose key and tag are there is listed as its value is
pub entry_goes : (depth_left end : ℕ) (mark : Node) (t : FieldTag) (i behind : List ℕ) (old new : List Node) (count : ℕ) (step : Step)
    → 2 + get_or i 0 0 ≤ length i → length i ≤ end → tag_at (get_or i (get_or i 0 0 + 1) 0) ≡ Some t → mark ≡ of_kind (key_label end i) (tag_byte t)
    → behind ≡ drop (2 + get_or i 0 0) i → Lists (listed_behind (listed_nested depth_left) end mark t behind) old count new step
    → Lists (listed_entry (listed_value depth_left) end i) old count new (record { used = 2 + get_or i 0 0 + step.used; count = step.count })
unfolding listed_entry
entry_goes depth_left end mark t [] behind old new count step some within is it after h = absurd (omega arith)
entry_goes depth_left end mark t (n ∷ bytes) behind old new count step some within is it after h =
    by_key (judge_short_string (n ∷ bytes)) (is_key (n ∷ bytes))
  where
    few : n ≤ length bytes
    few = omega arith

    label : Node
    label = keyed (end - length (drop n bytes)) (take n bytes)

    value : Lists (listed_value depth_left end label (drop n bytes)) old count new (record { used = 1 + step.used; count = step.count })
    value =
        value_listed depth_left end label mark (drop n bytes) t old new count step (omega (arith, length-drop n bytes))
        (ap tag_at (sym (tag_is n bytes)) ∙ is) (it ∙ ap (λ x. of_kind x (tag_byte t)) (label_is end n bytes few (omega arith)))
        (rw (after, after_is n bytes) at h)

    by_key : (j : Judged (List ℕ)) → ((key : List ℕ) (m : ℕ) → j ≡ took key m → IsKey (n ∷ bytes) key m)
        → Lists (j >>= λ key. listed_value depth_left end (keyed (end_before end (drop key.1 (n ∷ bytes))) key.0) (drop key.1 (n ∷ bytes))
        >>= λ v. took v.0 (key.1 + v.1)) old count new (record { used = 2 + n + step.used; count = step.count })
    by_key (took key m) each =
        let one = each key m refl in
        let size : 2 + n + step.used ≡ m + (1 + step.used) = omega (arith, one.used_is, ap length one.key_is, length-take-le n bytes few) in
        rw (one.rest_is, one.key_is, size)
        (more_used (listed_value depth_left end label (drop n bytes)) m _ _ _ _ _ value)
    by_key j each = tt

-- an entry without a known tag is not read
pub entry_stops : (depth_left end : ℕ) (i : List ℕ) → (2 + get_or i 0 0 ≤ length i → tag_at (get_or i (get_or i 0 0 + 1) 0) ≡ None)
    → IsRead (listed_entry (listed_value depth_left) end i) → ⊥
unfolding listed_entry
entry_stops depth_left end i none read = by_key (judge_short_string i) (is_key i) read
  where
    after_none : (i : List ℕ) → (2 + get_or i 0 0 ≤ length i → tag_at (get_or i (get_or i 0 0 + 1) 0) ≡ None)
        → 1 ≤ length (after_key i) → tag_at (get_or (after_key i) 0 0) ≡ None
    after_none [] none some = absurd (omega arith)
    after_none (n ∷ bytes) none some = ap tag_at (sym (tag_is n bytes)) ∙ none (omega (arith, length-drop n bytes))

    first_read : (n : ℕ) (j : Judged (List Node)) → IsRead (j >>= λ v. took v.0 (n + v.1)) → IsRead j
    first_read n (took added k) read = tt
    first_read n j read = read

    by_key : (j : Judged (List ℕ)) → ((k : List ℕ) (n : ℕ) → j ≡ took k n → IsKey i k n)
        → IsRead (j >>= λ key. listed_value depth_left end (keyed (end_before end (drop key.1 i)) key.0) (drop key.1 i) >>= λ v. took v.0 (key.1 + v.1)) → ⊥
    by_key (took k n) each read =
        let label = keyed (end_before end (drop n i)) k in
        let value = first_read n (listed_value depth_left end label (drop n i)) read in
        value_stops depth_left end label (after_key i) (after_none i none)
        (subst (λ xs. IsRead (listed_value depth_left end label xs)) ((each k n refl).rest_is) value)
    by_key j each read = read
