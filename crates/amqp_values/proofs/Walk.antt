-- Going over an array or a table, from what is left to what is left then.
use Rattle.std.proofs.Common.{◌≡◌, ℕ, ◌+◌, ◌<◌, ◌≤◌, ◌^◌, max, nat_le, ◌||◌, cond, List, [], ◌∷◌, ◌++◌, length, get_or, drop, map, Bool, true, false}
use Rattle.std.proofs.Common.{IsOk, suc, ◌-◌, refl, sym, ap, ◌∙◌, arith}
use Rattle.std.proofs.lemmas.Bool.Decides.{nat_tests}
use Rattle.std.proofs.lemmas.List.{at_drop_more, length-append}
use Rattle.amqp_types.specs.Values.{FieldValue, Entry, values_of, entries_of}
use Rattle.amqp_types.specs.ValueBytes.{value_bytes, tagged_bytes, values_bytes, entries_bytes, is_long, any_value_long, any_entry_long}
use Rattle.amqp_types.specs.Values.{depth, values_depth, entries_depth}
use Rattle.amqp_types.specs.Sizes.{measured}
use Rattle.amqp_values.specs.Counts.{is_refused, value_count, values_count, entries_count}
use Rattle.amqp_values.specs.Views.{value_of}
use Rattle.amqp_values.specs.declared.value.AMQPValue.{AMQPValue}

-- the value at a place, and those after it
pub at_place : {Y : Type 0} (F : List FieldValue → Y) (xs : List AMQPValue) (i : ℕ) (x : AMQPValue) → i < length xs
    → x ≡ get_or xs i x → F (map value_of (drop i xs)) ≡ F (value_of x ∷ map value_of (drop (i + 1) xs))
at_place F xs i x h is = at_drop_more (λ ys. F (map value_of ys)) xs i x h ∙ ap (λ y. F (value_of y ∷ map value_of (drop (i + 1) xs))) (sym is)

pub max_le_true : (a b r : ℕ) → nat_le a r ≡ true → nat_le (max a b) r ≡ nat_le b r
max_le_true a b r h = grind (arith, nat_tests)

pub max_le_false : (a b r : ℕ) → nat_le a r ≡ false → nat_le (max a b) r ≡ false
max_le_false a b r h = grind (arith, nat_tests)

-- ---- counting in one walk

-- a value without parts is as deep as any may be
pub no_depth : (left : ℕ) (long : Bool) → is_refused left 0 long ≡ long
no_depth left long = let e : nat_le 0 left ≡ true = grind (arith, nat_tests) in rw e

-- where no level is left no table and no array has room
pub no_room : (d : ℕ) (long : Bool) → is_refused 0 (suc d) long ≡ true
no_room d long = let e : nat_le (suc d) 0 ≡ false = grind (arith, nat_tests) in rw e

-- one level less
pub one_less : (left d : ℕ) (long : Bool) → 0 < left → is_refused left (suc d) long ≡ is_refused (left - 1) d long
one_less left d long h = let e : nat_le (suc d) left ≡ nat_le d (left - 1) = grind (arith, nat_tests) in rw e

-- n and the bytes of the values, as far as they are counted
abbrev pub values_total : ℕ → ℕ → List FieldValue → ℕ
values_total left n [] = n
values_total left n (v ∷ vs) =
    cond (nat_le (2 ^ 32) (n + (1 + value_count left v))) (2 ^ 32) (values_total left (n + (1 + value_count left v)) vs)

-- n and the bytes of the entries, as far as they are counted
abbrev pub entries_total : ℕ → ℕ → List Entry → ℕ
entries_total left n [] = n
entries_total left n (e ∷ es) =
    cond (nat_le (2 ^ 32) (n + (2 + length e.0 + value_count left e.1))) (2 ^ 32) (entries_total left (n + (2 + length e.0 + value_count left e.1)) es)

abbrev Total : Bool → ℕ → ℕ
Total refused n = cond (refused || nat_le (2 ^ 32) n) (2 ^ 32) n

too_many : (ls : Bool) (n : ℕ) → 2 ^ 32 ≤ n → Total ls n ≡ 2 ^ 32
too_many true n h = refl
too_many false n h = let e : nat_le (2 ^ 32) n ≡ true = grind (arith, nat_tests) in rw e

few : (n : ℕ) → n < 2 ^ 32 → n ≡ Total false n
few n h = let e : nat_le (2 ^ 32) n ≡ false = grind (arith, nat_tests) in rw e

one_more : (lv ls many : Bool) (n front len m rest : ℕ) → nat_le (2 ^ 32) (n + (front + cond lv (4 + 2 ^ 32) len)) ≡ many
    → (n + (front + cond lv (4 + 2 ^ 32) len) < 2 ^ 32 → rest ≡ Total ls (n + (front + cond lv (4 + 2 ^ 32) len) + m))
    → cond many (2 ^ 32) rest ≡ Total (lv || ls) (n + ((front + len) + m))
one_more true ls true n front len m rest is h = refl
one_more true ls false n front len m rest is h =
    let few : n + (front + (4 + 2 ^ 32)) < 2 ^ 32 = grind (arith, nat_tests) in omega (arith, few)
one_more false ls true n front len m rest is h =
    sym (too_many ls (n + ((front + len) + m)) (let e : 2 ^ 32 ≤ n + (front + len) = grind (arith, nat_tests) in omega (arith, e)))
one_more false ls false n front len m rest is h = h (grind (arith, nat_tests)) ∙ ap (Total ls) (omega arith)

or_true : (b : Bool) → (b || true) ≡ true
or_true true = refl
or_true false = refl

alike_of : (fa fb fm lv ls : Bool) → (fa ≡ true → fm ≡ fb) → (fa ≡ false → fm ≡ false)
    → (cond fa lv true || cond fb ls true) ≡ cond fm (lv || ls) true
alike_of true true fm lv ls t f = rw (t refl)
alike_of true false fm lv ls t f = rw (t refl) (or_true lv)
alike_of false fb fm lv ls t f = rw (f refl)

-- of two one is refused exactly where both together are
alike : (left a b : ℕ) (lv ls : Bool) → (is_refused left a lv || is_refused left b ls) ≡ is_refused left (max a b) (lv || ls)
alike left a b lv ls = alike_of (nat_le a left) (nat_le b left) (nat_le (max a b) left) lv ls (max_le_true a b left) (max_le_false a b left)

pub values_total-is : (left n : ℕ) (vs : List FieldValue) → n < 2 ^ 32 → values_total left n vs
    ≡ Total (is_refused left (values_depth (values_of vs)) (any_value_long (values_of vs))) (n + length (values_bytes (values_of vs)))
values_total-is left n [] h = few n h ∙ (let e : n ≡ n + 0 = omega arith in ap (Total false) e) ∙ ap (λ r. Total r (n + 0)) (sym (no_depth left false))
values_total-is left n (v ∷ vs) h =
    let bytes : ℕ = length (value_bytes v) in
    let more : ℕ = length (values_bytes (values_of vs)) in
    let next : ℕ = n + (1 + value_count left v) in
    let e : length (values_bytes (values_of (v ∷ vs))) ≡ (1 + bytes) + more = omega (arith, length-append (value_bytes v) (values_bytes (values_of vs))) in
    one_more (is_refused left (depth v) (is_long v)) (is_refused left (values_depth (values_of vs)) (any_value_long (values_of vs))) _ n 1 bytes more
    (values_total left next vs) refl (values_total-is left next vs)
    ∙ ap (λ r. Total r (n + ((1 + bytes) + more))) (alike left (depth v) (values_depth (values_of vs)) (is_long v) (any_value_long (values_of vs)))
    ∙ ap (λ m. Total (is_refused left (values_depth (values_of (v ∷ vs))) (any_value_long (values_of (v ∷ vs)))) (n + m)) (sym e)

pub entries_total-is : (left n : ℕ) (es : List Entry) → n < 2 ^ 32 → entries_total left n es
    ≡ Total (is_refused left (entries_depth (entries_of es)) (any_entry_long (entries_of es))) (n + length (entries_bytes (entries_of es)))
entries_total-is left n [] h = few n h ∙ (let e : n ≡ n + 0 = omega arith in ap (Total false) e) ∙ ap (λ r. Total r (n + 0)) (sym (no_depth left false))
entries_total-is left n (x ∷ es) h =
    let front : ℕ = 2 + length x.0 in
    let bytes : ℕ = length (value_bytes x.1) in
    let more : ℕ = length (entries_bytes (entries_of es)) in
    let next : ℕ = n + (front + value_count left x.1) in
    let e : length (entries_bytes (entries_of (x ∷ es))) ≡ (front + bytes) + more =
    omega (arith, length-append x.0 (tagged_bytes x.1), length-append (x.0 ++ tagged_bytes x.1) (entries_bytes (entries_of es))) in
    one_more (is_refused left (depth x.1) (is_long x.1)) (is_refused left (entries_depth (entries_of es)) (any_entry_long (entries_of es))) _ n front bytes more
    (entries_total left next es) refl (entries_total-is left next es)
    ∙ ap (λ r. Total r (n + ((front + bytes) + more))) (alike left (depth x.1) (entries_depth (entries_of es)) (is_long x.1) (any_entry_long (entries_of es)))
    ∙ ap (λ m. Total (is_refused left (entries_depth (entries_of (x ∷ es))) (any_entry_long (entries_of (x ∷ es)))) (n + m)) (sym e)

outer : (fits long much : Bool) (n : ℕ) → cond (cond fits long true || much) (2 ^ 32) n ≡ cond (cond fits (long || much) true) (2 ^ 32) n
outer true long much n = refl
outer false long much n = refl

-- Counting the bytes of the values of an array gives their length, or the most where the array is refused.
pub values_counted : (left : ℕ) (vs : List FieldValue) → values_total left 0 vs ≡ values_count left vs
values_counted left vs =
    let bytes : ℕ = length (values_bytes (values_of vs)) in
    let e : 0 + bytes ≡ bytes = omega arith in
    values_total-is left 0 vs (omega arith)
    ∙ ap (Total (is_refused left (values_depth (values_of vs)) (any_value_long (values_of vs)))) e
    ∙ outer (nat_le (values_depth (values_of vs)) left) (any_value_long (values_of vs)) (nat_le (2 ^ 32) bytes) bytes

-- Counting the bytes of the entries of a table gives their length, or the most where the table is refused.
pub entries_counted : (left : ℕ) (es : List Entry) → entries_total left 0 es ≡ entries_count left es
entries_counted left es =
    let bytes : ℕ = length (entries_bytes (entries_of es)) in
    let e : 0 + bytes ≡ bytes = omega arith in
    entries_total-is left 0 es (omega arith)
    ∙ ap (Total (is_refused left (entries_depth (entries_of es)) (any_entry_long (entries_of es)))) e
    ∙ outer (nat_le (entries_depth (entries_of es)) left) (any_entry_long (entries_of es)) (nat_le (2 ^ 32) bytes) bytes

-- what has a size is not long
pub is_short : (deep long : Bool) (bytes : List ℕ) → IsOk (measured deep long bytes) → long ≡ false
is_short true long bytes h = absurd cc
is_short false true bytes h = absurd cc
is_short false false bytes h = refl
