-- Bytes that are put by their first and their last ones, which may overlap.
use Rattle.std.proofs.Common.{◌≡◌, ℕ, ◌+◌, ◌-◌, ◌≤◌, ◌*◌, List, ◌++◌, length, take, drop, refl, sym, ap, ap₂, ◌∙◌, arith}
use Rattle.std.proofs.lemmas.List.{take-append-drop, take-take, drop-drop, take_at, drop_at, length-append, length-take-le, length-drop}
use Rattle.amqp_types.specs.Writing.{written, Puts}
use Rattle.amqp_types.proofs.WrittenParts.{written-written, written-length}

-- bytes in the place of others that are no more
overwritten : (buf : List ℕ) (at : ℕ) (first second : List ℕ) → at ≤ length buf → length first ≤ length second
    → written (written buf at first) at second ≡ written buf at second
unfolding written
overwritten buf at first second within longer =
    let front = take at buf in
    let rest = drop (at + length first) buf in
    let more = length second - length first in
    let long : length front ≡ at = length-take-le at buf within in
    let before : take at (front ++ (first ++ rest)) ≡ front = take_at front (first ++ rest) at long in
    let behind : drop at (front ++ (first ++ rest)) ≡ first ++ rest = drop_at front (first ++ rest) at long in
    let both : length second ≡ length first + more = omega (arith, longer) in
    let end : (at + length first) + more ≡ at + length second = omega (arith, longer) in
    let past : drop (length second) (first ++ rest) ≡ drop (at + length second) buf =
    ap (λ (k : ℕ). drop k (first ++ rest)) both ∙ sym (drop-drop more (length first) (first ++ rest)) ∙ ap (drop more) (drop_at first rest (length first) refl)
    ∙ drop-drop more (at + length first) buf ∙ ap (λ (k : ℕ). drop k buf) end in
    let after : drop (at + length second) (front ++ (first ++ rest)) ≡ drop (at + length second) buf =
    sym (drop-drop (length second) at (front ++ (first ++ rest))) ∙ ap (drop (length second)) behind ∙ past in
    ap₂ (λ (a b : List ℕ). a ++ (second ++ b)) before after

-- the first n and the last n bytes, put one after the other, put all where they cover them
pub ends : (old middle new bytes : List ℕ) (at n place end back : ℕ) → n ≤ length bytes → length bytes ≤ 2 * n → at + length bytes ≤ length old
    → back ≡ (at + length bytes) - n
    → Puts old middle at (take n bytes) place → Puts middle new back (drop (length bytes - n) bytes) end → Puts old new at bytes end
ends old middle new bytes at n place end back many few room is one two =
    let k = length bytes - n in
    let front = take k bytes in
    let inner = drop k (take n bytes) in
    let last = drop k bytes in
    let base = written old at front in
    let below : k ≤ n = omega (arith, many, few) in
    let front_long : length front ≡ k = length-take-le k bytes (omega arith) in
    let inner_long : length inner ≡ n - k = length-drop k (take n bytes) ∙ ap (λ (m : ℕ). m - k) (length-take-le n bytes many) in
    let last_long : length last ≡ n = length-drop k bytes ∙ omega (arith, many) in
    let parts : take n bytes ≡ front ++ inner = sym (ap (λ (f : List ℕ). f ++ inner) (sym (take-take k n bytes below)) ∙ take-append-drop k (take n bytes)) in
    let here : back ≡ at + length front = is ∙ omega (arith, many, front_long) in
    let short : at + length (front ++ inner) ≤ length old = omega (arith, many, room, below, length-append front inner, front_long, inner_long) in
    let long : at + length (front ++ last) ≤ length old = omega (arith, many, room, length-append front last, front_long, last_long) in
    let base_long : length base ≡ length old = written-length old at front (omega (arith, many, room, front_long)) in
    let first_put : middle ≡ written base back inner = one.put ∙ ap (written old at) parts ∙ sym (written-written old at back front inner here short) in
    record {
      put = two.put ∙ ap (λ (b : List ℕ). written b back last) first_put
          ∙ overwritten base back inner last (omega (arith, many, room, is, base_long)) (omega (arith, many, below, inner_long, last_long))
          ∙ written-written old at back front last here long ∙ ap (written old at) (take-append-drop k bytes);
      behind = two.behind ∙ omega (arith, many, is, last_long);
    }
