-- Bytes that are written one after another.
use Rattle.std.proofs.Common.{◌≡◌, ℕ, ◌+◌, ◌≤◌, List, [], ◌++◌, length, take, drop, append-nil, append_assoc, refl, sym, ap, ap₂, ◌∙◌, arith}
use Rattle.std.proofs.lemmas.List.{length-append, length-take-le, length-drop, drop-drop, take_at, drop_at, drop_all, take-append-drop}
use Rattle.amqp_types.specs.Writing.{written}

-- Bytes written within a buffer leave its length.
pub written-length : (buf : List ℕ) (at : ℕ) (bytes : List ℕ) → at + length bytes ≤ length buf → length (written buf at bytes) ≡ length buf
unfolding written
written-length buf at bytes room =
    let behind = drop (at + length bytes) buf in
    omega
    (arith, length-append (take at buf) (bytes ++ behind), length-append bytes behind, length-take-le at buf (omega arith), length-drop (at + length bytes) buf)

-- The same, as `grind` picks it up: at each written list.
pub written_keeps_length : (buf : List ℕ) (at : ℕ) (bytes : List ℕ) → at + length bytes ≤ length buf
    → (written buf at bytes ≡ written buf at bytes) × (length (written buf at bytes) ≡ length buf)
written_keeps_length buf at bytes room = (refl, written-length buf at bytes room)

-- two parts written one after the other
pub written-written : (buf : List ℕ) (at place : ℕ) (first second : List ℕ) → place ≡ at + length first
    → at + length (first ++ second) ≤ length buf → written (written buf at first) place second ≡ written buf at (first ++ second)
unfolding written
written-written buf at place first second behind_first room =
    let front = take at buf in
    let behind = drop (at + length first) buf in
    let sum : (at + length first) + length second ≡ at + length (first ++ second) = omega (arith, length-append first second) in
    let regrouped : written buf at first ≡ (front ++ first) ++ behind = sym (append_assoc front first behind) in
    let long : length (front ++ first) ≡ place = omega (arith, length-append front first, length-take-le at buf (omega (arith, length-append first second))) in
    let before : take place (written buf at first) ≡ front ++ first = ap (take place) regrouped ∙ take_at (front ++ first) behind place long in
    let after : drop place (written buf at first) ≡ behind = ap (drop place) regrouped ∙ drop_at (front ++ first) behind place long in
    let last : drop (place + length second) (written buf at first) ≡ drop (at + length (first ++ second)) buf =
    sym (drop-drop (length second) place (written buf at first)) ∙ ap (drop (length second)) after
    ∙ drop-drop (length second) (at + length first) buf ∙ ap (λ k. drop k buf) sum in
    ap₂ (λ a b. a ++ (second ++ b)) before last ∙ append_assoc front first (second ++ drop (at + length (first ++ second)) buf)
    ∙ ap (λ r. front ++ r) (sym (append_assoc first second (drop (at + length (first ++ second)) buf)))

-- The same, from the whole to its parts: `grind` picks it up at each written list of two parts.
pub written_parts : (buf : List ℕ) (at : ℕ) (first second : List ℕ) → at + length (first ++ second) ≤ length buf
    → written buf at (first ++ second) ≡ written (written buf at first) (at + length first) second
written_parts buf at first second room = sym (written-written buf at (at + length first) first second refl room)

-- bytes in the place of as many at the end
pub written_end : (old zeros bytes : List ℕ) (at : ℕ) → at ≡ length old → length zeros ≡ length bytes → written (old ++ zeros) at bytes ≡ old ++ bytes
unfolding written
written_end old zeros bytes at place len =
    let none : drop (at + length bytes) (old ++ zeros) ≡ [] = drop_all (at + length bytes) (old ++ zeros) (omega (arith, length-append old zeros)) in
    rw (take_at old zeros at (sym place), none) (ap (λ (x : List ℕ). old ++ x) (append-nil bytes))

-- Writing no bytes leaves the buffer as it was.
pub written-nil : (buf : List ℕ) (at : ℕ) → written buf at [] ≡ buf
unfolding written
written-nil buf at = let here : at + 0 ≡ at = omega arith in ap (λ (n : ℕ). take at buf ++ drop n buf) here ∙ take-append-drop at buf
