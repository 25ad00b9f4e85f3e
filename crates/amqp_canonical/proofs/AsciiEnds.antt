-- Bytes whose first and last ones are ASCII, which may overlap.
use Rattle.std.proofs.Common.{◌≡◌, ℕ, ◌+◌, ◌-◌, ◌≤◌, ◌*◌, List, length, take, drop, ap, subst, ◌∙◌, arith}
use Rattle.std.proofs.lemmas.List.{take-append-drop, drop-drop}
use Rattle.std.proofs.lemmas.Str.{IsAscii-append, IsAscii-drop}
use Rattle.std.specs.Str.{IsAscii}

-- bytes whose first n and last n are ASCII, and which these cover, are ASCII
pub ascii_ends : (bytes : List ℕ) (n : ℕ) → n ≤ length bytes → length bytes ≤ 2 * n → IsAscii (take n bytes) → IsAscii (drop (length bytes - n) bytes)
    → IsAscii bytes
ascii_ends bytes n many few first last =
    let more = (2 * n) - length bytes in
    let sum : (length bytes - n) + more ≡ n = omega (arith, many, few) in
    let same : drop more (drop (length bytes - n) bytes) ≡ drop n bytes = drop-drop more (length bytes - n) bytes ∙ ap (λ (k : ℕ). drop k bytes) sum in
    let P : List ℕ → Type 0 = λ bs. IsAscii bs in
    let rest : IsAscii (drop n bytes) = subst P same (IsAscii-drop (drop (length bytes - n) bytes) more last) in
    subst P (take-append-drop n bytes) (IsAscii-append (take n bytes) (drop n bytes) first rest)
