-- The lengths of generated frames, and of the stream.
use Rattle.amqp_stream.proofs
use proofs.Names.{◌≡◌, ℕ, zero, suc, ◌+◌, ◌*◌, ◌%◌, ◌<◌, ◌≤◌, Bool, true, false, List, length, ap, ◌∙◌, inl, inr, arith, ◌==◌, if◌then◌else◌, length-append}
use proofs.Names.{cases_lt, nat_tests, made_frame, made_from, made_channel, made_payload, select_payload, declare_payload}
use Rattle.std.proofs.Common.{◌/◌, zero-add}
use Rattle.amqp_wire.proofs.Sizes.{framed_length}
use Rattle.amqp_stream.specs.Made.{made, most_frames}

-- the length of a frame, by its number modulo 4
abbrev pub length_by : ℕ → ℕ
length_by k = if k == 0 then 9 else (if k == 1 then 9 else (if k == 2 then 13 else 28))

-- What holds of each of four pairs holds of the pair that tests choose.
pub by_four : {A B : Type 0} (P : A → B → Type 0) (first second third : Bool) (a b c d : A) (f g h k : B) → P a f → P b g → P c h → P d k
    → P (if first then a else (if second then b else (if third then c else d))) (if first then f else (if second then g else (if third then h else k)))
by_four P true second third a b c d f g h k pa pb pc pd = pa
by_four P false true third a b c d f g h k pa pb pc pd = pb
by_four P false false true a b c d f g h k pa pb pc pd = pc
by_four P false false false a b c d f g h k pa pb pc pd = pd

pub made_frame-length : (i : ℕ) → length (made_frame i) ≡ length_by (i % 4)
unfolding made_frame
made_frame-length i =
    by_four (λ (bytes : List ℕ) n. length bytes ≡ n) (i % 4 == 0) (i % 4 == 1) (i % 4 == 2) _ _ _ _ _ _ _ _
    (framed_length 8 0 (made_payload i)) (framed_length 3 (made_channel i) (made_payload i))
    (framed_length 1 (made_channel i) select_payload) (framed_length 1 (made_channel i) declare_payload)

length_by-bounds : (k : ℕ) → (0 < length_by k) × (length_by k ≤ 28)
length_by-bounds k = (grind (arith, nat_tests), grind (arith, nat_tests))

-- No generated frame is empty.
pub made_frame-some : (i : ℕ) → 0 < length (made_frame i)
made_frame-some i = omega (arith, made_frame-length i, (length_by-bounds (i % 4)).0)

-- No generated frame has more than 28 bytes.
pub made_frame-short : (i : ℕ) → length (made_frame i) ≤ 28
made_frame-short i = omega (arith, made_frame-length i, (length_by-bounds (i % 4)).1)

-- the number of bytes of the last few frames, after all whole groups of four
abbrev pub rest_length : ℕ → ℕ
rest_length k = if k == 0 then 0 else (if k == 1 then 9 else (if k == 2 then 18 else 31))

-- the number of bytes of n frames: four frames have 59
abbrev pub made_length : ℕ → ℕ
made_length n = 59 * (n / 4) + rest_length (n % 4)

-- one more frame, by the quotient q and the remainder k
one_more : (q k p j : ℕ) → k < 4 → j < 4 → 4 * p + j ≡ 4 * q + k + 1 → length_by k + (59 * q + rest_length k) ≡ 59 * p + rest_length j
one_more q k p j h g e = grind (arith, nat_tests)

made_length-one : (i : ℕ) → length_by (i % 4) + made_length i ≡ made_length (i + 1)
made_length-one i = one_more (i / 4) (i % 4) ((i + 1) / 4) ((i + 1) % 4) (omega arith) (omega arith) (omega arith)

made_from-length : (i n : ℕ) → length (made_from i n) + made_length i ≡ made_length (i + n)
made_from-length i zero = zero-add (made_length i) ∙ ap made_length {x = i} {y = i + 0} (omega arith)
made_from-length i (suc n) =
    let more : made_length ((i + 1) + n) ≡ made_length (i + suc n) = ap made_length {x = (i + 1) + n} {y = i + suc n} (omega arith) in
    omega (arith, length-append (made_frame i) (made_from (i + 1) n), made_frame-length i, made_length-one i, made_from-length (i + 1) n)

-- The number of bytes of so many generated frames, by a formula.
pub made-length : (n : ℕ) → length (made n) ≡ made_length n
made-length n =
    let all : made_length (0 + n) ≡ made_length n = ap made_length {x = 0 + n} {y = n} (omega arith) in
    omega (arith, made_from-length 0 n)

rest_length-bounds : (k : ℕ) → (rest_length k ≤ 31) × (k ≡ 0 → rest_length k ≡ 0)
rest_length-bounds k = (grind (arith, nat_tests), λ e. grind (arith, nat_tests))

-- even the longest stream is short
pub made-short : (n : ℕ) → n ≤ most_frames → length (made n) ≤ 1475000
made-short n h =
    let len = made-length n in
    let bounds = rest_length-bounds (n % 4) in
    elim (cases_lt (n / 4) 25000) [
      | inl fewer ↦ omega arith
      | inr most ↦ omega (arith, bounds.1 (omega arith))
    ]
