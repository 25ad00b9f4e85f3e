-- Numbers of each width are read as they are written.
use Rattle.std.proofs.Common.{◌≡◌, ℕ, ◌<◌, ◌≤◌, Bool, true, false, cond, ltb, List, [], ◌∷◌, ◌++◌, length, take, refl, sym, ap, ap₂, subst, ◌∙◌, arith}
use Rattle.std.specs.Int.{w8, from_be_bytes, to_be_bytes}
use Rattle.std.proofs.lemmas.Bool.{ltb-false, le-ltb}
use Rattle.std.proofs.lemmas.List.{take_at, length-append, length-take}
use Rattle.std.proofs.lemmas.Nat.{be_bytes_2, from_be_bytes-to_be_bytes_2, be_bytes_4, be_bytes_8, from_be_bytes-to_be_bytes_4, from_be_bytes-to_be_bytes_8}
use Rattle.std.proofs.Math.Nat.{mod-eq_of_lt}
use Rattle.amqp_types.specs.Judging.{took, past, IsBytes, IsExact}
use Rattle.amqp_types.specs.Numbers.{NumberWidth, bytes1, bytes2, bytes4, bytes8, width_of, byte_count, number_limit, number_bytes, SpellsNumber, judge_number}
use Rattle.amqp_types.proofs.Bytes.{IsBytes-take}

-- bytes of a width and numbers below its limit are the same
record IsWide (width : NumberWidth) : Type 0 where
  len : (n : ℕ) → length (number_bytes width n) ≡ byte_count width
  back : (bytes : List ℕ) → length bytes ≡ byte_count width → IsBytes bytes → number_bytes width (from_be_bytes (width_of width) bytes) ≡ bytes
  again : (n : ℕ) → n < number_limit width → from_be_bytes (width_of width) (number_bytes width n) ≡ n
  below : (bytes : List ℕ) → IsBytes bytes → from_be_bytes (width_of width) bytes < number_limit width

one_back : (bytes : List ℕ) → length bytes ≡ 1 → IsBytes bytes → to_be_bytes w8 (from_be_bytes w8 bytes) ≡ bytes
one_back [] len fits = absurd cc
one_back (b ∷ []) len fits = ap (λ (n : ℕ). n ∷ []) (mod-eq_of_lt (fits 0))
one_back (b ∷ c ∷ bytes) len fits = absurd (omega arith)

wide : (width : NumberWidth) → IsWide width
wide bytes1 = record {
  len = λ n. refl;
  back = λ bytes len fits. one_back bytes len fits;
  again = λ n lt. mod-eq_of_lt lt;
  below = λ bytes fits. fits 0;
}
wide bytes2 = record {
  len = λ n. refl;
  back = λ bytes len fits. be_bytes_2 bytes _ len fits refl;
  again = λ n lt. from_be_bytes-to_be_bytes_2 n lt;
  below = λ bytes fits. omega (arith, fits 0, fits 1);
}
wide bytes4 = record {
  len = λ n. refl;
  back = λ bytes len fits. be_bytes_4 bytes _ len fits refl;
  again = λ n lt. from_be_bytes-to_be_bytes_4 n lt;
  below = λ bytes fits. omega (arith, fits 0, fits 1, fits 2, fits 3);
}
wide bytes8 = record {
  len = λ n. refl;
  back = λ bytes len fits. be_bytes_8 bytes _ len fits refl;
  again = λ n lt. from_be_bytes-to_be_bytes_8 n lt;
  below = λ bytes fits. omega (arith, fits 0, fits 1, fits 2, fits 3, fits 4, fits 5, fits 6, fits 7);
}

-- A number of a width is encoded in as many bytes as the width has.
pub number_bytes-length : (width : NumberWidth) (n : ℕ) → length (number_bytes width n) ≡ byte_count width
number_bytes-length width n = let w = wide width in w.len n

-- what a test on the length lets through
guarded : {A : Type 0} (short : Bool) (x y : A) (n k : ℕ) → cond short past (took x n) ≡ took y k → (short ≡ false) × (x ≡ y) × (n ≡ k)
guarded true x y n k e = absurd cc
guarded false x y n k e = (refl, cc, cc)

number_spelled : (width : NumberWidth) (bytes : List ℕ) (x n : ℕ) → IsBytes bytes
    → judge_number width bytes ≡ took x n → SpellsNumber width (take n bytes) x × (n ≤ length bytes)
number_spelled width bytes x n fits h =
    let w = wide width in
    let front = take (byte_count width) bytes in
    let g = guarded (ltb (length bytes) (byte_count width)) (from_be_bytes (width_of width) front) x (byte_count width) n h in
    let long : byte_count width ≤ length bytes = ltb-false _ _ g.0 in
    let ok = IsBytes-take (byte_count width) bytes fits in
    let front_is : front ≡ number_bytes width x =
    sym (ap (number_bytes width) (sym g.1) ∙ w.back front (omega (arith, length-take (byte_count width) bytes)) ok) in (
      record {
        fits = subst (λ (k : ℕ). k < number_limit width) g.1 (w.below front ok);
        bytes_are = subst (λ (k : ℕ). take k bytes ≡ number_bytes width x) g.2 front_is;
      },
      omega (arith, g.2, long),
    )

number_taken : (width : NumberWidth) (bytes rest : List ℕ) (x : ℕ) → SpellsNumber width bytes x → judge_number width (bytes ++ rest) ≡ took x (length bytes)
number_taken width bytes rest x h =
    let w = wide width in
    let len : length bytes ≡ byte_count width = ap length h.bytes_are ∙ w.len x in
    let long : ltb (length (bytes ++ rest)) (byte_count width) ≡ false = le-ltb _ _ (omega (arith, length-append bytes rest)) in
    rw long (ap₂ (λ a b. took a b) (ap (from_be_bytes (width_of width)) (take_at bytes rest (byte_count width) len ∙ h.bytes_are) ∙ w.again x h.fits) (sym len))

-- Decoding a number takes exactly what encodes it.
pub number_exact : (width : NumberWidth) → IsExact (judge_number width) (SpellsNumber width)
number_exact width = record { spelled = number_spelled width; taken = number_taken width }
