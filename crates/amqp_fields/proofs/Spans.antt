-- Where bytes stand in a payload: those of strings, keys, tables and arrays.
use Rattle.std.proofs.Common.{length-drop, length-take-le, drop-drop, take-take, ◌≡◌, ℕ, zero, suc, ◌+◌, ◌-◌, ◌<◌, ◌≤◌, nat_lt, List, [], ◌∷◌, length, take}
use Rattle.std.proofs.Common.{drop, refl, sym, ap, ◌∙◌, arith}
use Rattle.amqp_fields.proofs.Names.{nat_tests, drop-take, take_rest, bind_took, guard_took, value_took, count_took, took, NumberWidth, bytes4, byte_count}
use Rattle.amqp_fields.proofs.Names.{judge_number, judge_short_string, judge_long_string, key_in, cut_byte, IsSpan}
use Rattle.amqp_canonical.proofs.ReadParts.{text_parts}

-- the bytes stand in the payload, and end at a place
pub record Stands (payload : List ℕ) (end : ℕ) (bytes : List ℕ) : Type 0 where
  pub within : end ≤ length payload
  pub fits : length bytes ≤ end
  pub is : take (length bytes) (drop (end - length bytes) payload) ≡ bytes

-- a payload stands in itself
pub itself : (payload : List ℕ) → Stands payload (length payload) payload
itself payload =
    record {
      within = omega arith;
      fits = omega arith;
      is =
          ap (λ k. take (length payload) (drop k payload)) {x = length payload - length payload} {y = 0} (omega arith)
          ∙ ap (λ k. take k payload) {x = length payload} {y = length payload - 0} (omega arith) ∙ take_rest payload 0;
    }

-- so many bytes, after so many others
pub stands_part : (payload bytes : List ℕ) (end k n : ℕ) → Stands payload end bytes
    → k + n ≤ length bytes → Stands payload (end - length (drop (k + n) bytes)) (take n (drop k bytes))
stands_part payload bytes end k n h few =
    let rest : length (drop (k + n) bytes) ≡ length bytes - (k + n) = length-drop (k + n) bytes in
    let size : length (take n (drop k bytes)) ≡ n = length-take-le n (drop k bytes) (omega (arith, length-drop k bytes)) in
    let start = end - length bytes in
    let m = length bytes - k in
    let whole : drop k bytes ≡ take m (drop (start + k) payload) =
    ap (drop k) (sym h.is ∙ ap (λ l. take l (drop start payload)) {x = length bytes} {y = k + m} (omega arith))
    ∙ drop-take k m (drop start payload) ∙ ap (take m) (drop-drop k start payload) in
    let place : end - length (drop (k + n) bytes) - length (take n (drop k bytes)) ≡ start + k = omega arith in
    record {
      within = omega arith;
      fits = omega arith;
      is = ap (λ l. take l (drop (end - length (drop (k + n) bytes) - length (take n (drop k bytes))) payload)) size ∙ ap (λ s. take n (drop s payload)) place
          ∙ sym (ap (take n) whole ∙ take-take n m (drop (start + k) payload) (omega arith));
    }

-- the bytes after so many
pub stands_drop : (payload bytes : List ℕ) (end k : ℕ) → Stands payload end bytes → k ≤ length bytes → Stands payload end (drop k bytes)
stands_drop payload bytes end k h few =
    let part = stands_part payload bytes end k (length bytes - k) h (omega arith) in
    let none : end - length (drop (k + (length bytes - k)) bytes) ≡ end = omega (arith, length-drop (k + (length bytes - k)) bytes) in
    rw (none, take_rest) at part

-- ---- as spans

-- bytes that stand in the payload are a span of it
pub span_of : (payload bytes : List ℕ) (end : ℕ) → Stands payload end bytes → IsSpan payload (end - length bytes) (length bytes) bytes
span_of payload bytes end h = record { within = omega arith; bytes_are = h.is }

-- a place that a byte holds is not cut
pub byte_below : (n : ℕ) → n < 256 → cut_byte n ≡ n
byte_below n h = grind (arith, nat_tests)

-- ---- what strings are that were read

-- after so many bytes of length
pub record IsPart (bytes content : List ℕ) (front used : ℕ) : Type 0 where
  pub used_is : used ≡ front + length content
  pub within : used ≤ length bytes
  pub is : content ≡ take (length content) (drop front bytes)

-- the content behind a length stands where the bytes after it begin
pub part_stands : (payload bytes content : List ℕ) (end front used : ℕ) → Stands payload end bytes
    → IsPart bytes content front used → Stands payload (end - length (drop used bytes)) content
part_stands payload bytes content end front used h part =
    let stands = stands_part payload bytes end front (length content) h (omega arith) in
    rw (← part.used_is, ← part.is) at stands

-- a number takes as many bytes as its width
pub number_took : (width : NumberWidth) (bytes : List ℕ) (x n : ℕ) → judge_number width bytes ≡ took x n → (n ≡ byte_count width) × (n ≤ length bytes)
number_took width bytes _ _ h =
    let one = guard_took (nat_lt (length bytes) (byte_count width)) _ _ _ h in
    let size = count_took _ _ _ _ one.1 in
    (sym size, let e = one.0 in grind (arith, nat_tests))

-- a long string stands behind a length of 4 bytes
pub long_part : (bytes content : List ℕ) (used : ℕ) → judge_long_string bytes ≡ took content used → IsPart bytes content 4 used
unfolding judge_long_string
long_part bytes content used h =
    let one = bind_took (judge_number bytes4 bytes) _ _ _ h in
    let front = number_took bytes4 bytes _ _ one.2 in
    let test = guard_took (nat_lt (length (drop one.1 bytes)) one.0) _ _ _ one.3 in
    let is : take one.0 (drop one.1 bytes) ≡ content = value_took _ _ _ _ test.1 in
    let count : one.1 + one.0 ≡ used = count_took _ _ _ _ test.1 in
    let room : one.0 ≤ length (drop one.1 bytes) = let e = test.0 in grind (arith, nat_tests) in
    let size : length content ≡ one.0 = ap length (sym is) ∙ length-take-le one.0 (drop one.1 bytes) room in
    record {
      used_is = omega arith;
      within = omega (arith, length-drop one.1 bytes);
      is = sym is ∙ ap (λ k. take k (drop one.1 bytes)) (sym size) ∙ ap (λ k. take (length content) (drop k bytes)) front.0;
    }

front_of : (bytes : List ℕ) (k : ℕ) → k ≡ length (key_in bytes) → 1 + k ≤ length bytes → key_in bytes ≡ take k (drop 1 bytes)
front_of [] k is few = absurd (omega arith)
front_of (n ∷ bytes) k is few = sym (ap (λ j. take j bytes) is ∙ take_length n bytes)
  where
    take_length : (n : ℕ) (xs : List ℕ) → take (length (take n xs)) xs ≡ take n xs
    take_length zero xs = refl
    take_length (suc n) [] = refl
    take_length (suc n) (x ∷ xs) = ap (λ (ys : List ℕ). x ∷ ys) (take_length n xs)

-- a short string stands behind a length of 1 byte
pub short_part : (bytes text : List ℕ) (used : ℕ) → judge_short_string bytes ≡ took text used → IsPart bytes text 1 used
short_part bytes text used h =
    let parts = text_parts bytes text used h in
    let size : length text ≡ length (key_in bytes) = ap length parts.0 in
    record {
      used_is = omega arith;
      within = omega arith;
      is = parts.0 ∙ front_of bytes (length text) size (omega arith);
    }
