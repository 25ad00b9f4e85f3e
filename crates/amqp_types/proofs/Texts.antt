-- Signed numbers and strings are read as they are written.
use Rattle.std.proofs.Common.{◌≡◌, ℕ, ℤ, suc, ◌+◌, ◌≤◌, nat_lt, ltb, true, cond, List, [], ◌∷◌, ◌++◌, length, take, drop, refl, sym, ap}
use Rattle.std.proofs.Common.{ap₂, ◌∙◌, append_assoc, arith}
use Rattle.std.proofs.lemmas.Bool.{ltb-false, le-ltb}
use Rattle.std.proofs.lemmas.List.{length-append, length-take-le, length-drop, take_at, drop_at}
use Rattle.std.proofs.lemmas.Str.{IsUtf8-from_is_utf8, is_utf8-from_IsUtf8}
use Rattle.std.proofs.Math.Seq.{take-add}
use Rattle.std.specs.Int.{cast_signed}
use Rattle.std.specs.Str.{is_utf8}
use Rattle.amqp_types.specs.Judging.{Judged, took, past, ◌>>=◌, IsBytes, IsExact}
use Rattle.amqp_types.specs.Numbers.{NumberWidth, bytes4, width_of, number_bytes, judge_number, SpellsNumber}
use Rattle.amqp_types.specs.Signed.{judge_signed, SpellsSigned}
use Rattle.amqp_types.specs.Strings.{judge_short_string, judge_long_string, SpellsShortString, SpellsLongString}
use Rattle.amqp_types.proofs.Numbers.{number_exact}
use Rattle.amqp_types.proofs.Sequences.{map_spelled, map_taken}
use Rattle.amqp_types.proofs.Took.{bind_took, guard_took, test_took, value_took, count_took}

signed_taken : (width : NumberWidth) (bytes rest : List ℕ) (n : ℤ) → SpellsSigned width bytes n → judge_signed width (bytes ++ rest) ≡ took n (length bytes)
signed_taken width bytes rest n h =
    map_taken (cast_signed (width_of width)) (judge_number width) (SpellsNumber width) (number_exact width) bytes rest h.bits h.spelled
    ∙ ap (λ (m : ℤ). took m (length bytes)) (sym h.means)

-- Decoding a signed number takes exactly what encodes it.
pub signed_exact : (width : NumberWidth) → IsExact (judge_signed width) (SpellsSigned width)
signed_exact width = record {
  spelled =
      map_spelled (cast_signed (width_of width)) (judge_number width) (SpellsNumber width) (SpellsSigned width)
      (number_exact width) (λ bytes bits h. record { bits = bits; spelled = h; means = refl });
  taken = signed_taken width;
}

-- a test that there are as many bytes
enough : {B : Type 0} (there wanted : ℕ) (j : Judged B) → wanted ≤ there → cond (ltb there wanted) past j ≡ j
enough there wanted j h = rw (le-ltb there wanted h) refl

-- ---- long strings

long_string_spelled : (bytes content : List ℕ) (n : ℕ) → IsBytes bytes
    → judge_long_string bytes ≡ took content n → SpellsLongString (take n bytes) content × (n ≤ length bytes)
unfolding judge_long_string
long_string_spelled bytes content n fits h =
    let number = bind_took (judge_number bytes4 bytes) _ content n h in
    let exact = number_exact bytes4 in
    let four = exact.spelled bytes number.0 number.1 fits number.2 in
    let behind = drop number.1 bytes in
    let g = guard_took (nat_lt (length behind) number.0) _ content n number.3 in
    let le : number.0 ≤ length behind = ltb-false _ _ g.0 in
    let is : take number.0 behind ≡ content = value_took _ content _ n g.1 in
    let count : number.1 + number.0 ≡ n = count_took _ content _ n g.1 in
    let long : length content ≡ number.0 = sym (ap length is) ∙ length-take-le number.0 behind le in (
      record {
        fits = omega (arith, four.0.fits, long);
        bytes_are =
            ap (λ m. take m bytes) (sym count) ∙ take-add number.1 number.0 bytes
            ∙ ap₂ (λ a b. a ++ b) (four.0.bytes_are ∙ ap (number_bytes bytes4) (sym long)) is;
      },
      omega (arith, four.1, le, length-drop number.1 bytes, count),
    )

long_string_taken : (bytes rest content : List ℕ) → SpellsLongString bytes content → judge_long_string (bytes ++ rest) ≡ took content (length bytes)
unfolding judge_long_string
long_string_taken bytes rest content h =
    let n = length content in
    let four = number_bytes bytes4 n in
    let tail = content ++ rest in
    let all : bytes ++ rest ≡ four ++ tail = ap (λ bs. bs ++ rest) h.bytes_are ∙ append_assoc four content rest in
    let exact = number_exact bytes4 in
    let number : judge_number bytes4 (four ++ tail) ≡ took n 4 = exact.taken four tail n (record { fits = h.fits; bytes_are = refl }) in
    let room : n ≤ length (drop 4 (four ++ tail)) = omega (arith, length-append content rest, ap length (drop_at four tail 4 refl)) in
    let count : 4 + n ≡ length bytes = sym (ap length h.bytes_are ∙ omega arith) in
    ap judge_long_string all
    ∙ ap (λ j. j >>= λ m. cond (nat_lt (length (drop m.1 (four ++ tail))) m.0) past (took (take m.0 (drop m.1 (four ++ tail))) (m.1 + m.0))) number
    ∙ enough (length (drop 4 (four ++ tail))) n _ room ∙ ap₂ (λ x m. took x m) (ap (take n) (drop_at four tail 4 refl) ∙ take_at content rest n refl) count

-- Decoding a long string takes exactly what encodes it.
pub long_string_exact : IsExact judge_long_string SpellsLongString
long_string_exact = record { spelled = long_string_spelled; taken = long_string_taken }

-- ---- short strings

short_string_spelled : (bytes text : List ℕ) (n : ℕ) → IsBytes bytes
    → judge_short_string bytes ≡ took text n → SpellsShortString (take n bytes) text × (n ≤ length bytes)
unfolding judge_short_string
short_string_spelled [] text n fits h = cc
short_string_spelled (c ∷ bytes) text n fits h =
    let g = guard_took (nat_lt (length bytes) c) _ text n h in
    let le : c ≤ length bytes = ltb-false _ _ g.0 in
    let u = test_took (is_utf8 (take c bytes)) _ _ text n g.1 in
    let is : take c bytes ≡ text = value_took _ text (1 + c) n u.1 in
    let count : 1 + c ≡ n = count_took _ text (1 + c) n u.1 in
    let long : length text ≡ c = sym (ap length is) ∙ length-take-le c bytes le in
    let one : suc c ≡ n = omega arith in (
      record {
        fits = omega (arith, fits 0, long);
        utf8 = IsUtf8-from_is_utf8 text (ap is_utf8 (sym is) ∙ u.0);
        bytes_are = ap (λ m. take m (c ∷ bytes)) (sym one) ∙ ap₂ (λ x y. x ∷ y) (sym long) is;
      },
      omega arith,
    )

short_string_taken : (bytes rest text : List ℕ) → SpellsShortString bytes text → judge_short_string (bytes ++ rest) ≡ took text (length bytes)
unfolding judge_short_string
short_string_taken bytes rest text h =
    let n = length text in
    let all : bytes ++ rest ≡ n ∷ (text ++ rest) = ap (λ bs. bs ++ rest) h.bytes_are in
    let is : take n (text ++ rest) ≡ text = take_at text rest n refl in
    let utf8 : is_utf8 (take n (text ++ rest)) ≡ true = ap is_utf8 is ∙ is_utf8-from_IsUtf8 text h.utf8 in
    let count : 1 + n ≡ length bytes = sym (ap length h.bytes_are ∙ omega arith) in
    ap judge_short_string all ∙ enough (length (text ++ rest)) n _ (omega (arith, length-append text rest)) ∙ rw utf8 (ap₂ (λ x m. took x m) is count)

-- Decoding a short string takes exactly what encodes it.
pub short_string_exact : IsExact judge_short_string SpellsShortString
short_string_exact = record { spelled = short_string_spelled; taken = short_string_taken }
