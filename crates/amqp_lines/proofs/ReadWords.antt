-- The words of a line are read back as the bytes that they stand for: numbers, hex, strings and flags.
use Rattle.amqp_lines.proofs
use proofs.Names.{◌≡◌, ◌⊎◌, ℕ, zero, suc, ◌+◌, ◌-◌, ◌*◌, ◌/◌, ◌%◌, ◌^◌, ◌<◌, ◌≤◌, List, [], ◌∷◌, ◌++◌, length, get_or, drop, take, Bool, true, false, cond}
use proofs.Names.{refl, ap, subst, ◌∙◌, append_assoc, arith, inl, inr, ◌==◌, pos, negsuc, flat_map, decimal, signed_decimal, cast_signed, eq-eqb, drop_at}
use proofs.Names.{take_at, IsBytes, NumberWidth, bytes1, bytes2, bytes4, bytes8, width_of, byte_count, number_limit, number_bytes, SpellsNumber}
use proofs.Names.{SpellsShortString, SpellsLongString, IsBytes-drop, hex_digit, hex_byte, hex, is_plain, escaped, quoted, sign, signs, Reader, followed}
use proofs.Names.{first_is, is_digit, read_digits, read_bits, last_bytes, read_number, read_signs, is_hex, nibble, read_hex, ends_at, listed, inside, or_comma}
use proofs.Names.{read_escaped, framed, read_string, numbers, lengths}
use Rattle.std.proofs.Common.{ltb}
use Rattle.std.specs.Int.{Width, w8}
use mir.Val.{bits, hbits, sel}
use Rattle.std.proofs.lemmas.Bool.{ltb-false}
use Rattle.std.proofs.lemmas.Fmt.{decimal_by_steps}
use Rattle.amqp_types.specs.Signed.{SpellsSigned}
use Rattle.amqp_types.specs.Flags.{bit_of, flags_byte}
use Rattle.amqp_types.proofs.Bytes.{IsBytes-take}
use Rattle.amqp_laws.proofs.Deciding.{or_left}
use Rattle.amqp_lines.specs.Reading.{below_zero}

-- what does not go on with a digit
abbrev pub Ends : List ℕ → Type 0
Ends [] = Unit {0}
Ends (c ∷ cs) = is_hex c ≡ false

-- what is encoded so is read from this text
abbrev pub IsReadAs : {A : Type 0} → Reader → (List ℕ → A → Type 0) → (A → List ℕ) → Type 0
IsReadAs {A} read Spells text = (bytes rest : List ℕ) (x : A) → IsBytes bytes → Spells bytes x → Ends rest → read (text x ++ rest) ≡ (bytes, rest)

-- ---- digits

digit_is : (d : ℕ) → d < 10 → is_digit (48 + d) ≡ true
unfolding is_digit
digit_is d h = grind numbers

next_digit : (m d n : ℕ) (rest : List ℕ) → d < 10 → n ≡ 10 * m + d → n < 2 ^ 64 → read_digits m ((48 + d) ∷ rest) ≡ read_digits n rest
unfolding read_digits
next_digit m d n rest small is fits =
    let next : (10 * m + (48 + d - 48)) % 2 ^ 64 ≡ n = omega arith in
    rw (digit_is d small, next)

digits_on : (n : ℕ) → n < 2 ^ 64 → n < 2 ^ 64 → (rest : List ℕ) → read_digits 0 (decimal n ++ rest) ≡ read_digits n rest
digits_on = decimal_by_steps (λ n ds. n < 2 ^ 64 → (rest : List ℕ) → read_digits 0 (ds ++ rest) ≡ read_digits n rest)
    (λ n small fits rest. next_digit 0 n n rest small (omega arith) fits)
    (λ n ds big front fits rest. ap (read_digits 0) (append_assoc ds ((48 + n % 10) ∷ []) rest)
    ∙ front (omega arith) _ ∙ next_digit (n / 10) (n % 10) n rest (omega arith) (omega arith) fits)

not_digit : (c : ℕ) → is_hex c ≡ false → is_digit c ≡ false
unfolding is_hex
not_digit c h = or_left _ _ h

digits_end : (n : ℕ) (rest : List ℕ) → Ends rest → read_digits n rest ≡ (n, rest)
unfolding read_digits
digits_end n [] e = refl
digits_end n (c ∷ cs) e = rw (not_digit c e)

-- a number does not begin with a sign
no_sign : (n : ℕ) → n < 2 ^ 64 → (rest : List ℕ) → 48 ≤ get_or (decimal n ++ rest) 0 0
no_sign = decimal_by_steps (λ n ds. (rest : List ℕ) → 48 ≤ get_or (ds ++ rest) 0 0)
    (λ n small rest. omega arith)
    (λ n ds big front rest. rw append_assoc (front ((48 + n % 10) ∷ rest)))

bits_plain : (text : List ℕ) → 48 ≤ get_or text 0 0 → read_bits text ≡ read_digits 0 text
unfolding read_bits
bits_plain [] h = absurd (omega arith)
bits_plain (c ∷ cs) h = let off : (c == 45) ≡ false = grind numbers in rw off

-- A number below 2^64 that is printed is read back as it was, where no digit follows.
pub bits_back : (n : ℕ) (rest : List ℕ) → n < 2 ^ 64 → Ends rest → read_bits (decimal n ++ rest) ≡ (n, rest)
bits_back n rest fits e = bits_plain _ (no_sign n fits rest) ∙ digits_on n fits fits rest ∙ digits_end n rest e

negative_back : (n : ℕ) (rest : List ℕ) → n < 2 ^ 64 → Ends rest → read_bits (45 ∷ (decimal n ++ rest)) ≡ ((2 ^ 64 - n) % 2 ^ 64, rest)
unfolding read_bits
negative_back n rest fits e = ap below_zero (digits_on n fits fits rest ∙ digits_end n rest e)

-- the bytes of a width are the last ones
last_number : (width : NumberWidth) (n : ℕ) → last_bytes (byte_count width) n ≡ number_bytes width n
last_number bytes1 n = refl
last_number width n = refl

number_read : (width : NumberWidth) (text rest : List ℕ) (n : ℕ) → read_bits text ≡ (n, rest)
    → read_number (byte_count width) text ≡ (number_bytes width n, rest)
unfolding read_number
number_read width text rest n h = rw (h, last_number width n)

limit_fits : (width : NumberWidth) (n : ℕ) → n < number_limit width → n < 2 ^ 64
limit_fits bytes1 n h = omega arith
limit_fits width n h = omega arith

-- A number that is printed is read back as its canonical bytes.
pub number_back : (width : NumberWidth) → IsReadAs (read_number (byte_count width)) (SpellsNumber width) decimal
number_back width bytes rest n fit h e = rw h.bytes_are (number_read width (decimal n ++ rest) rest n (bits_back n rest (limit_fits width n h.fits) e))

-- the bits of a signed number in two's complement, in more bytes than it has
record IsSignedBits (limit n : ℕ) (text rest : List ℕ) : Type 0 where
  wide : ℕ
  read : read_bits text ≡ (wide, rest)
  same : (wide ≡ n) ⊎ (wide + limit ≡ 2 ^ 64 + n)

signed_at : (w : Width) (n : ℕ) (rest : List ℕ) → n < 2 ^ bits w → 2 ^ bits w ≤ 2 ^ 64 → 0 < 2 ^ hbits w → Ends rest
    → IsSignedBits (2 ^ bits w) n (signed_decimal (sel (ltb n (2 ^ hbits w)) (pos n) (negsuc (2 ^ bits w - suc n))) ++ rest) rest
signed_at w n rest h within half e = by_half (ltb n (2 ^ hbits w)) refl
  where
    by_half : (low : Bool) → ltb n (2 ^ hbits w) ≡ low
        → IsSignedBits (2 ^ bits w) n (signed_decimal (sel low (pos n) (negsuc (2 ^ bits w - suc n))) ++ rest) rest
    by_half true is = record { wide = n; read = bits_back n rest (omega arith) e; same = inl refl }
    by_half false is =
        let some = ltb-false n (2 ^ hbits w) is in
        record {
          wide = (2 ^ 64 - suc (2 ^ bits w - suc n)) % 2 ^ 64;
          read = negative_back (suc (2 ^ bits w - suc n)) rest (omega (arith, some)) e;
          same = inr (omega (arith, some));
        }

signed_bits : (width : NumberWidth) (n : ℕ) (rest : List ℕ) → n < number_limit width → Ends rest
    → IsSignedBits (number_limit width) n (signed_decimal (cast_signed (width_of width) n) ++ rest) rest
signed_bits bytes1 n rest h e = signed_at w8 n rest h (omega arith) (omega arith) e
signed_bits width n rest h e = signed_at (width_of width) n rest h (omega arith) (omega arith) e

-- their last bytes are those of the number
low_bytes : (width : NumberWidth) (m n : ℕ) → m + number_limit width ≡ 2 ^ 64 + n → number_bytes width m ≡ number_bytes width n
low_bytes bytes1 m n h = ap (λ a. a ∷ []) (omega arith)
low_bytes bytes2 m n h = grind arith
low_bytes bytes4 m n h = grind arith
low_bytes bytes8 m n h = ap (number_bytes bytes8) (omega arith)

wide_bytes : (width : NumberWidth) {m n : ℕ} → (m ≡ n) ⊎ (m + number_limit width ≡ 2 ^ 64 + n) → number_bytes width m ≡ number_bytes width n
wide_bytes width (inl is) = ap (number_bytes width) is
wide_bytes width {m = m} {n = n} (inr is) = low_bytes width m n is

-- A signed number that is printed is read back as its canonical bytes.
pub signed_back : (width : NumberWidth) → IsReadAs (read_number (byte_count width)) (SpellsSigned width) signed_decimal
signed_back width bytes rest n fit h e =
    let s = signed_bits width h.bits rest h.spelled.fits e in
    rw (h.means, h.spelled.bytes_are, ← wide_bytes width s.same)
    (number_read width (signed_decimal (cast_signed (width_of width) h.bits) ++ rest) rest s.wide s.read)

-- ---- flags

-- The signs of flags are read back as their byte.
pub signs_back : (flags : List Bool) {rest : List ℕ} → flags_byte flags < 256 → read_signs (length flags) (signs flags ++ rest) ≡ (flags_byte flags, rest)
unfolding read_signs signs
signs_back [] h = refl
signs_back (flag ∷ flags) {rest = rest} h =
    let few : (bit_of flag + 2 * flags_byte flags) % 256 ≡ flags_byte (flag ∷ flags) = omega arith in
    rw (signs_back flags (omega arith), sign_is flag, few)
  where
    sign_is : (flag : Bool) → (sign flag == 43) ≡ flag
    sign_is true = refl
    sign_is false = refl

-- ---- hex

IsHexOf : ℕ → ℕ → Type 0
IsHexOf c n = (is_hex c ≡ true) × (nibble c ≡ n)

hex_back_digit : (n : ℕ) → n < 16 → IsHexOf (hex_digit n) n
unfolding IsHexOf hex_digit is_hex is_digit nibble
hex_back_digit n h = (grind numbers, grind numbers)

-- what does not begin with a digit is left
hex_end : (rest : List ℕ) → Ends rest → read_hex rest ≡ ([], rest)
unfolding read_hex
hex_end (a ∷ b ∷ cs) e = rw e
hex_end rest e = refl

-- The hex text of bytes is read back as these bytes.
pub hex_back : (bytes rest : List ℕ) → IsBytes bytes → Ends rest → read_hex (hex bytes ++ rest) ≡ (bytes, rest)
unfolding read_hex hex hex_byte IsHexOf
hex_back [] rest fits e = hex_end rest e
hex_back (byte ∷ bytes) rest fits e =
    let high = hex_back_digit (byte / 16) (let h = fits 0 in omega arith) in
    let low = hex_back_digit (byte % 16) (omega arith) in
    rw (high.0, hex_back bytes rest (λ i. fits (suc i)) e, high.1, low.1) (ap (λ n. (n ∷ bytes, rest)) (omega arith))

-- ---- things up to a closing character

-- A list ends at its closing character, and the rest follows.
pub listed_end : (item : Reader) (close fuel : ℕ) {rest : List ℕ} → listed item close fuel (close ∷ rest) ≡ ([], rest)
unfolding listed
listed_end item close zero = refl
listed_end item close (suc fuel) = rw (eq-eqb close close refl)

-- Before the closing character one thing of a list is read, and then the rest.
pub listed_item : (item : Reader) (close fuel : ℕ) (text : List ℕ) {bytes rest : List ℕ} → ends_at close text ≡ false
    → item text ≡ (bytes, rest) → listed item close (suc fuel) text ≡ followed (bytes, rest) (listed item close fuel)
unfolding listed
listed_item item close fuel text off is = rw (off, is)

-- A comma in a list is passed, and the rest is read.
pub listed_comma : (item : Reader) (close fuel : ℕ) (rest : List ℕ) {bytes end : List ℕ} → (44 == close) ≡ false
    → listed (or_comma item) close fuel rest ≡ (bytes, end) → listed (or_comma item) close (suc fuel) (44 ∷ rest) ≡ (bytes, end)
unfolding or_comma
listed_comma item close fuel rest apart h = rw (listed_item (or_comma item) close fuel (44 ∷ rest) apart refl, h)

-- the first character neither closes nor is a comma
pub record Begins (close comma : ℕ) (text : List ℕ) : Type 0 where
  pub some : 0 < length text
  pub no_close : ends_at close text ≡ false
  pub no_comma : first_is comma text ≡ false

-- A text that begins neither with the closing character nor with a comma does so with more after it too.
pub begins_more : {close comma : ℕ} {text : List ℕ} (rest : List ℕ) → Begins close comma text → Begins close comma (text ++ rest)
begins_more {text = []} rest h = absurd (let some = h.some in omega arith)
begins_more {text = c ∷ cs} rest h = record { some = omega arith; no_close = h.no_close; no_comma = h.no_comma }

-- ---- strings

escaped_hex : (b : ℕ) (rest : List ℕ) → b < 256 → read_escaped (92 ∷ hex_digit (b / 16) ∷ hex_digit (b % 16) ∷ rest) ≡ (b ∷ [], rest)
unfolding read_escaped IsHexOf
escaped_hex b rest h =
    let high = hex_back_digit (b / 16) (omega arith) in
    let low = hex_back_digit (b % 16) (omega arith) in
    rw (high.1, low.1) (ap (λ n. (n ∷ [], rest)) (omega arith))

-- what stands for a byte is read as it, and does not close a string
record IsEscape (text : List ℕ) (b : ℕ) : Type 0 where
  begins : Begins 34 34 text
  read : (rest : List ℕ) → read_escaped (text ++ rest) ≡ (b ∷ [], rest)

plain_escape : (b : ℕ) → is_plain b ≡ true → IsEscape (b ∷ []) b
unfolding is_plain read_escaped
plain_escape b h =
    let off : (b == 92) ≡ false = grind numbers in
    record { begins = record { some = omega arith; no_close = grind numbers; no_comma = grind numbers }; read = λ rest. rw off }

escape_back : (b : ℕ) → b < 256 → IsEscape (escaped b) b
unfolding escaped hex_byte
escape_back b h = by_case _ refl
  where
    by_case : (plain : Bool) → is_plain b ≡ plain → IsEscape (cond plain (b ∷ []) (92 ∷ hex_digit (b / 16) ∷ hex_digit (b % 16) ∷ [])) b
    by_case true e = plain_escape b e
    by_case false e = record { begins = record { some = omega arith; no_close = refl; no_comma = refl }; read = λ rest. escaped_hex b rest h }

text_count : (content : List ℕ) → ((i : ℕ) → get_or content i 0 < 256) → length content ≤ length (flat_map escaped content)
text_count [] fits = omega arith
text_count (b ∷ bs) fits =
    let one = escape_back b (fits 0) in
    let some = one.begins.some in
    omega (lengths, text_count bs (λ i. fits (suc i)))

string_on : (content : List ℕ) (fuel : ℕ) (rest : List ℕ) → IsBytes content → length content ≤ fuel
    → listed read_escaped 34 fuel (flat_map escaped content ++ (34 ∷ rest)) ≡ (content, rest)
string_on [] fuel rest fits few = listed_end read_escaped 34 fuel
string_on (b ∷ bs) zero rest fits few = absurd (omega arith)
string_on (b ∷ bs) (suc fuel) rest fits few =
    let one = escape_back b (fits 0) in
    let tail = flat_map escaped bs ++ (34 ∷ rest) in
    let read = listed_item read_escaped 34 fuel _ (begins_more tail one.begins).no_close (one.read tail) in
    rw (append_assoc (escaped b) (flat_map escaped bs) (34 ∷ rest), read, string_on bs fuel rest (λ i. fits (suc i)) (omega arith))

string_inside : (content rest : List ℕ) → IsBytes content → inside read_escaped 34 (quoted content ++ rest) ≡ (content, rest)
unfolding inside quoted
string_inside content rest fits =
    let text = flat_map escaped content in
    let count : length content ≤ length (34 ∷ ((text ++ 34 ∷ []) ++ rest)) =
    omega (lengths, text_count content fits) in
    cc (append_assoc text (34 ∷ []) rest, string_on content (length (34 ∷ ((text ++ 34 ∷ []) ++ rest))) rest fits count)

-- what stands after other bytes
pub bytes_behind : (front behind : List ℕ) {bytes : List ℕ} → bytes ≡ front ++ behind → IsBytes bytes → IsBytes behind
bytes_behind front behind {bytes = bytes} is fits =
    let P : List ℕ → Type 0 = λ bs. IsBytes bs in
    subst P (ap (drop _) is ∙ drop_at front behind _ refl) (IsBytes-drop _ bytes fits)

-- The bytes in front of a byte list are a byte list.
pub bytes_front : (front behind : List ℕ) {bytes : List ℕ} → bytes ≡ front ++ behind → IsBytes bytes → IsBytes front
bytes_front front behind {bytes = bytes} is fits =
    let P : List ℕ → Type 0 = λ bs. IsBytes bs in
    subst P (ap (take _) is ∙ take_at front behind _ refl) (IsBytes-take _ bytes fits)

-- The bytes of a long string are a byte list.
pub long_content : {bytes content : List ℕ} → SpellsLongString bytes content → IsBytes bytes → IsBytes content
long_content {content = content} h fits = bytes_behind (number_bytes bytes4 (length content)) content h.bytes_are fits

-- The quoted text of a long string is read back as its canonical bytes.
pub long_string_back : IsReadAs (read_string 4) SpellsLongString quoted
unfolding read_string
long_string_back bytes rest content fits h e = rw h.bytes_are (ap (framed 4) (string_inside content rest (long_content h fits)))

-- The quoted text of a short string is read back as its canonical bytes.
pub short_string_back : IsReadAs (read_string 1) SpellsShortString quoted
unfolding read_string
short_string_back bytes rest content fits h e =
    let few = h.fits in
    rw h.bytes_are (ap (framed 1) (string_inside content rest (bytes_behind (length content ∷ []) content h.bytes_are fits))
    ∙ ap (λ n. (n ∷ content, rest)) (omega arith))
