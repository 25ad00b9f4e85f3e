-- Sizes as plain numbers, and what they tell.
use Rattle.std.proofs.Common.{◌≡◌, ℕ, ◌+◌, ◌≤◌, ◌<◌, ◌^◌, Bool, true, false, List, length, Option, Some, None, Ok, Err, refl, ap, arith, if◌then◌else◌}
use Rattle.std.proofs.lemmas.Bool.{le-ltb, lt-ltb}
use Rattle.std.proofs.lemmas.Str.{IsUtf8-from_ascii, is_utf8-from_IsUtf8}
use Rattle.std.specs.Str.{IsAscii, is_utf8}
use Rattle.amqp_types.specs.Strings.{short_string_bytes}
use Rattle.amqp_entries.specs.Flaws.{size_or, text_flaw}
use Rattle.amqp_entries.specs.Sizes.{IsSize}
use Rattle.amqp_entries.specs.declared.errors.PutError.{PutError}
use Rattle.amqp_entries.specs.declared.errors.PutError.TheVariants as errors

-- a short key of ASCII has its size
pub short_is_size : (key : List ℕ) → length key ≤ 255 → IsAscii key → IsSize (text_flaw key) (short_string_bytes key) (1 + length key)
short_is_size key few ascii =
    let short = le-ltb 255 (length key) (omega (arith, few)) in
    let utf8 = is_utf8-from_IsUtf8 key (IsUtf8-from_ascii key ascii) in
    let none : text_flaw key ≡ None = rw (short, utf8) refl in
    let size : 1 + length key ≡ length (short_string_bytes key) = omega arith in
    rw none size

-- a number that a frame may have is the size
pub known_size : (flaw : Option PutError) (bytes : List ℕ) (n : ℕ) → IsSize flaw bytes n → n < 2 ^ 32 → Ok n ≡ size_or flaw bytes
known_size None bytes n is few = ap Ok is
known_size (Some refusal) bytes n is few = absurd (omega (arith, is, few))

-- a text of more than 255 bytes is refused as too long
pub long_refused : (text bytes : List ℕ) → 255 < length text → Err errors.TooLong ≡ size_or (text_flaw text) bytes
long_refused text bytes long = rw (lt-ltb 255 (length text) long) refl

by_utf8 : (text : List ℕ) (n : ℕ) (utf8 : Bool) → IsSize (if utf8 then None else Some errors.NotUtf8) (short_string_bytes text) n → length text ≤ 255 → 256 < n
    → Err errors.NotUtf8 ≡ size_or (if utf8 then None else Some errors.NotUtf8) (short_string_bytes text)
by_utf8 text n true is few many = absurd (omega (arith, is, few, many))
by_utf8 text n false is few many = refl

-- a short text that has no size is not UTF-8
pub bad_refused : (text : List ℕ) (n : ℕ) → IsSize (text_flaw text) (short_string_bytes text) n → length text ≤ 255 → 256 < n
    → Err errors.NotUtf8 ≡ size_or (text_flaw text) (short_string_bytes text)
bad_refused text n is few many =
    let short = le-ltb 255 (length text) few in
    rw short (by_utf8 text n (is_utf8 text) (rw short at is) few many)
