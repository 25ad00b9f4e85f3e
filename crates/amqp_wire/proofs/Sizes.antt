-- Sizes of frames, and frames at a place of a slice.
use Rattle.std.proofs.Common.{◌≡◌, ℕ, ◌+◌, ◌-◌, ◌^◌, ◌<◌, ◌≤◌, ◌||◌, Bool, true, false, List, [], ◌∷◌, ◌++◌, length, Result, Ok, Err, IsOk, refl, ap, subst}
use Rattle.std.proofs.Common.{◌∙◌, append_assoc, arith, inl, inr}
use Rattle.std.proofs.lemmas.Bool.{cases_Bool}
use Rattle.std.proofs.lemmas.Bool.Decides.{nat_tests}
use Rattle.std.proofs.lemmas.List.{length-append}
use Rattle.amqp_types.specs.Numbers.{bytes2, bytes4, number_bytes}
use Rattle.amqp_types.specs.Sizes.{measured}
use Rattle.amqp_types.specs.Writing.{written, Puts}
use Rattle.amqp_types.specs.declared.errors.GenError.{GenError}
use Rattle.amqp_types.specs.declared.errors.GenError.TheVariants as errors
use Rattle.amqp_types.proofs.Puts.{puts_then, puts-length}
use Rattle.amqp_types.specs.SlotBytes.{any_deep, any_long, items_size}
use Rattle.amqp_types.specs.Methods.{Method, payload_bytes, payload_size}
use Rattle.amqp_types.specs.PropertyBytes.{any_deep_option, any_long_option}
use Rattle.amqp_types.specs.ContentHeaders.{ContentHeader, content_header_bytes, content_header_size}
use Rattle.amqp_canonical.proofs.PutParts.{written_before}
use Rattle.amqp_wire.specs.Frames.{Frame, Meth, Head, Body}
use Rattle.amqp_wire.specs.Spelling.{head, framed}
use Rattle.amqp_wire.specs.Canonical.{canon, is_deep, is_long, is_long_for, size_of, framed_size, SliceAnswers}

-- states the frame first, where `grind` picks it up
pub framed_length : (type channel : ℕ) (payload : List ℕ) → length (framed type channel payload) ≡ length payload + 8
framed_length type channel payload = omega (arith, length-append payload (206 ∷ []))

-- type, channel and length, put one after another
pub puts_head : (buf a b new : List ℕ) (at p q end type channel n : ℕ) → at + 7 ≤ length buf → Puts buf a at (type ∷ []) p
    → Puts a b p (number_bytes bytes2 channel) q → Puts b new q (number_bytes bytes4 n) end → Puts buf new at (head type channel n) end
puts_head buf a b new at p q end type channel n room first second third =
    let len : length a ≡ length buf = puts-length buf a at p (type ∷ []) (omega (arith, room)) first in
    let behind : Puts a new p (number_bytes bytes2 channel ++ number_bytes bytes4 n) end =
    puts_then a b new p q end (number_bytes bytes2 channel) (number_bytes bytes4 n) (omega (arith, room, len, first.behind)) second third in
    puts_then buf a new at p end (type ∷ []) (number_bytes bytes2 channel ++ number_bytes bytes4 n) room first behind

-- a frame around a payload that was put first
pub puts_around : (before mid front_put new : List ℕ) (at end place final type channel : ℕ) (front payload : List ℕ)
    → front ≡ head type channel (end - at - 7) → at + length (framed type channel payload) ≤ length before
    → Puts before mid (at + 7) payload end → Puts mid front_put at front place
    → Puts front_put new end (206 ∷ []) final → Puts before new at (framed type channel payload) final
puts_around before mid front_put new at end place final type channel front payload is room inner first last =
    let count : end - at - 7 ≡ length payload = omega (arith, inner.behind) in
    let front_is : front ≡ head type channel (length payload) = is ∙ ap (head type channel) count in
    let seven : length front ≡ 7 = ap length front_is in
    let fits : at + (length payload + 8) ≤ length before = omega (arith, framed_length type channel payload, room) in
    let both : Puts before front_put at (front ++ payload) end = record {
      put =
          first.put ∙ ap (λ buf. written buf at front) inner.put ∙ written_before before front payload at (at + 7) (omega (arith, seven)) (omega (arith, fits));
      behind = omega (arith, inner.behind, seven, length-append front payload);
    } in
    let all : Puts before new at ((front ++ payload) ++ 206 ∷ []) final =
    puts_then before front_put new at end final (front ++ payload) (206 ∷ [])
    (omega (arith, fits, seven, length-append front payload, length-append (front ++ payload) (206 ∷ []))) both last in
    let P : List ℕ → Type 0 = λ bs. Puts before new at bs final in
    subst P (append_assoc front payload (206 ∷ []) ∙ ap (λ (xs : List ℕ). xs ++ (payload ++ 206 ∷ [])) front_is) all

-- states the size of a frame by that of its payload first, where `grind` picks it up
pub framed_size_is : (deep long : Bool) (type channel : ℕ) (payload : List ℕ)
    → framed_size (measured deep long payload) ≡ measured deep (long || is_long_for payload) (framed type channel payload)
framed_size_is true long type channel payload = refl
framed_size_is false true type channel payload = refl
framed_size_is false false type channel payload = elim (cases_Bool (is_long_for payload)) [
  | inl above ↦ rw above refl
  | inr within ↦ rw (within, framed_length type channel payload) refl
]

-- where a frame can be written, its payload can, and four bytes count it
pub record PayloadFits (size : Result ℕ GenError) (payload : List ℕ) : Type 0 where
  pub fits : IsOk size
  pub few : length payload < 2 ^ 32

-- a length that four bytes hold
pub countable : (bytes : List ℕ) → is_long_for bytes ≡ false → length bytes < 2 ^ 32
countable bytes h = grind (arith, nat_tests)

payload_fits : (deep long : Bool) (type channel : ℕ) (payload : List ℕ)
    → IsOk (measured deep (long || is_long_for payload) (framed type channel payload)) → PayloadFits (measured deep long payload) payload
payload_fits true long type channel payload h = absurd cc
payload_fits false true type channel payload h = absurd cc
payload_fits false false type channel payload h = elim (cases_Bool (is_long_for payload)) [
  | inl above ↦ absurd (let x = rw above at h in cc)
  | inr within ↦ record { fits = refl; few = countable payload within }
]

-- Where a method's frame has a size, so has its payload, and four bytes count it.
pub method_fits : (channel : ℕ) (m : Method) → IsOk (size_of (Meth channel m)) → PayloadFits (payload_size m) (payload_bytes m)
unfolding size_of canon payload_size items_size
method_fits channel m h = payload_fits (any_deep m.items) (any_long m.items) 1 channel (payload_bytes m) h

-- Where a content header's frame has a size, so has its payload, and four bytes count it.
pub header_fits : (channel : ℕ) (header : ContentHeader) → IsOk (size_of (Head channel header))
    → PayloadFits (content_header_size header) (content_header_bytes header)
unfolding size_of canon content_header_size
header_fits channel header h = payload_fits (any_deep_option header.options) (any_long_option header.options) 2 channel (content_header_bytes header) h

-- Where a body's frame has a size, four bytes count its content.
pub body_few : (channel : ℕ) (content : List ℕ) → IsOk (size_of (Body channel content)) → length content < 2 ^ 32
unfolding size_of canon
body_few channel content h = (payload_fits false false 3 channel content h).few

-- the sizes of frames by those of their payloads
pub method_size_is : (channel : ℕ) (m : Method) → framed_size (payload_size m) ≡ size_of (Meth channel m)
unfolding size_of canon payload_size items_size
method_size_is channel m = framed_size_is (any_deep m.items) (any_long m.items) 1 channel (payload_bytes m)

-- The size of a content header's frame is that of its payload with eight bytes around it.
pub header_size_is : (channel : ℕ) (header : ContentHeader) → framed_size (content_header_size header) ≡ size_of (Head channel header)
unfolding size_of canon content_header_size
header_size_is channel header = framed_size_is (any_deep_option header.options) (any_long_option header.options) 2 channel (content_header_bytes header)

-- where there is a size, it is the number of canonical bytes
abbrev pub SizeIs : Result ℕ GenError → List ℕ → Type 0
SizeIs (Ok n) bytes = n ≡ length bytes
SizeIs (Err error) bytes = Unit {0}

size_by : (deep long : Bool) (bytes : List ℕ) → SizeIs (measured deep long bytes) bytes
size_by true long bytes = tt
size_by false true bytes = tt
size_by false false bytes = refl

-- states the size first, where `grind` picks it up
pub size_is_length : (f : Frame) → (size_of f ≡ size_of f) × SizeIs (size_of f) (canon f)
unfolding size_of
size_is_length f = (refl, size_by (is_deep f) (is_long f) (canon f))

slice_by : (deep long : Bool) (bytes old : List ℕ) (error : GenError) → measured deep long bytes ≡ Err error
    → SliceAnswers old old (measured deep long bytes) bytes (Err error)
slice_by deep long bytes old errors.TooDeep e = (e, refl)
slice_by deep long bytes old errors.TooLong e = (e, refl)
slice_by true long bytes old error e = absurd cc
slice_by false true bytes old error e = absurd cc
slice_by false false bytes old error e = absurd cc

-- A frame without a size is refused for that reason, and leaves the slice as it was.
pub slice_refused : (f : Frame) (error : GenError) (old : List ℕ) → size_of f ≡ Err error → SliceAnswers old old (size_of f) (canon f) (Err error)
unfolding size_of
slice_refused f error old e = slice_by (is_deep f) (is_long f) (canon f) old error e

-- The size of a frame is the length of its canonical bytes.
pub size_is : (f : Frame) (n : ℕ) → size_of f ≡ Ok n → n ≡ length (canon f)
size_is f n e = subst (λ size. SizeIs size (canon f)) e (size_is_length f).1
