-- Methods and content headers that are put from their parts.
use Rattle.amqp_canonical.specs.Payloads.{canonical_header, header_payload, method_payload, canonical_method}
use Rattle.std.proofs.Common.{◌≡◌, ◌<◌, ◌≤◌, ◌^◌, ℕ, zero, suc, List, [], ◌∷◌, ◌++◌, length, take, drop, Some, refl, sym, ap, subst, ◌∙◌, arith}
use Rattle.std.proofs.lemmas.List.{drop-drop, take-append-drop}
use Rattle.amqp_types.specs.Judging.{IsBytes, took}
use Rattle.amqp_types.specs.Numbers.{NumberWidth, SpellsNumber, byte_count, bytes2, bytes8, number_bytes, number_limit, judge_number}
use Rattle.amqp_types.specs.Slots.{Slot, number_item}
use Rattle.amqp_types.specs.Rows.{slots_at}
use Rattle.amqp_types.specs.SlotJudging.{judge_slots}
use Rattle.amqp_types.specs.SlotBytes.{form_bytes, slots_bytes}
use Rattle.amqp_types.specs.Methods.{judge_payload}
use Rattle.amqp_types.specs.PropertyBytes.{properties_bytes}
use Rattle.amqp_types.specs.PropertyJudging.{judge_properties}
use Rattle.amqp_types.specs.ContentHeaders.{header_slots, judge_content_header}
use Rattle.amqp_types.proofs.Numbers.{number_exact}
use Rattle.amqp_types.proofs.Bytes.{IsBytes-drop}
use Rattle.amqp_types.proofs.Took.{value_took}
use Rattle.amqp_canonical.specs.Writes.{IsRead, canonical_of}
use Rattle.amqp_canonical.proofs.PayloadParts.{PayloadPut, payload_read, header_put, header_by, front_read, front_here}

-- ---- bytes

two_fit : (n : ℕ) (rest : List ℕ) → IsBytes rest → IsBytes (number_bytes bytes2 n ++ rest)
two_fit n rest fits zero = omega arith
two_fit n rest fits (suc zero) = omega arith
two_fit n rest fits (suc (suc i)) = fits i

eight_fit : (n : ℕ) (rest : List ℕ) → IsBytes rest → IsBytes (number_bytes bytes8 n ++ rest)
eight_fit n rest fits zero = omega arith
eight_fit n rest fits (suc zero) = omega arith
eight_fit n rest fits (suc (suc zero)) = omega arith
eight_fit n rest fits (suc (suc (suc zero))) = omega arith
eight_fit n rest fits (suc (suc (suc (suc zero)))) = omega arith
eight_fit n rest fits (suc (suc (suc (suc (suc zero))))) = omega arith
eight_fit n rest fits (suc (suc (suc (suc (suc (suc zero)))))) = omega arith
eight_fit n rest fits (suc (suc (suc (suc (suc (suc (suc zero))))))) = omega arith
eight_fit n rest fits (suc (suc (suc (suc (suc (suc (suc (suc i)))))))) = fits i

-- A payload made of a class id, a method id and the bytes of fields is a byte list.
pub method_fits : (class id : ℕ) (slots : List ℕ) → IsBytes slots → IsBytes (method_payload class id slots)
method_fits class id slots fits = two_fit class (number_bytes bytes2 id ++ slots) (two_fit id slots fits)

-- A payload made of a class id, a body size and the bytes of properties is a byte list.
pub header_fits : (class size : ℕ) (properties : List ℕ) → IsBytes properties → IsBytes (header_payload class size properties)
header_fits class size properties fits =
    two_fit class (number_bytes bytes2 0 ++ (number_bytes bytes8 size ++ properties))
    (two_fit 0 (number_bytes bytes8 size ++ properties) (eight_fit size properties fits))

-- ---- numbers are read back

-- A number within its width is decoded from its canonical bytes, whatever follows.
pub number_back : (width : NumberWidth) (n : ℕ) (rest : List ℕ) → n < number_limit width
    → judge_number width (number_bytes width n ++ rest) ≡ took n (length (number_bytes width n))
number_back width n rest fits = (number_exact width).taken (number_bytes width n) rest n (record { fits = fits; bytes_are = refl })

-- ---- methods

-- Where such a payload is decoded, the method is known, and its canonical bytes are the ids and those of the fields.
pub method_parts : (class id : ℕ) (slots : List ℕ) → class < 2 ^ 16 → id < 2 ^ 16
    → IsRead (judge_payload (method_payload class id slots)) → PayloadPut (method_payload class id slots) class id
method_parts class id slots class_fits id_fits read =
    let payload = method_payload class id slots in
    let r = payload_read payload read in
    let class_is = value_took _ _ 2 2 (sym r.2 ∙ number_back bytes2 class (number_bytes bytes2 id ++ slots) class_fits) in
    let id_is = value_took _ _ 2 2 (sym r.3 ∙ number_back bytes2 id slots id_fits) in
    subst (λ c. PayloadPut payload c id) class_is (subst (λ i. PayloadPut payload r.0 i) id_is r.4)

-- the same with the fields that the table has for it
pub method_put : (class id : ℕ) (slots : List ℕ) (shapes : List Slot) → class < 2 ^ 16 → id < 2 ^ 16 → slots_at class id ≡ Some shapes
    → IsRead (judge_payload (method_payload class id slots)) → IsRead (judge_slots shapes slots) × (canonical_method (method_payload class id slots)
    ≡ number_bytes bytes2 class ++ (number_bytes bytes2 id ++ canonical_of (slots_bytes shapes) (judge_slots shapes slots)))
method_put class id slots shapes class_fits id_fits known read =
    let h = method_parts class id slots class_fits id_fits read in
    let same : shapes ≡ h.slots = let e = sym known ∙ h.known_slots in cc in
    rw same (h.read, h.bytes_are)

-- ---- content headers

-- The front of a content header made of a class id and a body size is decoded to be these two, in 12 bytes.
pub front_of : (class size : ℕ) (rest : List ℕ) → class < 2 ^ 16 → size < 2 ^ 64
    → judge_slots header_slots (header_payload class size rest) ≡ took (number_item class ∷ number_item size ∷ []) 12
front_of class size rest class_fits size_fits =
    front_read (header_payload class size rest) class 0 size (number_back bytes2 class (0 ∷ 0 ∷ (number_bytes bytes8 size ++ rest)) class_fits)
    (number_back bytes2 0 (number_bytes bytes8 size ++ rest) (omega arith)) (number_back bytes8 size rest size_fits)

-- The canonical bytes of the front of a content header are the class id, two zero bytes and the body size.
pub front_bytes : (class size : ℕ)
    → slots_bytes header_slots (number_item class ∷ number_item size ∷ []) ≡ number_bytes bytes2 class ++ (0 ∷ 0 ∷ number_bytes bytes8 size)
unfolding header_slots slots_bytes form_bytes
front_bytes class size = refl

-- Where a content header made of its parts is decoded, its canonical bytes are the front and those of the properties.
pub header_parts : (class size : ℕ) (rest : List ℕ) → class < 2 ^ 16 → size < 2 ^ 64
    → IsRead (judge_content_header (header_payload class size rest)) → IsRead (judge_properties rest) × (canonical_header (header_payload class size rest)
    ≡ number_bytes bytes2 class ++ (0 ∷ 0 ∷ (number_bytes bytes8 size ++ canonical_of properties_bytes (judge_properties rest))))
header_parts class size rest class_fits size_fits read =
    let h = header_put (header_payload class size rest) read in
    let front = ap (canonical_of (slots_bytes header_slots)) (front_of class size rest class_fits size_fits) ∙ front_bytes class size in
    (h.after, h.bytes_are ∙ ap (λ bs. bs ++ canonical_of properties_bytes (judge_properties rest)) front)

-- ---- the parts of a payload

-- A number that is decoded is within its width, and its bytes are those that are written for it.
number_again : (width : NumberWidth) (bytes : List ℕ) (x : ℕ) → IsBytes bytes
    → judge_number width bytes ≡ took x (byte_count width) → SpellsNumber width (take (byte_count width) bytes) x
number_again width bytes x fits h = let spelled = (number_exact width).spelled bytes x (byte_count width) fits h in spelled.0

-- A payload is what is made of its two ids and the bytes after them.
pub method_again : (payload : List ℕ) (class id : ℕ) → IsBytes payload → judge_number bytes2 payload ≡ took class 2
    → judge_number bytes2 (drop 2 payload) ≡ took id 2 → method_payload class id (drop 4 payload) ≡ payload
method_again payload class id fits one two =
    ap (λ bs. bs ++ (number_bytes bytes2 id ++ drop 4 payload)) (sym (number_again bytes2 payload class fits one).bytes_are)
    ∙ ap (λ bs. take 2 payload ++ (bs ++ drop 4 payload)) (sym (number_again bytes2 (drop 2 payload) id (IsBytes-drop 2 payload fits) two).bytes_are)
    ∙ ap (λ bs. take 2 payload ++ (take 2 (drop 2 payload) ++ bs)) (sym (drop-drop 2 2 payload))
    ∙ ap (λ bs. take 2 payload ++ bs) (take-append-drop 2 (drop 2 payload)) ∙ take-append-drop 2 payload

-- A content header made anew of its class id, its body size and its properties is decoded as it was, whatever its weight.
pub header_again : (payload : List ℕ) (class size : ℕ) → IsBytes payload → 12 ≤ length payload → judge_number bytes2 payload ≡ took class 2
    → judge_number bytes8 (drop 4 payload) ≡ took size 8 → judge_content_header (header_payload class size (drop 12 payload)) ≡ judge_content_header payload
header_again payload class size fits long one three =
    let f = front_here payload long in
    let again = header_payload class size (drop 12 payload) in
    let fit = number_again bytes2 payload class fits one in
    let size_fit = number_again bytes8 (drop 4 payload) size (IsBytes-drop 4 payload fits) three in
    header_by again class size (front_of class size (drop 12 payload) fit.fits size_fit.fits)
    ∙ sym (header_by payload class size (rw (value_took _ _ 2 2 (sym f.3 ∙ one), value_took _ _ 8 8 (sym f.4 ∙ three)) at f.2))
