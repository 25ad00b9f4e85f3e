-- The words of a frame are read back as that frame.
use Rattle.amqp_lines.proofs
use proofs.Names.{◌≡◌, ℕ, ◌^◌, ◌<◌, List, [], ◌∷◌, ◌++◌, refl, sym, ap, ap₂, ◌∙◌, append_assoc, append-nil, arith, codes, unwrap_or, decimal, ne_eqb, strict}
use proofs.Names.{IsBytes, bytes1, properties, Method, SpellsPayload, ContentHeader, header_slots, SpellsContentHeader, AMQPFrameType, Raw, Frame, Proto, Meth}
use proofs.Names.{Head, Body, Beat, BadBeat, channel_id_of, slots_text, form_text, set_text, spaced, method_words, header_words, beat_words, words, IsPayload}
use proofs.Names.{header_front, followed, is_hex, is_digit, read_digits, read_bits, read_number, read_hex, read_form, read_slot, read_slots, read_properties}
use proofs.Names.{read_words}
use proofs.Names.kinds
use Rattle.amqp_lines.specs.Reading.{read_fields, read_id, read_method, version_slots, read_payload, of_kind}
use proofs.ReadWords.{Ends, bytes_behind, bytes_front, number_back, bits_back, hex_back}
use proofs.ReadSlots.{slots_back, slots_end, set_end, properties_back}
use proofs.CanonBytes.{one_byte}

after_one : (c n : ℕ) (rest : List ℕ) → n < 2 ^ 16 → Ends rest → read_id (c ∷ (decimal n ++ rest)) ≡ (n, rest)
unfolding read_id
after_one c n rest h e = rw (bits_back n rest (omega arith) e) (ap (λ k. (k, rest)) (omega arith))

id_back : (n : ℕ) (rest : List ℕ) → n < 2 ^ 16 → Ends rest → read_id (spaced n ++ rest) ≡ (n, rest)
unfolding spaced
id_back n rest h e = after_one 32 n rest h e

octet_back : (n : ℕ) {rest : List ℕ} → n < 2 ^ 8 → Ends rest → read_number 1 (decimal n ++ rest) ≡ (n ∷ [], rest)
octet_back n {rest = rest} h e =
    let low = ap (λ k. k ∷ []) (omega arith) in
    number_back bytes1 _ rest n (λ i. one_byte n i h) (record { fits = h; bytes_are = low }) e

version_back : (a b c : ℕ) → a < 2 ^ 8 → b < 2 ^ 8 → c < 2 ^ 8
    → (read_slots version_slots (32 ∷ (decimal a ++ (46 ∷ (decimal b ++ (46 ∷ decimal c)))))).0 ≡ a ∷ b ∷ c ∷ []
unfolding read_slots read_slot read_form is_hex is_digit
version_back a b c ha hb hc =
    let last : read_number 1 (decimal c) ≡ (c ∷ [], []) = cc (append-nil (decimal c), octet_back c hc tt) in
    rw (octet_back a ha refl, octet_back b hb refl, last)

-- ---- a method

method_back : (payload : List ℕ) (m : Method) → IsBytes payload → SpellsPayload strict payload m → read_method (method_words m) ≡ payload
unfolding read_method method_words is_hex is_digit
method_back payload m fits h =
    let text = slots_text h.slots m.items in
    let known = ap (λ o. slots_text (unwrap_or o []) m.items) h.known in
    let tail = h.id_bytes ++ h.slot_bytes in
    let slot_fits = bytes_behind h.id_bytes h.slot_bytes refl (bytes_behind h.class_bytes tail h.bytes_are fits) in
    let ends : Ends text = rw append-nil at (slots_end h.slots m.items [] tt) in
    let slots =
    ap (λ o. read_fields o text) h.known ∙ ap (λ r. r.0)
    (ap (read_slots h.slots) (sym (append-nil text)) ∙ slots_back h.slots h.slot_bytes [] m.items slot_fits h.slots_are tt) in
    rw (known, id_back m.class (46 ∷ (decimal m.id ++ text)) h.class_is.fits refl, after_one 46 m.id text h.id_is.fits ends, slots)
    (ap₂ (λ a b. a ++ (b ++ h.slot_bytes)) (sym h.class_is.bytes_are) (sym h.id_is.bytes_are) ∙ sym h.bytes_are)

-- ---- a content header

header_back : (payload : List ℕ) (header : ContentHeader) → IsBytes payload → SpellsContentHeader strict payload header
    → (followed (read_slots header_slots (header_words header)) read_properties).0 ≡ payload
unfolding header_words header_slots slots_text form_text spaced
header_back payload header fits h =
    let parts = header_front h in
    let set = set_text properties h.two in
    let a = decimal parts.class in
    let b = decimal parts.size in
    let grouped : (32 ∷ a) ++ ((32 ∷ b) ++ set) ≡ slots_text header_slots h.one ++ set =
    cc (append-nil (32 ∷ b), append_assoc (32 ∷ a) ((32 ∷ b) ++ []) set, parts.items_are) in
    ap (λ x. (followed (read_slots header_slots (header_words x)) read_properties).0) parts.header_is
    ∙ ap (λ t. (followed (read_slots header_slots t) read_properties).0) grouped
    ∙ rw (
      slots_back header_slots h.front set h.one (bytes_front h.front h.behind h.bytes_are fits) h.first_is (set_end properties h.two),
      properties_back h.behind h.two (bytes_behind h.front h.behind h.bytes_are fits) h.second_is,
    ) (sym h.bytes_are)

-- ---- frames

-- the numbers of a frame fit the bytes in which they are written, and a heartbeat where none belongs is not on channel 0
abbrev pub IsNumbered : Frame → Type 0
IsNumbered (Proto major minor revision) = (major < 2 ^ 8) × (minor < 2 ^ 8) × (revision < 2 ^ 8)
IsNumbered (Meth channel m) = channel < 2 ^ 16
IsNumbered (Head channel header) = channel < 2 ^ 16
IsNumbered (Body channel content) = channel < 2 ^ 16
IsNumbered Beat = Unit {0}
IsNumbered (BadBeat channel) = (0 < channel) × (channel < 2 ^ 16)

-- the type of a frame
abbrev pub kind_of : Frame → AMQPFrameType
kind_of (Proto major minor revision) = kinds.ProtocolHeader
kind_of (Meth channel m) = kinds.Method
kind_of (Head channel header) = kinds.Header
kind_of (Body channel content) = kinds.Body
kind_of Beat = kinds.Heartbeat
kind_of (BadBeat channel) = kinds.Heartbeat

-- a frame with a payload
abbrev frame_in : Frame → List ℕ → Raw
frame_in f payload = record { kind = kind_of f; channel = channel_id_of f; payload = payload }

-- the words after a channel
after_channel : (kind : AMQPFrameType) (channel : ℕ) (text : List ℕ) {payload : List ℕ} → channel < 2 ^ 16 → Ends text → read_payload kind text ≡ payload
    → of_kind kind (read_id (spaced channel ++ text)) ≡ record { kind = kind; channel = channel; payload = payload }
after_channel kind channel text fits ends h = rw (id_back channel text fits ends, h)

beat_back : read_words (codes "beat") ≡ frame_in Beat []
unfolding read_words read_id read_bits read_digits read_payload
beat_back = refl

bad_beat_back : (channel : ℕ) → 0 < channel → channel < 2 ^ 16 → read_words (codes "beat" ++ beat_words channel) ≡ frame_in (BadBeat channel) []
unfolding read_words read_payload
bad_beat_back channel some fits =
    let rendered : beat_words channel ≡ spaced channel ++ [] = rw (ne_eqb channel 0 (λ e. absurd (omega arith))) (sym (append-nil _)) in
    rw rendered (after_channel kinds.Heartbeat channel [] fits tt refl)

-- What is read of the words of a frame is its type, its channel and its canonical payload.
pub words_back : (f : Frame) {payload : List ℕ} → IsBytes payload → IsPayload payload f → IsNumbered f
    → read_words (words f) ≡ record { kind = kind_of f; channel = channel_id_of f; payload = payload }
unfolding read_words words read_payload method_words header_words spaced is_hex is_digit
words_back (Proto a b c) fits h n = ap (frame_in (Proto a b c)) (version_back a b c n.0 n.1 n.2 ∙ sym h)
words_back (Meth channel m) {payload = payload} fits h n = after_channel kinds.Method channel _ n refl (method_back payload m fits h)
words_back (Head channel header) {payload = payload} fits h n =
    after_channel kinds.Header channel _ n refl (header_back payload header fits h)
words_back (Body channel content) fits h n =
    after_channel kinds.Body channel _ n refl
    (ap (λ r. r.0) (ap read_hex (sym (append-nil _)) ∙ hex_back content [] (rw h at fits) tt) ∙ sym h)
words_back Beat fits h n = beat_back ∙ ap (frame_in Beat) (sym h)
words_back (BadBeat channel) fits h n = cc (bad_beat_back channel n.0 n.1, h)
