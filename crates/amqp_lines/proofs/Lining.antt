-- The line of a frame is what its canonical payload is rendered as, with the words in front.
use Rattle.amqp_lines.proofs
use proofs.Names.{◌≡◌, ℕ, List, [], ◌++◌, drop, Some, None, Result, Ok, Err, sym, ap, ◌∙◌, append_assoc, append-nil, arith, codes, unwrap_or, decimal, strict}
use proofs.Names.{bytes2, number_bytes, Slot, SpellsSlots, slots_at, properties, SpellsProperties, NoMemory, FrameOutline, ProtocolVersion, Frame, Proto, Head}
use proofs.Names.{Beat, BadBeat, header_front, slots_text, set_text, Says, method_words, header_words, beat_words, words, IsIn}
use proofs.Names.outlines
use Rattle.amqp_lines.specs.Rendering.{AppendsText}
use Rattle.amqp_lines.specs.Payloads.{SaysMethod, SaysHeader, fields_at, ids_words, sizes_words}
use proofs.RenderedSlots.{no_slots}

-- ---- methods

-- The words of the fields of a method of the table are those of the fields with its ids.
pub fields_some : (class id : ℕ) (slots : List Slot) (i old new : List ℕ) (r : Result (Unit {0}) NoMemory)
    → Some slots ≡ slots_at class id → Says (SpellsSlots strict slots) (slots_text slots) i old new r
    → Says (SpellsSlots strict (fields_at class id)) (slots_text (fields_at class id)) i old new r
fields_some class id slots i old new r e h = rw (← e) h

-- A method that the table does not have has no words for fields.
pub fields_none : (class id : ℕ) (i old : List ℕ) → None ≡ slots_at class id
    → Says (SpellsSlots strict (fields_at class id)) (slots_text (fields_at class id)) i old old (Ok tt)
fields_none class id i old e = rw (← e) (no_slots [] i old (omega arith))

-- The ids of a method, and then the words of its fields, are what a line says of it.
pub method_said : (channel class id : ℕ) (payload next old mid new : List ℕ) (r : Result (Unit {0}) NoMemory)
    → mid ≡ old ++ ids_words channel class id → next ≡ drop 4 payload
    → Says (SpellsSlots strict (fields_at class id)) (slots_text (fields_at class id)) next mid new r → SaysMethod channel class id payload old new r
unfolding words method_words
method_said channel class id payload next old mid new (Err error) front e h = λ m c k s. tt
method_said channel class id payload next old mid new (Ok done) front e h = λ m c k s.
    let are : payload ≡ number_bytes bytes2 m.class ++ (number_bytes bytes2 m.id ++ s.slot_bytes) =
    cc (s.bytes_are, s.class_is.bytes_are, s.id_is.bytes_are) in
    let known = ap (λ o. unwrap_or o []) s.known in
    let said = (rw (c, k, known) at h) s.slot_bytes [] m.items (cc (e, are, append-nil s.slot_bytes)) s.slots_are in
    rw (said, front, c, k, known) (simp append_assoc)

-- ---- content headers

-- The class and the size of a content header, and then the words of its properties, are what a line says of it.
pub header_said : (channel class size : ℕ) (payload next old mid new : List ℕ) (r : Result (Unit {0}) NoMemory) → mid ≡ old ++ sizes_words channel class size
    → next ≡ drop 12 payload → Says (SpellsProperties strict) (set_text properties) next mid new r → SaysHeader channel class size payload old new r
unfolding words header_words
header_said channel class size payload next old mid new (Err error) front e h = λ header c k s. tt
header_said channel class size payload next old mid new (Ok done) front e h = λ header c k s.
    let parts = header_front s in
    let said = h s.behind [] s.two (e ∙ ap (drop 12) parts.bytes_are ∙ sym (append-nil s.behind)) s.second_is in
    rw (said, front, c, k, ap (λ x. x.options) parts.header_is) (simp append_assoc)

-- What is written for a content header out of its payload is the words of the frame with this outline and this canonical payload.
pub header_by : (outline : FrameOutline) (channel class size : ℕ) (payload old new : List ℕ) (r : Result (Unit {0}) NoMemory)
    → outline ≡ outlines.Header channel class size → SaysHeader channel class size payload old new r
    → (frame : Frame) → IsIn outline payload frame → AppendsText old new (words frame) r
header_by outline channel class size payload old new r is h (Head k header) at =
    let e = sym is ∙ at.outline_is in
    let same : k ≡ channel = cc in
    rw same (h header (cc) (cc) at.is_payload)
header_by outline channel class size payload old new r is h frame at = absurd (let e = sym is ∙ at.outline_is in cc)

-- ---- protocol headers, bodies and heartbeats

-- The word `proto` and the three numbers of a version, with dots between them, are what a line says of a protocol header.
pub version_said : (old a b c d e new : List ℕ) (v : ProtocolVersion) (r : Result (Unit {0}) NoMemory) → a ≡ old ++ codes "proto "
    → b ≡ a ++ decimal v.major → c ≡ b ++ codes "." → d ≡ c ++ decimal v.minor → e ≡ d ++ codes "." → AppendsText e new (decimal v.revision) r
    → (major minor revision : ℕ) → v ≡ record { major = major; minor = minor; revision = revision } → AppendsText old new (words (Proto major minor revision)) r
unfolding words
version_said old a b c d e new v (Err error) one two three four five last major minor revision is = tt
version_said old a b c d e new v (Ok done) one two three four five last major minor revision is =
    rw (last, five, four, three, two, one, is) (simp append_assoc)

-- The word `beat`, and the channel where it is not 0, is what a line says of a heartbeat.
pub beat_by : (outline : FrameOutline) (channel : ℕ) (payload old new : List ℕ) (r : Result (Unit {0}) NoMemory) → outline ≡ outlines.Heartbeat channel
    → AppendsText old new (codes "beat" ++ beat_words channel) r → (frame : Frame) → IsIn outline payload frame → AppendsText old new (words frame) r
unfolding words
beat_by outline channel payload old new r is h Beat at =
    let e = sym is ∙ at.outline_is in
    let same : channel ≡ 0 = cc in
    rw same at h
beat_by outline channel payload old new r is h (BadBeat k) at =
    let e = sym is ∙ at.outline_is in
    let same : channel ≡ k = cc in
    rw same at h
beat_by outline channel payload old new r is h frame at = absurd (let e = sym is ∙ at.outline_is in cc)
