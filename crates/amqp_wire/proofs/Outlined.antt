-- The ids and sizes of a frame stand at the front of its payload.
use Rattle.std.proofs.Common.{◌≡◌, ℕ, ◌≤◌, ◌<◌, ◌^◌, List, [], ◌∷◌, ◌++◌, length, Result, Ok, Err, refl, sym, ap, ap₂, ◌∙◌, arith, inl, inr}
use Rattle.std.specs.Prelude.{IsOk}
use Rattle.std.proofs.lemmas.Bool.{cases_eq, eq-eqb, ne_eqb}
use Rattle.std.proofs.lemmas.Nat.{from_be_bytes-to_be_bytes_2, from_be_bytes-to_be_bytes_8}
use Rattle.amqp_types.specs.Levels.{Level, plain}
use Rattle.amqp_types.specs.Judging.{Fault, IsBytes}
use Rattle.amqp_types.specs.Numbers.{bytes2, bytes8, number_bytes}
use Rattle.amqp_types.specs.Slots.{number_item}
use Rattle.amqp_types.specs.Methods.{Method, judge_payload}
use Rattle.amqp_types.specs.MethodSpelling.{SpellsPayload}
use Rattle.amqp_types.specs.ContentHeaders.{ContentHeader, header_slots, header_of_parts, judge_content_header, SpellsContentHeader}
use Rattle.amqp_types.specs.Tidiness.{short_at}
use Rattle.amqp_wire.specs.declared.frame_type.AMQPFrameType.{AMQPFrameType}
use Rattle.amqp_wire.specs.declared.frame_type.AMQPFrameType.TheVariants as kinds
use Rattle.amqp_wire.specs.declared.outline.FrameOutline.TheVariants as outlines
use Rattle.amqp_wire.specs.Frames.{Frame, Proto, Meth, Head, Body, channel_id_of, beat_on}
use Rattle.amqp_wire.specs.Outlines.{outline_of, outline_channel, long_long_at, outline_at, IsEnough}
use Rattle.amqp_wire.specs.Verdicts.{all_of, decode_payload}
use Rattle.amqp_wire.proofs.Encoded.{read_as}
use Rattle.amqp_wire.proofs.Typed.{method_spells, header_spells}

-- an outline has the channel of its frame
pub outline_of-channel : (frame : Frame) → outline_channel (outline_of frame) ≡ channel_id_of frame
outline_of-channel (Proto major minor revision) = refl
outline_of-channel frame = refl

-- ---- methods

-- a payload of a method begins with its ids
record HasIds (payload : List ℕ) (m : Method) : Type 0 where
  enough : 4 ≤ length payload
  class_is : short_at 0 payload ≡ m.class
  id_is : short_at 2 payload ≡ m.id

ids_spelled : (payload : List ℕ) (m : Method) → SpellsPayload plain payload m → HasIds payload m
ids_spelled payload m h =
    let are : payload ≡ number_bytes bytes2 m.class ++ (number_bytes bytes2 m.id ++ h.slot_bytes) =
    h.bytes_are ∙ ap₂ (λ xs ys. xs ++ (ys ++ h.slot_bytes)) h.class_is.bytes_are h.id_is.bytes_are in
    record {
      enough = omega (arith, ap length are);
      class_is = ap (short_at 0) are ∙ from_be_bytes-to_be_bytes_2 m.class h.class_is.fits;
      id_is = ap (short_at 2) are ∙ from_be_bytes-to_be_bytes_2 m.id h.id_is.fits;
    }

-- ---- content headers

-- A payload of a content header is its class id, a weight, the size of the body, and properties, at each level.
pub record HasFront {level : Level} {payload : List ℕ} {header : ContentHeader} (h : SpellsContentHeader level payload header) : Type 0 where
  pub class : ℕ
  pub weight : ℕ
  pub size : ℕ
  pub class_fits : class < 2 ^ 16
  pub weight_fits : weight < 2 ^ 16
  pub size_fits : size < 2 ^ 64
  pub items_are : h.one ≡ number_item class ∷ number_item size ∷ []
  pub header_is : header ≡ record { class_id = class; body_size = size; options = h.two }
  pub bytes_are : payload ≡ number_bytes bytes2 class ++ (number_bytes bytes2 weight ++ (number_bytes bytes8 size ++ h.behind))

-- The class, the weight and the body size of a content header stand at the front of its payload.
pub header_front : {level : Level} {payload : List ℕ} {header : ContentHeader} (h : SpellsContentHeader level payload header) → HasFront h
unfolding header_slots
header_front h =
    let class = h.first_is in
    let weight = class.second_is in
    let size = weight.second_is in
    let one = class.first_is in
    let two = weight.first_is in
    let three = size.first_is in
    let items : h.one ≡ number_item one.thing ∷ number_item three.thing ∷ [] =
    class.joined
    ∙ ap₂ (λ xs ys. xs ++ ys) one.made (weight.joined ∙ ap₂ (λ xs ys. xs ++ ys) two.none (size.joined ∙ ap₂ (λ xs ys. xs ++ ys) three.made size.second_is.1)) in
    let front =
    class.bytes_are
    ∙ ap₂ (λ xs ys. xs ++ ys) one.spelled.bytes_are (weight.bytes_are
    ∙ ap₂ (λ xs ys. xs ++ ys) two.spelled.spelled.bytes_are (size.bytes_are ∙ ap₂ (λ xs ys. xs ++ ys) three.spelled.bytes_are size.second_is.0)) in
    record {
      class = one.thing;
      weight = two.spelled.thing;
      size = three.thing;
      class_fits = one.spelled.fits;
      weight_fits = two.spelled.spelled.fits;
      size_fits = three.spelled.fits;
      items_are = items;
      header_is = h.joined ∙ ap (λ xs. header_of_parts xs h.two) items;
      bytes_are = h.bytes_are ∙ ap (λ bs. bs ++ h.behind) front;
    }

-- ---- whole payloads

-- so a frame is outlined without its fields
pub record IsOutlined (kind : AMQPFrameType) (channel : ℕ) (payload : List ℕ) (frame : Frame) : Type 0 where
  pub enough : IsEnough kind payload
  pub outline_is : outline_at kind channel payload ≡ outline_of frame

beat_outline : (channel : ℕ) → outlines.Heartbeat channel ≡ outline_of (beat_on channel)
beat_outline channel = elim (cases_eq channel 0) [
  | inl none ↦ rw (eq-eqb channel 0 none) (ap (λ n. outlines.Heartbeat n) none)
  | inr some ↦ rw (ne_eqb channel 0 some) refl
]

-- The ids and sizes of a frame that is decoded can be read at the front of its payload.
pub outlined : (kind : AMQPFrameType) (channel : ℕ) (payload : List ℕ) (frame : Frame)
    → IsBytes payload → decode_payload kind channel payload ≡ Ok frame → IsOutlined kind channel payload frame
unfolding decode_payload
outlined kinds.ProtocolHeader channel (a ∷ b ∷ c ∷ []) frame fits h =
    let is : Proto a b c ≡ frame = cc in
    record { enough = tt; outline_is = ap outline_of is }
outlined kinds.ProtocolHeader channel payload frame fits h = absurd cc
outlined kinds.Method channel payload frame fits h =
    let read = read_as (λ x. Meth channel x) (all_of judge_payload payload) frame h in
    let ids = ids_spelled payload read.0 (method_spells plain payload read.0 fits read.1 refl) in
    record { enough = ids.enough; outline_is = ap₂ (λ class id. outlines.Method channel class id) ids.class_is ids.id_is ∙ ap outline_of read.2 }
outlined kinds.Header channel payload frame fits h =
    let read = read_as (λ x. Head channel x) (all_of judge_content_header payload) frame h in
    let front = header_front (header_spells plain payload read.0 fits read.1 refl) in
    let class : short_at 0 payload ≡ read.0.class_id =
    ap (short_at 0) front.bytes_are ∙ from_be_bytes-to_be_bytes_2 front.class front.class_fits ∙ sym (ap (λ (x : ContentHeader). x.class_id) front.header_is) in
    let size : long_long_at 4 payload ≡ read.0.body_size =
    ap (long_long_at 4) front.bytes_are ∙ from_be_bytes-to_be_bytes_8 front.size front.size_fits
    ∙ sym (ap (λ (x : ContentHeader). x.body_size) front.header_is) in
    record { enough = omega (arith, ap length front.bytes_are); outline_is = ap₂ (λ c s. outlines.Header channel c s) class size ∙ ap outline_of read.2 }
outlined kinds.Body channel payload frame fits h =
    let is : Body channel payload ≡ frame = cc in
    record { enough = tt; outline_is = ap outline_of is }
outlined kinds.Heartbeat channel payload frame fits h =
    let is : beat_on channel ≡ frame = cc in
    record { enough = tt; outline_is = beat_outline channel ∙ ap outline_of is }

-- ids and sizes stand in each payload that is a frame
pub enough_whole : (kind : AMQPFrameType) (channel : ℕ) (payload : List ℕ) (read : Result Frame Fault)
    → IsBytes payload → decode_payload kind channel payload ≡ read → IsOk read → IsEnough kind payload
enough_whole kind channel payload (Ok frame) fits is h = (outlined kind channel payload frame fits is).enough
enough_whole kind channel payload (Err bad) fits is h = absurd (cc)
