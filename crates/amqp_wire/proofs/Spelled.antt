-- What encodes a frame is decoded to be it.
use Rattle.std.proofs.Common.{◌≡◌, ◌≢◌, ℕ, ◌+◌, ◌^◌, ◌<◌, true, false, List, [], ◌∷◌, ◌++◌, length, get_or, take, drop, append_assoc, Option, Some, None, refl}
use Rattle.std.proofs.Common.{sym, ap, subst, ◌∙◌, arith}
use Rattle.std.proofs.lemmas.Bool.{le-ltb, ne_eqb}
use Rattle.std.proofs.lemmas.List.{length-append, take_at, take_all, get_or_at}
use Rattle.std.proofs.lemmas.Slice.Eq.{bytes_eq-Decides}
use Rattle.std.proofs.lemmas.Nat.{from_be_bytes-to_be_bytes_2, from_be_bytes-to_be_bytes_4}
use Rattle.std.specs.Int.{w16, from_be_bytes}
use Rattle.amqp_types.specs.Levels.{Level, plain, tidy, strict}
use Rattle.amqp_types.specs.Judging.{took}
use Rattle.amqp_types.specs.ValueJudging.{read_map}
use Rattle.amqp_types.specs.Numbers.{bytes2, bytes4, number_bytes}
use Rattle.amqp_wire.specs.declared.frame_type.AMQPFrameType.{AMQPFrameType}
use Rattle.amqp_wire.specs.declared.frame_type.AMQPFrameType.TheVariants as kinds
use Rattle.amqp_wire.specs.Frames.{Frame, Proto, Meth, Head, Body, Beat, BadBeat, raw_as, beat_on}
use Rattle.amqp_wire.specs.HeaderScan.{type_of, is_above, payload_length, judge_version, judge_raw, ended_payload, behind_type, scan}
use Rattle.amqp_wire.specs.Canonical.{payload_of}
use Rattle.amqp_wire.specs.Verdicts.{decode_payload, is_tidy_as, is_at, judge_frame}
use Rattle.amqp_wire.specs.Spelling.{framed, proto, byte_of, IsBeatPayload, IsFramed, IsBeat, Spells, IsWithin}
use Rattle.amqp_wire.proofs.HeaderScan.{behind_byte, scan-behind, raw_behind}
use Rattle.amqp_wire.proofs.Cuts.{verdict-exact, verdict-whole}
use Rattle.amqp_wire.proofs.Encoded.{at_method, at_header, payload_of-beat}
use Rattle.amqp_wire.proofs.Typed.{method_whole, method_is_at, header_whole, header_is_at}
use Rattle.amqp_wire.proofs.Sizes.{framed_length}

-- ---- the header scan

above-none : (m : Option ℕ) (n : ℕ) (bytes : List ℕ) → length bytes ≡ n + 8 → IsWithin m bytes → is_above n m ≡ false
above-none None n bytes e h = refl
above-none (Some m) n bytes e h = le-ltb m n (omega arith)

-- what follows the type byte of a frame
abbrev rest_of : ℕ → List ℕ → List ℕ
rest_of channel payload = (number_bytes bytes2 channel ++ number_bytes bytes4 (length payload)) ++ (payload ++ 206 ∷ [])

judge_raw-spelled : (m : Option ℕ) (kind : AMQPFrameType) (channel : ℕ) (payload : List ℕ) → channel < 2 ^ 16 → length payload < 2 ^ 32
    → is_above (length payload) m ≡ false → judge_raw m kind (rest_of channel payload) ≡ took (raw_as kind channel payload) (length payload + 7)
unfolding judge_raw ended_payload
judge_raw-spelled m kind channel payload channel_fits length_fits low =
    let rest = rest_of channel payload in
    let six = number_bytes bytes2 channel ++ number_bytes bytes4 (length payload) in
    let len : length rest ≡ length payload + 7 = omega (arith, length-append payload (206 ∷ [])) in
    let size : payload_length rest ≡ length payload = from_be_bytes-to_be_bytes_4 (length payload) length_fits in
    let on : from_be_bytes w16 (take 2 rest) ≡ channel = from_be_bytes-to_be_bytes_2 channel channel_fits in
    let end : get_or rest (length payload + 6) 0 ≡ 206 =
    ap (λ (xs : List ℕ). get_or xs (length payload + 6) 0) (sym (append_assoc six payload (206 ∷ [])))
    ∙ get_or_at (six ++ payload) 206 [] 0 (length payload + 6) (omega (arith, length-append six payload)) in
    let content : take (length payload) (drop 6 rest) ≡ payload = take_at payload (206 ∷ []) (length payload) refl in
    rw (le-ltb (length rest) 6 (omega arith), size, low, le-ltb (length rest) (length payload + 7) (omega arith), end, on, content) refl

named : (kind : AMQPFrameType) → type_of (byte_of kind) ≡ Some kind
named kinds.ProtocolHeader = refl
named kind = refl

-- a frame of this type stands at the front of its encoding within the limit
abbrev pub IsScanned : AMQPFrameType → Type 0
IsScanned kind = (m : Option ℕ) (bytes : List ℕ) (channel : ℕ) (payload : List ℕ) → IsFramed bytes (byte_of kind) channel payload
    → IsWithin m bytes → scan m bytes ≡ took (raw_as kind channel payload) (length bytes)

-- The header scan takes a frame that is no protocol header from the bytes that encode it within the limit.
pub scan-framed : (kind : AMQPFrameType) → kind ≢ kinds.ProtocolHeader → IsScanned kind
scan-framed kind other m bytes channel payload f within =
    let len = framed_length (byte_of kind) channel payload in
    let low = above-none m (length payload) (framed (byte_of kind) channel payload) len (subst (IsWithin m) f.bytes_are within) in
    ap (scan m) f.bytes_are
    ∙ scan-behind m kind (byte_of kind) (rest_of channel payload) (named kind)
    ∙ ap behind_byte (raw_behind m kind (rest_of channel payload) other ∙ judge_raw-spelled m kind channel payload f.channel_fits f.length_fits low)
    ∙ ap (λ n. took (raw_as kind channel payload) n) (omega (arith, ap length f.bytes_are))

-- The same of the frame of a method, of a content header, of a body and of a heartbeat.
pub scan-method : IsScanned kinds.Method
scan-method = scan-framed kinds.Method (λ e. absurd cc)

pub scan-header : IsScanned kinds.Header
scan-header = scan-framed kinds.Header (λ e. absurd cc)

pub scan-body : IsScanned kinds.Body
scan-body = scan-framed kinds.Body (λ e. absurd cc)

pub scan-beat : IsScanned kinds.Heartbeat
scan-beat = scan-framed kinds.Heartbeat (λ e. absurd cc)

scan-proto : (m : Option ℕ) (major minor revision : ℕ)
    → scan m (proto major minor revision) ≡ took (raw_as kinds.ProtocolHeader 0 (major ∷ minor ∷ revision ∷ [])) 8
unfolding scan behind_type judge_version
scan-proto m major minor revision = refl

-- ---- at each level

beat_at : (level : Level) (channel : ℕ) (payload : List ℕ) → IsBeatPayload level payload → is_at level (raw_as kinds.Heartbeat channel payload) ≡ true
unfolding is_tidy_as decode_payload
beat_at plain channel payload h = refl
beat_at tidy channel payload h = rw h refl
beat_at strict channel payload h = (bytes_eq-Decides payload (payload_of (beat_on channel))).1 (h ∙ sym (payload_of-beat channel))

body_at : (level : Level) (channel : ℕ) (payload : List ℕ) → is_at level (raw_as kinds.Body channel payload) ≡ true
unfolding is_tidy_as decode_payload
body_at strict channel payload = (bytes_eq-Decides payload payload).1 refl
body_at level channel payload = refl

proto_at : (level : Level) (a b c : ℕ) → is_at level (raw_as kinds.ProtocolHeader 0 (a ∷ b ∷ c ∷ [])) ≡ true
unfolding is_tidy_as decode_payload
proto_at strict a b c = (bytes_eq-Decides (a ∷ b ∷ c ∷ []) (a ∷ b ∷ c ∷ [])).1 refl
proto_at level a b c = refl

beat_on-some : (channel : ℕ) → 0 < channel → beat_on channel ≡ BadBeat channel
beat_on-some channel some = rw (ne_eqb channel 0 (λ e. absurd (omega arith))) refl

verdict-beat : (level : Level) (m : Option ℕ) (bytes : List ℕ) (channel : ℕ)
    → IsBeat level bytes channel → IsWithin m bytes → judge_frame level m bytes ≡ took (beat_on channel) (length bytes)
unfolding decode_payload
verdict-beat level m bytes channel s within =
    verdict-whole level m bytes _ _ (beat_on channel) (scan-beat m bytes channel s.payload s.is_framed within) (beat_at level channel s.payload s.at_level) refl

-- Bytes that encode a frame within the limit are decoded to it.
pub verdict-spelled : (level : Level) (m : Option ℕ) (bytes : List ℕ) (f : Frame)
    → Spells level bytes f → IsWithin m bytes → judge_frame level m bytes ≡ took f (length bytes)
unfolding decode_payload
verdict-spelled level m bytes (Proto major minor revision) s within =
    rw s (verdict-whole level m (proto major minor revision) _ 8 _ (scan-proto m major minor revision) (proto_at level major minor revision) refl)
verdict-spelled level m bytes (Meth channel x) s within =
    let whole = method_whole level s.payload x s.spelled in
    verdict-whole level m bytes _ _ (Meth channel x) (scan-method m bytes channel s.payload s.is_framed within)
    (at_method level channel s.payload x whole ∙ method_is_at level s.payload x s.spelled) (ap (read_map (λ y. Meth channel y)) whole)
verdict-spelled level m bytes (Head channel header) s within =
    let whole = header_whole level s.payload header s.spelled in
    verdict-whole level m bytes _ _ (Head channel header) (scan-header m bytes channel s.payload s.is_framed within)
    (at_header level channel s.payload header whole ∙ header_is_at level s.payload header s.spelled) (ap (read_map (λ y. Head channel y)) whole)
verdict-spelled level m bytes (Body channel content) s within =
    verdict-whole level m bytes _ _ (Body channel content) (scan-body m bytes channel content s within) (body_at level channel content) refl
verdict-spelled level m bytes Beat s within = verdict-beat level m bytes 0 s within
verdict-spelled level m bytes (BadBeat channel) s within =
    rw (← beat_on-some channel s.0) (verdict-beat level m bytes channel s.1 within)

-- whatever follows
pub verdict-spelled_before : (level : Level) (m : Option ℕ) (first rest : List ℕ) (f : Frame)
    → Spells level first f → IsWithin m first → judge_frame level m (first ++ rest) ≡ took f (length first)
verdict-spelled_before level m first rest f s within =
    subst (λ (xs : List ℕ). judge_frame level m (xs ++ rest) ≡ took f (length first)) (take_all (length first) first (omega arith))
    (verdict-exact level m first rest f (length first) (verdict-spelled level m first f s within))
