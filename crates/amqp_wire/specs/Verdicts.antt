-- Verdicts: what a whole payload encodes, and what stands at the front of some bytes,
-- with its payload.
use Rattle.std.specs.Prelude.{ℕ, ◌==◌, Bool, true, false, List, [], ◌∷◌, length, Option}
use Rattle.std.specs.Prelude.{Result, Ok, Err, if◌then◌else◌}
use Rattle.std.specs.Str.{bytes_eq}
use Rattle.amqp_types.specs.Levels.{Level, plain, tidy, strict}
use Rattle.amqp_types.specs.Judging.{Fault, Judged, Judge, took, past, fault}
use Rattle.amqp_types.specs.Judging.{short_payload, trailing_bytes, not_tidy}
use Rattle.amqp_types.specs.ValueJudging.{read_map}
use Rattle.amqp_types.specs.Methods.{judge_payload}
use Rattle.amqp_types.specs.ContentHeaders.{judge_content_header}
use Rattle.amqp_types.specs.Tidiness.{is_tidy_payload, is_tidy_content_header}
use Rattle.amqp_types.specs.declared.errors.ParserError.{ParserError}
use Rattle.amqp_types.specs.declared.errors.ParserError.TheVariants as errors
use Rattle.amqp_wire.specs.declared.frame_type.AMQPFrameType.{AMQPFrameType}
use Rattle.amqp_wire.specs.declared.frame_type.AMQPFrameType.TheVariants as kinds
use Rattle.amqp_wire.specs.Frames.{Frame, Proto, Meth, Head, Body, Raw, beat_on}
use Rattle.amqp_wire.specs.Canonical.{payload_of}
use Rattle.amqp_wire.specs.HeaderScan.{scan}

-- What a payload of n bytes encodes, all of which are there: what is incomplete is short, and bytes
-- after what was taken trail.
abbrev pub filling : {A : Type 0} → ℕ → Judged A → Result A Fault
filling n past = Err short_payload
filling n (fault bad) = Err bad
filling n (took x used) = if used == n then Ok x else Err trailing_bytes

-- all of the payload, decoded
abbrev pub all_of : {A : Type 0} → Judge A → List ℕ → Result A Fault
all_of judge payload = filling (length payload) (judge payload)

-- the frame that a payload of this type encodes, or its fault
unfoldable pub decode_payload : AMQPFrameType → ℕ → List ℕ → Result Frame Fault
decode_payload kinds.ProtocolHeader channel [] = Err short_payload
decode_payload kinds.ProtocolHeader channel (a ∷ []) = Err short_payload
decode_payload kinds.ProtocolHeader channel (a ∷ b ∷ []) = Err short_payload
decode_payload kinds.ProtocolHeader channel (a ∷ b ∷ c ∷ []) = Ok (Proto a b c)
decode_payload kinds.ProtocolHeader channel (a ∷ b ∷ c ∷ d ∷ more) = Err trailing_bytes
decode_payload kinds.Method channel payload =
    read_map (λ m. Meth channel m) (all_of judge_payload payload)
decode_payload kinds.Header channel payload =
    read_map (λ header. Head channel header) (all_of judge_content_header payload)
decode_payload kinds.Body channel payload = Ok (Body channel payload)
decode_payload kinds.Heartbeat channel payload = Ok (beat_on channel)

-- the frame that a whole payload encodes, or its fault
abbrev pub decode_raw : Raw → Result Frame Fault
decode_raw raw = decode_payload raw.kind raw.channel raw.payload

-- the errors of a whole payload: none is of the frame around it, or incomplete
abbrev pub IsPayloadError : ParserError → Type 0
IsPayloadError errors.Incomplete = ⊥
IsPayloadError errors.UnknownFrameType = ⊥
IsPayloadError errors.BadProtocolHeader = ⊥
IsPayloadError errors.BadFrameEnd = ⊥
IsPayloadError error = Unit {0}

-- what decoding drops of a whole payload is canonical
unfoldable pub is_tidy_as : AMQPFrameType → List ℕ → Bool
is_tidy_as kinds.ProtocolHeader payload = true
is_tidy_as kinds.Method payload = is_tidy_payload payload
is_tidy_as kinds.Header payload = is_tidy_content_header payload
is_tidy_as kinds.Body payload = true
is_tidy_as kinds.Heartbeat payload = length payload == 0

-- the payload is the one that is written for the frame; where it has a fault, there is
-- none to compare
abbrev pub is_written_for : Result Frame Fault → List ℕ → Bool
is_written_for (Ok frame) payload = bytes_eq payload (payload_of frame)
is_written_for (Err bad) payload = true

-- a whole frame is encoded at this level
abbrev pub is_at : Level → Raw → Bool
is_at plain raw = true
is_at tidy raw = is_tidy_as raw.kind raw.payload
is_at strict raw = is_written_for (decode_raw raw) raw.payload

-- the verdict on a whole frame: a fault of the payload comes before that of not being tidy
abbrev pub judge_decoded : Bool → Result Frame Fault → ℕ → Judged Frame
judge_decoded true (Ok frame) used = took frame used
judge_decoded false (Ok frame) used = fault not_tidy
judge_decoded at_level (Err bad) used = fault bad

-- the verdict, by the header scan
abbrev pub judge_scanned : Level → Judged Raw → Judged Frame
judge_scanned level past = past
judge_scanned level (fault bad) = fault bad
judge_scanned level (took raw used) = judge_decoded (is_at level raw) (decode_raw raw) used

-- the frame at the front at this level, with payloads of at most m bytes
unfoldable pub judge_frame : Level → Option ℕ → Judge Frame
judge_frame level m bytes = judge_scanned level (scan m bytes)
