-- The canonical bytes of the frames that borrowed frames stand for.
use Rattle.std.proofs.lemmas.Grind.{common_steps}
use Rattle.std.proofs.Common.{arith}
use Rattle.std.proofs.Common.{◌≡◌, ◌≤◌, ℕ, List, [], ◌∷◌, length, Result, Ok, Err, refl, sym, ap, subst, ◌∙◌}
use Rattle.std.specs.Prelude.{IsOk}
use Rattle.amqp_types.specs.Judging.{Fault}
use Rattle.amqp_types.specs.Methods.{judge_payload, payload_bytes}
use Rattle.amqp_types.specs.ContentHeaders.{judge_content_header, content_header_bytes}
use Rattle.amqp_canonical.specs.Writes.{IsRead, canonical_of}
use Rattle.amqp_canonical.proofs.PayloadParts.{header_put, payload_long}
use Rattle.amqp_wire.specs.declared.frame_type.AMQPFrameType.TheVariants as kinds
use Rattle.amqp_wire.specs.Frames.{Frame, Proto, Body, beat_on}
use Rattle.amqp_wire.specs.Canonical.{canon}
use Rattle.amqp_wire.specs.Spelling.{framed, proto}
use Rattle.amqp_wire.specs.Verdicts.{decode_payload}
use Rattle.amqp_wire.proofs.Rewritten.{canon_beat}

-- The canonical bytes of the method in a payload, framed, are those of the frame that the payload is decoded to.
pub method_canon : (channel : ℕ) (payload : List ℕ) (frame : Frame) → decode_payload kinds.Method channel payload ≡ Ok frame
    → IsRead (judge_payload payload) × (framed 1 channel (canonical_of payload_bytes (judge_payload payload)) ≡ canon frame)
unfolding decode_payload canon
method_canon channel payload frame h = grind (arith, common_steps)

-- The canonical bytes of the content header in a payload, framed, are those of the frame that the payload is decoded to.
pub header_canon : (channel : ℕ) (payload : List ℕ) (frame : Frame) → decode_payload kinds.Header channel payload ≡ Ok frame
    → IsRead (judge_content_header payload) × (framed 2 channel (canonical_of content_header_bytes (judge_content_header payload)) ≡ canon frame)
unfolding decode_payload canon
header_canon channel payload frame h = grind (arith, common_steps)

-- The bytes of a body, framed, are the canonical bytes of the frame that it is decoded to.
pub body_canon : (channel : ℕ) (content : List ℕ) (frame : Frame) → decode_payload kinds.Body channel content ≡ Ok frame
    → framed 3 channel content ≡ canon frame
unfolding decode_payload canon
body_canon channel content frame h = let same : Body channel content ≡ frame = cc in ap canon same

-- A protocol header with the three bytes of its version is the canonical bytes of the frame that it is decoded to.
pub version_canon : (channel a b c : ℕ) (frame : Frame) → decode_payload kinds.ProtocolHeader channel (a ∷ b ∷ c ∷ []) ≡ Ok frame → proto a b c ≡ canon frame
unfolding decode_payload canon
version_canon channel a b c frame h = let same : Proto a b c ≡ frame = cc in ap canon same

-- An empty heartbeat, framed, is the canonical bytes of the frame that it is decoded to.
pub beat_canon : (channel : ℕ) (frame : Frame) → decode_payload kinds.Heartbeat channel [] ≡ Ok frame → framed 8 channel [] ≡ canon frame
unfolding decode_payload
beat_canon channel frame h = let same : beat_on channel ≡ frame = cc in canon_beat channel ∙ ap canon same

-- ---- what a payload is that is a frame

-- A result that is no error is a value.
pub ok_is : {A : Type 0} (r : Result A Fault) → IsOk r → (x : A) × (r ≡ Ok x)
ok_is (Ok x) h = (x, refl)
ok_is (Err bad) h = absurd (let e = h in cc)

-- A result that is a value is no error.
pub is_ok : {A : Type 0} (r : Result A Fault) (x : A) → r ≡ Ok x → IsOk r
is_ok r x h = subst IsOk (sym h) refl

-- a protocol header has its version alone
pub version_long : (channel : ℕ) (payload : List ℕ) (frame : Frame) → decode_payload kinds.ProtocolHeader channel payload ≡ Ok frame → length payload ≡ 3
unfolding decode_payload
version_long channel payload frame h = grind (arith, common_steps)

-- on whatever channel
pub version_any : (one other : ℕ) (payload : List ℕ) → decode_payload kinds.ProtocolHeader one payload ≡ decode_payload kinds.ProtocolHeader other payload
unfolding decode_payload
version_any one other payload = grind (arith, common_steps)

-- the payload of a heartbeat means nothing
pub beat_any : (channel : ℕ) (one other : List ℕ) → decode_payload kinds.Heartbeat channel one ≡ decode_payload kinds.Heartbeat channel other
unfolding decode_payload
beat_any channel one other = refl

-- a method has its two ids
pub method_long : (channel : ℕ) (payload : List ℕ) (frame : Frame) → decode_payload kinds.Method channel payload ≡ Ok frame → 4 ≤ length payload
method_long channel payload frame h = payload_long payload (method_canon channel payload frame h).0

-- a content header has its front
pub header_long : (channel : ℕ) (payload : List ℕ) (frame : Frame) → decode_payload kinds.Header channel payload ≡ Ok frame → 12 ≤ length payload
header_long channel payload frame h = let put = header_put payload (header_canon channel payload frame h).0 in put.long

-- payloads of one length of which the same header is read are the same frame
pub header_whole : (channel : ℕ) (one other : List ℕ) → judge_content_header one ≡ judge_content_header other
    → length one ≡ length other → decode_payload kinds.Header channel one ≡ decode_payload kinds.Header channel other
unfolding decode_payload
header_whole channel one other same long = grind (arith, common_steps)
