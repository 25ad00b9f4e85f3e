-- The canonical payload of a typed frame encodes it strictly.
use Rattle.std.proofs.Common.{◌≡◌, Bool, true, false, List, ℕ, refl, subst, sym}
use Rattle.std.specs.Prelude.{IsOk}
use Rattle.amqp_types.specs.SlotBytes.{any_long}
use Rattle.amqp_types.specs.Methods.{payload_bytes}
use Rattle.amqp_types.specs.PropertyBytes.{any_long_option}
use Rattle.amqp_types.specs.ContentHeaders.{content_header_bytes}
use Rattle.amqp_types.specs.Sizes.{measured}
use Rattle.amqp_laws.proofs.SlotLaws.{either}
use Rattle.amqp_laws.proofs.MethodLaws.{payload_held}
use Rattle.amqp_laws.proofs.HeaderLaws.{header_held}
use Rattle.amqp_wire.specs.declared.outline.FrameOutline.{FrameOutline}
use Rattle.amqp_wire.specs.Frames.{Frame, Proto, Meth, Head, Body, Beat, BadBeat}
use Rattle.amqp_wire.specs.Outlines.{outline_of}
use Rattle.amqp_wire.specs.Canonical.{canon, is_deep, is_long, is_long_for, size_of, payload_of}
use Rattle.amqp_wire.specs.Laws.{IsFrameHeld}
use Rattle.amqp_wire.proofs.Holding.{held_fields}
use Rattle.amqp_lines.specs.Payloads.{IsPayload, IsIn}

held_payload : (f : Frame) → IsFrameHeld f → is_deep f ≡ false → is_long f ≡ false → IsPayload (payload_of f) f
held_payload (Proto major minor revision) held deep long = refl
held_payload (Meth channel m) held deep long =
    let fields = held_fields m held.1 in
    payload_held m fields.slots fields.known fields.held deep (either (any_long m.items) (is_long_for (payload_bytes m)) long).0
held_payload (Head channel header) held deep long =
    header_held header held.1 deep (either (any_long_option header.options) (is_long_for (content_header_bytes header)) long).0
held_payload (Body channel content) held deep long = refl
held_payload Beat held deep long = refl
held_payload (BadBeat channel) held deep long = refl

-- what has a size is neither deep nor long
is_sized : (deep long : Bool) (bytes : List ℕ) → IsOk (measured deep long bytes) → (deep ≡ false) × (long ≡ false)
is_sized true long bytes h = absurd cc
is_sized false true bytes h = absurd cc
is_sized false false bytes h = (refl, refl)

-- A frame that a program holds, and that has a size, is encoded strictly by its outline and its canonical payload.
pub typed_in : (f : Frame) (outline : FrameOutline) (payload : List ℕ) → IsFrameHeld f
    → IsOk (size_of f) → outline ≡ outline_of f → payload ≡ payload_of f → IsIn outline payload f
unfolding size_of
typed_in f outline payload held size is same =
    let ok = is_sized (is_deep f) (is_long f) (canon f) size in
    record { outline_is = is; is_payload = subst (λ bytes. IsPayload bytes f) (sym same) (held_payload f held ok.0 ok.1) }
