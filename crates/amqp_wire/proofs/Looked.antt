-- What the code looks at is the header scan.
use Rattle.std.proofs.Common.{◌≡◌, ℕ, suc, ◌+◌, ◌-◌, ◌≤◌, List, [], ◌∷◌, length, get_or, take, drop, refl, ap, ◌∙◌, arith}
use Rattle.amqp_types.specs.Judging.{took}
use Rattle.amqp_wire.specs.declared.looking.Look.{Look}
use Rattle.amqp_wire.specs.declared.looking.Look.TheVariants as looks
use Rattle.amqp_wire.specs.declared.looking.FrameLayout.{FrameLayout}
use Rattle.amqp_wire.specs.Frames.{Raw}
use Rattle.amqp_wire.specs.Looks.{looked, looked_behind, laid_out_behind, IsBehind}
use Rattle.amqp_wire.proofs.HeaderScan.{behind_byte}

-- a frame with this payload whose type and channel are those of a layout
abbrev pub raw_with : FrameLayout → List ℕ → Raw
raw_with layout payload = record { kind = layout.frame_type; channel = layout.channel_id; payload = payload }

drop-one_more : (k : ℕ) (b : ℕ) (rest : List ℕ) → 1 ≤ k → drop k (b ∷ rest) ≡ drop (k - 1) rest
drop-one_more k b rest some = ap (λ i. drop i (b ∷ rest)) {x = k} {y = suc (k - 1)} (omega arith)

-- a look after the first byte, seen from in front of it
pub looked_behind_one : (look : Look) (b : ℕ) (rest : List ℕ) → IsBehind look rest → looked look (b ∷ rest) ≡ behind_byte (looked_behind look rest)
looked_behind_one (looks.Whole layout) b rest h =
    ap (λ (xs : List ℕ). took (raw_with layout (take layout.payload_len xs)) layout.frame_len) (drop-one_more layout.payload_start b rest h.0)
    ∙ ap (λ k. took (laid_out_behind layout rest) k) {x = layout.frame_len} {y = 1 + (layout.frame_len - 1)} (omega (arith, h.0, h.1.0))
looked_behind_one look b rest h = refl

-- the three version bytes of a protocol header, after its `A`
pub version_payload : (bytes : List ℕ) → 7 ≤ length bytes → get_or bytes 4 0 ∷ get_or bytes 5 0 ∷ get_or bytes 6 0 ∷ [] ≡ take 3 (drop 4 bytes)
version_payload (a ∷ b ∷ c ∷ d ∷ e ∷ f ∷ g ∷ rest) enough = refl
version_payload bytes enough = absurd (omega arith)
