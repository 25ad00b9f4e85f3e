-- Bodies, heartbeats and protocol headers that are put.
use Rattle.std.proofs.Common.{◌≡◌, ℕ, ◌+◌, ◌≤◌, List, [], length, None, Ok, refl, ap, subst, ◌∙◌, arith}
use Rattle.std.proofs.lemmas.Bool.{le-ltb}
use Rattle.amqp_types.specs.Writing.{Puts}
use Rattle.amqp_wire.specs.Spelling.{framed, proto}
use Rattle.amqp_wire.specs.Canonical.{canon}
use Rattle.amqp_wire.specs.Frames.{Proto, Body, Beat}
use Rattle.amqp_put.specs.MadeFrames.{MakesFrame, MakesEight}
use Rattle.amqp_put.proofs.HeadersMade.{framed_made}

-- a heartbeat that has room is put
pub beat_made : (out new bytes : List ℕ) (final : ℕ) → bytes ≡ framed 8 0 [] → 8 ≤ length out → Puts out new 0 bytes final → MakesEight out new Beat (Ok final)
unfolding canon
beat_made out new bytes final is enough p =
    let P : List ℕ → Type 0 = λ bs. Puts out new 0 bs final in
    let made : Puts out new 0 (framed 8 0 []) final = subst P is p in
    (rw (le-ltb (length out) 8 enough) refl, made.behind ∙ omega arith, made.put)

-- a protocol header that has room is put
pub proto_made : (out new bytes : List ℕ) (final major minor revision : ℕ) → bytes ≡ proto major minor revision → 8 ≤ length out → Puts out new 0 bytes final
    → MakesEight out new (Proto major minor revision) (Ok final)
unfolding canon
proto_made out new bytes final major minor revision is enough p =
    let P : List ℕ → Type 0 = λ bs. Puts out new 0 bs final in
    let made : Puts out new 0 (proto major minor revision) final = subst P is p in
    (rw (le-ltb (length out) 8 enough) refl, made.behind ∙ omega arith, made.put)

-- a body that has room is put
pub body_made : (out new content : List ℕ) (final channel max : ℕ) → length content ≤ max → length content + 8 ≤ length out
    → Puts out new 0 (framed 3 channel content) final → MakesFrame out new max (Body channel content) None (Ok final)
unfolding canon
body_made out new content final channel max within enough p =
    framed_made 0 out new content final 3 channel max (length content) None content (ap Ok (omega arith)) (omega arith) (omega (arith, within))
    (omega (arith, enough)) (λ room. p)
