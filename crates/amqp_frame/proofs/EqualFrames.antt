-- Frames are equal exactly where contracts see the same.
use Rattle.std.proofs.Common.{◌≡◌, true, true≢false, refl, sym, ap, subst}
use Rattle.std.specs.Bool.{Decides}
use Rattle.std.specs.Cmp.{unsigned_Decides}
use Rattle.std.specs.Cmp.Lexicographic.{bytes_decides}
use Rattle.amqp_laws.proofs.Deciding.{both}
use Rattle.amqp_properties.proofs.EqualHeaders.{same_header}
use Rattle.amqp_protocol.proofs.EqualClasses.{same_class}
use Rattle.amqp_wire.proofs.EqualVersions.{same_version}
use Rattle.amqp_frame.specs.declared.frame.AMQPFrame.{AMQPFrame}
use Rattle.amqp_frame.specs.declared.frame.AMQPFrame.TheVariants as frames
use Rattle.amqp_frame.specs.contracts.frame.AMQPFramePartialEq.TheImpl as frame

same : (a b : AMQPFrame) → frame.ghosts.eq a b ≡ true → a ≡ b
same (frames.ProtocolHeader a) (frames.ProtocolHeader b) h = ap frames.ProtocolHeader ((same_version a b).0 h)
same (frames.Method channel a) (frames.Method other b) h =
    let e = (both _ _ (unsigned_Decides channel other) (same_class a b)).0 h in
    λ i. frames.Method (e.0 i) (e.1 i)
same (frames.Header channel a) (frames.Header other b) h =
    let e = (both _ _ (unsigned_Decides channel other) (same_header a b)).0 h in
    λ i. frames.Header (e.0 i) (e.1 i)
same (frames.Body channel a) (frames.Body other b) h =
    let e = (both _ _ (unsigned_Decides channel other) (bytes_decides a b)).0 h in
    λ i. frames.Body (e.0 i) (e.1 i)
same frames.Heartbeat frames.Heartbeat h = refl
same (frames.InvalidHeartbeat channel) (frames.InvalidHeartbeat other) h = ap frames.InvalidHeartbeat ((unsigned_Decides channel other).0 h)
same a b h = absurd (true≢false (sym h))

itself : (a : AMQPFrame) → frame.ghosts.eq a a ≡ true
itself (frames.ProtocolHeader a) = (same_version a a).1 refl
itself (frames.Method channel a) = (both _ _ (unsigned_Decides channel channel) (same_class a a)).1 (refl, refl)
itself (frames.Header channel a) = (both _ _ (unsigned_Decides channel channel) (same_header a a)).1 (refl, refl)
itself (frames.Body channel a) = (both _ _ (unsigned_Decides channel channel) (bytes_decides a a)).1 (refl, refl)
itself frames.Heartbeat = refl
itself (frames.InvalidHeartbeat channel) = (unsigned_Decides channel channel).1 refl

-- The test of equal frames is true exactly where contracts see the same.
pub same_frame : (a b : AMQPFrame) → Decides (frame.ghosts.eq a b) (a ≡ b)
same_frame a b = (same a b, λ e. let P : AMQPFrame → Type 0 = λ x. frame.ghosts.eq a x ≡ true in subst P e (itself a))
