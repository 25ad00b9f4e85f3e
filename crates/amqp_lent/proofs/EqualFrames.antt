-- Borrowed frames are equal exactly where their parts are the same.
use Rattle.std.proofs.Common.{◌≡◌, true, true≢false, refl, sym, ap}
use Rattle.std.specs.Bool.{Decides}
use Rattle.std.specs.Cmp.{unsigned_Decides}
use Rattle.std.specs.Cmp.Lexicographic.{bytes_decides}
use Rattle.amqp_laws.proofs.Deciding.{both}
use Rattle.amqp_lent.specs.declared.frame.LentFrame.{LentFrame}
use Rattle.amqp_lent.specs.declared.frame.LentFrame.TheVariants as frames
use Rattle.amqp_lent.specs.contracts.frame.LentFramePartialEq.TheImpl as frame
use Rattle.amqp_lent.specs.Frames.{protocol_header, method, content_header, body, invalid_heartbeat, parts_of}
use Rattle.amqp_wire.proofs.EqualVersions.{same_version}

same : (a b : LentFrame) → frame.ghosts.eq a b ≡ true → parts_of a ≡ parts_of b
same (frames.ProtocolHeader a) (frames.ProtocolHeader b) h = ap protocol_header ((same_version a b).0 h)
same (frames.Method channel class id slots) (frames.Method channel₁ class₁ id₁ slots₁) h =
    let e =
    (both _ _ (unsigned_Decides channel channel₁)
    (both _ _ (unsigned_Decides class class₁) (both _ _ (unsigned_Decides id id₁) (bytes_decides slots.now slots₁.now)))).0
    h in
    λ i. method (e.0 i) (e.1.0 i) (e.1.1.0 i) (e.1.1.1 i)
same (frames.Header channel class size properties) (frames.Header channel₁ class₁ size₁ properties₁) h =
    let e =
    (both _ _ (unsigned_Decides channel channel₁)
    (both _ _ (unsigned_Decides class class₁) (both _ _ (unsigned_Decides size size₁) (bytes_decides properties.now properties₁.now)))).0
    h in
    λ i. content_header (e.0 i) (e.1.0 i) (e.1.1.0 i) (e.1.1.1 i)
same (frames.Body channel content) (frames.Body channel₁ content₁) h =
    let e = (both _ _ (unsigned_Decides channel channel₁) (bytes_decides content.now content₁.now)).0 h in
    λ i. body (e.0 i) (e.1 i)
same frames.Heartbeat frames.Heartbeat h = refl
same (frames.InvalidHeartbeat channel) (frames.InvalidHeartbeat channel₁) h = ap invalid_heartbeat ((unsigned_Decides channel channel₁).0 h)
same a b h = absurd (true≢false (sym h))

equal : (a b : LentFrame) → parts_of a ≡ parts_of b → frame.ghosts.eq a b ≡ true
equal (frames.ProtocolHeader a) (frames.ProtocolHeader b) e = (same_version a b).1 cc
equal (frames.Method channel class id slots) (frames.Method channel₁ class₁ id₁ slots₁) e =
    (both _ _ (unsigned_Decides channel channel₁)
    (both _ _ (unsigned_Decides class class₁) (both _ _ (unsigned_Decides id id₁) (bytes_decides slots.now slots₁.now)))).1
    (cc, (cc, (cc, cc)))
equal (frames.Header channel class size properties) (frames.Header channel₁ class₁ size₁ properties₁) e =
    (both _ _ (unsigned_Decides channel channel₁)
    (both _ _ (unsigned_Decides class class₁) (both _ _ (unsigned_Decides size size₁) (bytes_decides properties.now properties₁.now)))).1
    (cc, (cc, (cc, cc)))
equal (frames.Body channel content) (frames.Body channel₁ content₁) e =
    (both _ _ (unsigned_Decides channel channel₁) (bytes_decides content.now content₁.now)).1 (cc, cc)
equal frames.Heartbeat frames.Heartbeat e = refl
equal (frames.InvalidHeartbeat channel) (frames.InvalidHeartbeat channel₁) e = (unsigned_Decides channel channel₁).1 cc
equal a b e = absurd cc

-- The test of equal borrowed frames is true exactly where their parts are the same.
pub same_parts : (a b : LentFrame) → Decides (frame.ghosts.eq a b) (parts_of a ≡ parts_of b)
same_parts a b = (same a b, equal a b)
