-- Openings and messages are equal exactly where contracts see the same.
use Rattle.std.proofs.Common.{◌≡◌, true, true≢false, refl, sym, ap, subst}
use Rattle.std.specs.Bool.{Decides}
use Rattle.std.specs.Cmp.{unsigned_Decides}
use Rattle.std.specs.Cmp.Lexicographic.{bytes_decides}
use Rattle.amqp_laws.proofs.Deciding.{both}
use Rattle.amqp_basic.proofs.EqualMethods.{same_publish, same_return, same_deliver, same_get_ok}
use Rattle.amqp_properties.proofs.EqualProperties.{same_properties}
use Rattle.amqp_messages.specs.declared.opening.Opening.{Opening}
use Rattle.amqp_messages.specs.declared.opening.Opening.TheVariants as openings
use Rattle.amqp_messages.specs.contracts.opening.OpeningPartialEq.TheImpl as opening
use Rattle.amqp_messages.specs.Messages.{Parts}
use Rattle.amqp_messages.specs.contracts.message.MessagePartialEq.TheImpl as message

-- ---- openings

opening_same : (a b : Opening) → opening.ghosts.eq a b ≡ true → a ≡ b
opening_same (openings.Publish a) (openings.Publish b) h = ap openings.Publish ((same_publish a b).0 h)
opening_same (openings.Return a) (openings.Return b) h = ap openings.Return ((same_return a b).0 h)
opening_same (openings.Deliver a) (openings.Deliver b) h = ap openings.Deliver ((same_deliver a b).0 h)
opening_same (openings.GetOk a) (openings.GetOk b) h = ap openings.GetOk ((same_get_ok a b).0 h)
opening_same a b h = absurd (true≢false (sym h))

opening_itself : (a : Opening) → opening.ghosts.eq a a ≡ true
opening_itself (openings.Publish a) = (same_publish a a).1 refl
opening_itself (openings.Return a) = (same_return a a).1 refl
opening_itself (openings.Deliver a) = (same_deliver a a).1 refl
opening_itself (openings.GetOk a) = (same_get_ok a a).1 refl

-- `==` of openings holds exactly where they are the same
pub same_opening : (a b : Opening) → Decides (opening.ghosts.eq a b) (a ≡ b)
same_opening a b = (opening_same a b, λ e. let P : Opening → Type 0 = λ x. opening.ghosts.eq a x ≡ true in subst P e (opening_itself a))

-- ---- messages

abbrev SameParts : Parts → Parts → Type 0
SameParts a b = (a.channel ≡ b.channel) × ((a.opening ≡ b.opening) × ((a.properties ≡ b.properties) × (a.body ≡ b.body)))

parts_decided : (a b : Parts) → Decides (message.ghosts.eq a b) (SameParts a b)
parts_decided a b =
    both _ _ (unsigned_Decides a.channel b.channel)
    (both _ _ (same_opening a.opening b.opening) (both _ _ (same_properties a.properties b.properties) (bytes_decides a.body b.body)))

message_of_parts : (a b : Parts) → SameParts a b → a ≡ b
message_of_parts a b e = λ i. record { channel = e.0 i; opening = e.1.0 i; properties = e.1.1.0 i; body = e.1.1.1 i }

parts_of_message : (a b : Parts) → a ≡ b → SameParts a b
parts_of_message a b e =
    (ap (λ (m : Parts). m.channel) e, (ap (λ (m : Parts). m.opening) e, (ap (λ (m : Parts). m.properties) e, ap (λ (m : Parts). m.body) e)))

-- `==` of messages holds exactly where their four parts are the same
pub same_message : (a b : Parts) → Decides (message.ghosts.eq a b) (a ≡ b)
same_message a b = (λ h. message_of_parts a b ((parts_decided a b).0 h), λ e. (parts_decided a b).1 (parts_of_message a b e))
