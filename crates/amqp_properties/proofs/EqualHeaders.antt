-- Content headers are equal exactly where contracts see the same.
use Rattle.std.proofs.Common.{◌≡◌, ◌↔◌, rules}
use Rattle.std.specs.Bool.{Decides}
use Rattle.std.specs.Cmp.{unsigned_Decides}
use Rattle.amqp_laws.proofs.Deciding.{both, decides_same}
use Rattle.amqp_properties.specs.declared.content_header.AMQPContentHeader.{AMQPContentHeader}
use Rattle.amqp_properties.specs.contracts.content_header.AMQPContentHeaderPartialEq.TheImpl as header
use Rattle.amqp_properties.proofs.EqualProperties.{same_properties}

abbrev SameHeader : AMQPContentHeader → AMQPContentHeader → Type 0
SameHeader a b = (a.class_id ≡ b.class_id) × ((a.body_size ≡ b.body_size) × (a.properties ≡ b.properties))

header_is : (a b : AMQPContentHeader) → SameHeader a b ↔ (a ≡ b)
header_is a b = search rules

-- The test of equal content headers is true exactly where contracts see the same.
pub same_header : (a b : AMQPContentHeader) → Decides (header.ghosts.eq a b) (a ≡ b)
same_header a b = decides_same (header.ghosts.eq a b) (search (both, unsigned_Decides, same_properties)) (header_is a b)
