-- Two methods of the class access are equal exactly where contracts see the same.
use Rattle.std.proofs.Common.{◌≡◌, ◌↔◌, rules}
use Rattle.std.specs.Bool.{Decides}
use Rattle.std.specs.Cmp.{booleans_Decides}
use Rattle.std.specs.Cmp.Lexicographic.{bytes_decides}
use Rattle.amqp_laws.proofs.Deciding.{both, decides_same}
use Rattle.amqp_connection.specs.declared.methods.access.Request.{Request}
use Rattle.amqp_connection.specs.contracts.methods.access.RequestPartialEq.TheImpl as request
use Rattle.amqp_connection.specs.declared.methods.access.AMQPMethod.{AMQPMethod}
use Rattle.amqp_connection.specs.contracts.methods.access.AMQPMethodPartialEq.TheImpl as method

SameRequest : Request → Request → Type 0
SameRequest a b =
    (a.realm ≡ b.realm) × ((a.exclusive ≡ b.exclusive) × ((a.passive ≡ b.passive) × ((a.active ≡ b.active) × ((a.write ≡ b.write) × (a.read ≡ b.read)))))

request_fields : (a b : Request) → Decides (request.ghosts.eq a b) (SameRequest a b)
unfolding SameRequest
request_fields a b = search (both, bytes_decides, booleans_Decides) depth 9

request_is : (a b : Request) → SameRequest a b ↔ (a ≡ b)
unfolding SameRequest
request_is a b = search rules

-- The test of equal access.request methods is true exactly where contracts see the same.
pub same_request : (a b : Request) → Decides (request.ghosts.eq a b) (a ≡ b)
same_request a b = decides_same (request.ghosts.eq a b) (request_fields a b) (request_is a b)

-- The test of equal methods of the class access is true exactly where contracts see the same.
pub same_method : (a b : AMQPMethod) → Decides (method.ghosts.eq a b) (a ≡ b)
same_method a b = search (rules, same_request)
