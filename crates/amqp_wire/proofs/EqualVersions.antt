-- Versions are equal exactly where contracts see the same.
use Rattle.std.proofs.Common.{◌≡◌, rules}
use Rattle.std.specs.Bool.{Decides}
use Rattle.amqp_wire.specs.declared.version.ProtocolVersion.{ProtocolVersion}
use Rattle.amqp_wire.specs.contracts.version.ProtocolVersionPartialEq.TheImpl as version

-- The equality of two versions decides whether contracts see the same version.
pub same_version : (a b : ProtocolVersion) → Decides (version.ghosts.eq a b) (a ≡ b)
same_version a b = search rules
