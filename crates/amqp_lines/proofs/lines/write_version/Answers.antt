-- `write_version`: what it ensures.
use Rattle.amqp_lines.proofs
use proofs.Names.{◌≡◌, ProtocolVersion}
use proofs.Lining.{version_said}
use proofs.lines.write_version.Goals as goal

pub returns-in_ok-push-in-Ok-2 : goal.returns-in_ok-push-in-Ok-2
returns-in_ok-push-in-Ok-2 c = λ major minor revision is.
    let named : ProtocolVersion = record { major = major; minor = minor; revision = revision } in
    let version : c.in-Ok.version ≡ named = let found = c.in-Ok.ensures.found major minor revision is in cc in
    version_said _ _ _ _
    _ _ _ _ _
    c.in_ok-write_bytes-in-Ok.ensures c.in_ok-write_decimal-in-Ok.ensures c.in_ok-push-in-Ok.ensures.items
    c.in_ok-write_decimal-in-Ok-2.ensures c.in_ok-push-in-Ok-2.ensures.items c.write_decimal-in-Ok-2.ensures major minor revision version
