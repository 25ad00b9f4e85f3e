-- Two methods of the class connection are equal exactly where contracts see the same.
use Rattle.std.proofs.Common.{◌≡◌, ◌↔◌, rules}
use Rattle.std.specs.Bool.{Decides}
use Rattle.std.specs.Cmp.{unsigned_Decides}
use Rattle.std.specs.Cmp.Lexicographic.{bytes_decides}
use Rattle.amqp_laws.proofs.Deciding.{both, decides_same}
use Rattle.amqp_values.proofs.Deciding.{same_tables}
use Rattle.amqp_connection.specs.declared.methods.connection.negotiating.Start.{Start}
use Rattle.amqp_connection.specs.contracts.methods.connection.negotiating.StartPartialEq.TheImpl as start
use Rattle.amqp_connection.specs.declared.methods.connection.negotiating.StartOk.{StartOk}
use Rattle.amqp_connection.specs.contracts.methods.connection.negotiating.StartOkPartialEq.TheImpl as start_ok
use Rattle.amqp_connection.specs.declared.methods.connection.negotiating.Secure.{Secure}
use Rattle.amqp_connection.specs.contracts.methods.connection.negotiating.SecurePartialEq.TheImpl as secure
use Rattle.amqp_connection.specs.declared.methods.connection.negotiating.SecureOk.{SecureOk}
use Rattle.amqp_connection.specs.contracts.methods.connection.negotiating.SecureOkPartialEq.TheImpl as secure_ok
use Rattle.amqp_connection.specs.declared.methods.connection.negotiating.Tune.{Tune}
use Rattle.amqp_connection.specs.contracts.methods.connection.negotiating.TunePartialEq.TheImpl as tune
use Rattle.amqp_connection.specs.declared.methods.connection.negotiating.TuneOk.{TuneOk}
use Rattle.amqp_connection.specs.contracts.methods.connection.negotiating.TuneOkPartialEq.TheImpl as tune_ok
use Rattle.amqp_connection.specs.declared.methods.connection.opening.Open.{Open}
use Rattle.amqp_connection.specs.contracts.methods.connection.opening.OpenPartialEq.TheImpl as opened
use Rattle.amqp_connection.specs.declared.methods.connection.opening.Close.{Close}
use Rattle.amqp_connection.specs.contracts.methods.connection.opening.ClosePartialEq.TheImpl as close
use Rattle.amqp_connection.specs.declared.methods.connection.opening.Blocked.{Blocked}
use Rattle.amqp_connection.specs.contracts.methods.connection.opening.BlockedPartialEq.TheImpl as blocked
use Rattle.amqp_connection.specs.declared.methods.connection.opening.UpdateSecret.{UpdateSecret}
use Rattle.amqp_connection.specs.contracts.methods.connection.opening.UpdateSecretPartialEq.TheImpl as update_secret
use Rattle.amqp_connection.specs.declared.methods.connection.AMQPMethod.{AMQPMethod}
use Rattle.amqp_connection.specs.contracts.methods.connection.AMQPMethodPartialEq.TheImpl as method

SameStart : Start → Start → Type 0
SameStart a b =
    (a.version_major ≡ b.version_major)
    × ((a.version_minor ≡ b.version_minor) × ((a.server_properties ≡ b.server_properties) × ((a.mechanisms ≡ b.mechanisms) × (a.locales ≡ b.locales))))

start_fields : (a b : Start) → Decides (start.ghosts.eq a b) (SameStart a b)
unfolding SameStart
start_fields a b = search (both, bytes_decides, unsigned_Decides, same_tables) depth 8

start_is : (a b : Start) → SameStart a b ↔ (a ≡ b)
unfolding SameStart
start_is a b = search rules

SameStartOk : StartOk → StartOk → Type 0
SameStartOk a b = (a.client_properties ≡ b.client_properties) × ((a.mechanism ≡ b.mechanism) × ((a.response ≡ b.response) × (a.locale ≡ b.locale)))

start_ok_fields : (a b : StartOk) → Decides (start_ok.ghosts.eq a b) (SameStartOk a b)
unfolding SameStartOk
start_ok_fields a b = search (both, bytes_decides, same_tables) depth 7

start_ok_is : (a b : StartOk) → SameStartOk a b ↔ (a ≡ b)
unfolding SameStartOk
start_ok_is a b = search rules

-- The test of equal connection.start methods is true exactly where contracts see the same.
pub same_start : (a b : Start) → Decides (start.ghosts.eq a b) (a ≡ b)
same_start a b = decides_same (start.ghosts.eq a b) (start_fields a b) (start_is a b)

-- The test of equal connection.start-ok methods is true exactly where contracts see the same.
pub same_start_ok : (a b : StartOk) → Decides (start_ok.ghosts.eq a b) (a ≡ b)
same_start_ok a b = decides_same (start_ok.ghosts.eq a b) (start_ok_fields a b) (start_ok_is a b)

-- The test of equal connection.secure methods is true exactly where contracts see the same.
pub same_secure : (a b : Secure) → Decides (secure.ghosts.eq a b) (a ≡ b)
same_secure a b = search rules

-- The test of equal connection.secure-ok methods is true exactly where contracts see the same.
pub same_secure_ok : (a b : SecureOk) → Decides (secure_ok.ghosts.eq a b) (a ≡ b)
same_secure_ok a b = search rules

-- The test of equal connection.tune methods is true exactly where contracts see the same.
pub same_tune : (a b : Tune) → Decides (tune.ghosts.eq a b) (a ≡ b)
same_tune a b = search rules

-- The test of equal connection.tune-ok methods is true exactly where contracts see the same.
pub same_tune_ok : (a b : TuneOk) → Decides (tune_ok.ghosts.eq a b) (a ≡ b)
same_tune_ok a b = search rules

-- The test of equal connection.open methods is true exactly where contracts see the same.
pub same_open : (a b : Open) → Decides (opened.ghosts.eq a b) (a ≡ b)
same_open a b = search rules

-- The test of equal connection.close methods is true exactly where contracts see the same.
pub same_close : (a b : Close) → Decides (close.ghosts.eq a b) (a ≡ b)
same_close a b = search rules

-- The test of equal connection.blocked methods is true exactly where contracts see the same.
pub same_blocked : (a b : Blocked) → Decides (blocked.ghosts.eq a b) (a ≡ b)
same_blocked a b = search rules

-- The test of equal connection.update-secret methods is true exactly where contracts see the same.
pub same_update_secret : (a b : UpdateSecret) → Decides (update_secret.ghosts.eq a b) (a ≡ b)
same_update_secret a b = search rules

-- The test of equal methods of the class connection is true exactly where contracts see the same.
pub same_method : (a b : AMQPMethod) → Decides (method.ghosts.eq a b) (a ≡ b)
same_method a b =
    search (rules, same_start, same_start_ok, same_secure, same_secure_ok, same_tune, same_tune_ok, same_open, same_close, same_blocked, same_update_secret)
