-- `text_of`: what it ensures.
use Rattle.std.proofs.Common.{◌≡◌, List, ℕ, Bool, true, false, refl}
use Rattle.std.specs.Str.{is_utf8, IsUtf8}
use Rattle.std.proofs.lemmas.Str.{IsUtf8-from_is_utf8, is_utf8-from_IsUtf8}
use Rattle.amqp_types.proofs.strings.text_of.Goals as goal

not_utf8 : (bytes : List ℕ) (b : Bool) → is_utf8 bytes ≡ b → ¬ (IsUtf8 bytes) → b ≡ false
not_utf8 bytes true e h = absurd (h (IsUtf8-from_is_utf8 bytes e))
not_utf8 bytes false e h = refl

pub returns-in-Ok : goal.returns-in-Ok
returns-in-Ok c = (c.in-Ok.ensures.cases.0, is_utf8-from_IsUtf8 _ c.in-Ok.ensures.cases.1)

pub returns-in-Err : goal.returns-in-Err
returns-in-Err c = not_utf8 c.args.bytes.now _ refl c.in-Err.ensures.cases.0
