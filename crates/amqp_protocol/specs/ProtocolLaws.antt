-- Laws of error codes, login strings and methods.
use Rattle.std.specs.Prelude.{◌≡◌, ◌≢◌, ◌↔◌, ℕ, ◌++◌, take, Some, None, All}
use Rattle.amqp_types.specs.Numbers.{bytes2, number_bytes}
use Rattle.amqp_types.specs.Methods.{Method, payload_bytes}
use Rattle.amqp_protocol.specs.declared.errors.AMQPErrorKind.{AMQPErrorKind}
use Rattle.amqp_protocol.specs.declared.credentials.SASLMechanism.TheVariants as mechanism
use Rattle.amqp_protocol.specs.ErrorCodes.{kind_code, kind_at}
use Rattle.amqp_protocol.specs.Logins.{Login, login_bytes}

-- A code is the code of an error exactly where that is the error of the code, and of none
-- where there is none.
pub record CodesNameErrors : Type 0 where
  pub of_error : (kind : AMQPErrorKind) → kind_at (kind_code kind) ≡ Some kind
  pub of_code : (id : ℕ) (kind : AMQPErrorKind) → kind_at id ≡ Some kind → kind_code kind ≡ id
  pub of_none : (id : ℕ) → (kind_at id ≡ None) ↔ ((kind : AMQPErrorKind) → kind_code kind ≢ id)

-- the user name holds no zero byte
abbrev pub HasPlainName : Login → Type 0
HasPlainName login = All (λ byte. byte ≢ 0) login.username

-- Of logins whose user names hold no zero byte, two strings of Plain are equal exactly where user
-- name and password are.
abbrev pub PlainLoginsNameCredentials : Type 0
PlainLoginsNameCredentials =
    (a b : Login) → HasPlainName a → HasPlainName b
    → (login_bytes mechanism.Plain a ≡ login_bytes mechanism.Plain b) ↔ (a ≡ b)

-- a payload begins with the class id and the method id
abbrev pub PayloadsBeginWithIds : Type 0
PayloadsBeginWithIds =
    (m : Method)
    → take 4 (payload_bytes m) ≡ number_bytes bytes2 m.class ++ number_bytes bytes2 m.id
