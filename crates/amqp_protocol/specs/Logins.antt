-- What a client sends to log in (SASL, RFC 4422, and RabbitMQ's own mechanisms).
use Rattle.std.specs.Prelude.{ℕ, List, [], ◌∷◌, ◌++◌, codes}
use Rattle.amqp_types.specs.Strings.{short_string_bytes, with_length}
use Rattle.amqp_protocol.specs.declared.credentials.SASLMechanism.{SASLMechanism}
use Rattle.amqp_protocol.specs.declared.credentials.SASLMechanism.TheVariants as mechanism

-- a user name and a password
pub record Login : Type 0 where
  pub username : List ℕ
  pub password : List ℕ

-- an entry of a table: a key, and after it the tag of a long string and the string
abbrev pub login_entry : List ℕ → List ℕ → List ℕ
login_entry key content = short_string_bytes key ++ (codes "S" ++ with_length content)

-- The first response of a mechanism: AMQPlain is the entries of a table, without the table's
-- length; Anonymous and External are empty; Plain is that of RFC 4616 without an authorization
-- identity, a zero byte before user name and before password; RabbitCrDemo is the user name.
abbrev pub login_bytes : SASLMechanism → Login → List ℕ
login_bytes mechanism.AMQPlain login =
    login_entry (codes "LOGIN") login.username ++ login_entry (codes "PASSWORD") login.password
login_bytes mechanism.Anonymous login = []
login_bytes mechanism.External login = []
login_bytes mechanism.Plain login = 0 ∷ (login.username ++ (0 ∷ login.password))
login_bytes mechanism.RabbitCrDemo login = login.username

-- the response of the mechanism RabbitCrDemo to its challenge
abbrev pub demo_answer : Login → List ℕ
demo_answer login = codes "My password is " ++ login.password
