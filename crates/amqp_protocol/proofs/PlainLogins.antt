-- A text without zero bytes ends where the first zero byte stands.
use Rattle.std.proofs.Common.{◌≡◌, ℕ, List, [], ◌∷◌, ◌++◌, refl, ap, ap₂}
use Rattle.std.specs.Prelude.{◌≢◌, All}
use Rattle.std.proofs.lemmas.List.Elements.{All-head, All-tail}
use Rattle.amqp_protocol.specs.declared.credentials.SASLMechanism.TheVariants as mechanism
use Rattle.amqp_protocol.specs.Logins.{Login, login_bytes}
use Rattle.amqp_protocol.specs.ProtocolLaws.{HasPlainName, PlainLoginsNameCredentials}

abbrev HasNoZero : List ℕ → Type 0
HasNoZero bytes = All (λ byte. byte ≢ 0) bytes

parts : (xs ys ps qs : List ℕ) → HasNoZero xs → HasNoZero ys → xs ++ (0 ∷ ps) ≡ ys ++ (0 ∷ qs) → (xs ≡ ys) × (ps ≡ qs)
parts [] [] ps qs p q e = (refl, cc)
parts [] (y ∷ ys) ps qs p q e = let zero : y ≡ 0 = cc in absurd (All-head (λ byte. byte ≢ 0) y ys q zero)
parts (x ∷ xs) [] ps qs p q e = let zero : x ≡ 0 = cc in absurd (All-head (λ byte. byte ≢ 0) x xs p zero)
parts (x ∷ xs) (y ∷ ys) ps qs p q e =
    let first : x ≡ y = cc in
    let others : xs ++ (0 ∷ ps) ≡ ys ++ (0 ∷ qs) = cc in
    let more = parts xs ys ps qs (All-tail (λ byte. byte ≢ 0) x xs p) (All-tail (λ byte. byte ≢ 0) y ys q) others in
    (ap₂ (λ (b : ℕ) (bs : List ℕ). b ∷ bs) first more.0, more.1)

login : List ℕ → List ℕ → Login
login name word = record { username = name; password = word }

same_login : (a b : Login) → HasPlainName a → HasPlainName b → login_bytes mechanism.Plain a ≡ login_bytes mechanism.Plain b → a ≡ b
unfolding login
same_login a b p q e =
    let behind : a.username ++ (0 ∷ a.password) ≡ b.username ++ (0 ∷ b.password) = cc in
    let both = parts a.username b.username a.password b.password p q behind in
    ap₂ login both.0 both.1

-- Two logins whose user names hold no zero byte have the same PLAIN response exactly where they are equal.
pub plain_logins : PlainLoginsNameCredentials
plain_logins a b p q = (same_login a b p q, λ e. ap (login_bytes mechanism.Plain) e)
