-- What was made of parts that were made, and how long it is.
use Rattle.amqp_fields_write.proofs
use proofs.Names.{◌≡◌, ℕ, zero, suc, ◌+◌, ◌<◌, ◌≤◌, ◌%◌, Bool, true, false, List, [], ◌∷◌, ◌++◌, length, take, drop, Result, Ok, Err, refl, ap, ◌∙◌, ◌⊎◌, inl}
use proofs.Names.{inr, arith, nat_lt, nat_le, if◌then◌else◌, cases_lt, numbers, length-append, IsUtf8, is_utf8, Fault, NumberWidth, bytes1, number_limit}
use proofs.Names.{is_too_long, Node, Refusal, given_length, is_given, IsSpan}
use Rattle.std.proofs.lemmas.Str.{IsUtf8-from_is_utf8}
use Rattle.amqp_types.specs.Strings.{SpellsLongString, with_length}
use Rattle.amqp_fields_write.specs.Made.{Made, after, closed, made_alone, made_given, made_if, made_long, made_number, made_span, made_text, span_in}

-- ---- parts

pub record Parts {E : Type 0} (first second : Result (List ℕ) E) (bytes : List ℕ) : Type 0 where
  pub front : List ℕ
  pub behind : List ℕ
  pub first_is : first ≡ Ok front
  pub second_is : second ≡ Ok behind
  pub bytes_are : bytes ≡ front ++ behind
  pub size : length bytes ≡ length front + length behind

-- bytes that are made of two parts are those of the first and then those of the second
pub after_ok : {E : Type 0} (first second : Result (List ℕ) E) {bytes : List ℕ} → after first second ≡ Ok bytes → Parts first second bytes
after_ok (Ok a) (Ok b) {bytes} h =
    let is : bytes ≡ a ++ b = cc in
    record { front = a; behind = b; first_is = refl; second_is = refl; bytes_are = is; size = ap length is ∙ length-append a b }
after_ok (Ok a) (Err bad) h = absurd cc
after_ok (Err bad) second h = absurd cc

-- results that are equal have equal bytes
pub ok_is : {a b : List ℕ} → (◌≡◌ {A = Made} (Ok a) (Ok b)) → b ≡ a
ok_is h = cc

-- what is made only where a test holds was made, and the test holds
pub holds : {A : Type 0} (test : Bool) (made : Result A Refusal) (bad : Refusal) (bytes : A)
    → (if test then made else Err bad) ≡ Ok bytes → (test ≡ true) × (made ≡ Ok bytes)
holds true made bad bytes h = (refl, h)
holds false made bad bytes h = absurd cc

-- what is made only where a test fails was made, and the test fails
pub fails : {A : Type 0} (test : Bool) (made : Result A Refusal) (bad : Refusal) (bytes : A)
    → (if test then Err bad else made) ≡ Ok bytes → (test ≡ false) × (made ≡ Ok bytes)
fails true made bad bytes h = absurd cc
fails false made bad bytes h = (refl, h)

-- what is made by a test was made in one way or the other
pub either : {A : Type 0} (test : Bool) (a b : Result A Refusal) {bytes : A} → (if test then a else b) ≡ Ok bytes
    → ((test ≡ true) × (a ≡ Ok bytes)) ⊎ ((test ≡ false) × (b ≡ Ok bytes))
either true a b h = inl (refl, h)
either false a b h = inr (refl, h)

-- bytes that are made where a test holds are made only there
pub if_ok : (node : ℕ) (made : List ℕ) {bytes : List ℕ} (test : Bool) → made_if test node made ≡ Ok bytes → test ≡ true
if_ok node made true h = refl
if_ok node made false h = absurd cc

-- what is made of a node that has to be alone was made, and nothing lies inside the node
pub alone_ok : (index : ℕ) (made : Made) (inside : List Node) {bytes : List ℕ} → made_alone made index inside ≡ Ok bytes → (inside ≡ []) × (made ≡ Ok bytes)
alone_ok index made [] h = (refl, h)
alone_ok index made (first ∷ others) h = absurd cc

-- ---- numbers and strings

-- a number that its width holds is its own remainder
pub mod_small : (width : NumberWidth) (n : ℕ) → n < number_limit width → n % number_limit width ≡ n
mod_small bytes1 n few = omega arith
mod_small width n few = omega arith

-- a number of which bytes are made is one of its width
pub number_ok : (node : ℕ) (width : NumberWidth) (n : ℕ) {bytes : List ℕ} → made_number width node n ≡ Ok bytes → n < number_limit width
number_ok node width n h = let less = if_ok _ _ (nat_lt n (number_limit width)) h in grind numbers

-- bytes that are made of content encode it as a long string
pub long_spelled : (node : ℕ) (content : List ℕ) {bytes : List ℕ} → made_long node content ≡ Ok bytes → SpellsLongString bytes content
long_spelled node content h =
    let both = fails (is_too_long content) (Ok (with_length content)) _ _ h in
    record { fits = grind (numbers, both.0); bytes_are = ok_is both.1 }

-- what is made of content is longer
pub long_ok : (node : ℕ) (content : List ℕ) {bytes : List ℕ} → made_long node content ≡ Ok bytes → length content ≤ length bytes
long_ok node content h = let is = ok_is (fails (is_too_long content) (Ok (with_length content)) _ _ h).1 in omega (arith, ap length is)

-- a text of which bytes are made is short, and is text
pub text_ok : (node : ℕ) (text : List ℕ) {bytes : List ℕ} → made_text node text ≡ Ok bytes → (length text < 256) × IsUtf8 text
text_ok node text h =
    let short = fails (nat_lt 255 (length text)) _ _ _ h in
    (grind numbers, IsUtf8-from_is_utf8 text (holds (is_utf8 text) _ _ _ short.1).0)

-- what is made of the bytes of a span
pub record SpanMade (make : List ℕ → Made) (pool : List ℕ) (start count : ℕ) (bytes : List ℕ) : Type 0 where
  pub content : List ℕ
  pub span : IsSpan pool start count content
  pub is : make content ≡ Ok bytes

-- what is made of a span is made of content that lies there in the pool
pub span_ok : (node : ℕ) (make : List ℕ → Made) (pool : List ℕ) (start count : ℕ) {bytes : List ℕ}
    → made_span make node (span_in pool start count) ≡ Ok bytes → SpanMade make pool start count bytes
span_ok node make pool start count {bytes} h = elim (cases_lt (length pool) (start + count)) [
  | inl beyond ↦ let no : nat_le (start + count) (length pool) ≡ false = grind numbers in absurd (let bad = rw no at h in cc)
  | inr within ↦
      let le : nat_le (start + count) (length pool) ≡ true = grind numbers in
      record { content = take count (drop start pool); span = record { within = within; bytes_are = refl }; is = rw le at h }
]

-- things fill content that is given, and what is made of it is longer
pub given_ok : {A : Type 0} (node : ℕ) (content : List ℕ) (read : Result (List A) Fault) {bytes : List ℕ}
    → made_given node content read ≡ Ok bytes → (things : List A) × (read ≡ Ok things) × (length content ≤ length bytes)
given_ok node content (Ok things) h = (things, refl, long_ok _ content h)
given_ok node content (Err bad) h = absurd cc

-- bytes that are made with a length in front are longer than what was made, and encode it as a long string
pub closed_ok : (node : ℕ) (made : Made) {bytes : List ℕ} → closed node made ≡ Ok bytes
    → (content : List ℕ) × (made ≡ Ok content) × (length content ≤ length bytes) × SpellsLongString bytes content
closed_ok node (Ok content) h = (content, refl, long_ok _ content h, long_spelled _ content h)
closed_ok node (Err bad) h = absurd cc

-- ---- contents that are given as bytes

-- those of nodes are those of so many and of the others
pub given_split : (k : ℕ) (nodes : List Node) → given_length nodes ≡ given_length (take k nodes) + given_length (drop k nodes)
unfolding given_length
given_split zero nodes = omega arith
given_split (suc k) [] = refl
given_split (suc k) (node ∷ nodes) = omega (arith, given_split k nodes)

-- where a node has none, they are those of the others
pub given_past : (node : Node) (nodes : List Node) → is_given node ≡ false → given_length (node ∷ nodes) ≡ given_length nodes
unfolding given_length
given_past node nodes none = rw none (omega arith)

-- one node has none but its own
pub given_most : (node : Node) → given_length (node ∷ []) ≤ node.length
unfolding given_length
given_most node = by (is_given node)
  where
    by : (test : Bool) → (if test then node.length else 0) + 0 ≤ node.length
    by true = omega arith
    by false = omega arith

-- one that is not given, with nothing inside it, has none
pub given_none : (node : Node) (inside : List Node) (n : ℕ) → is_given node ≡ false → inside ≡ [] → given_length (node ∷ inside) ≤ n
unfolding given_length
given_none node inside n plain none = omega (arith, given_past node inside plain, ap given_length none)
