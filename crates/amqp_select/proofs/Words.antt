-- A word is read as the rule that it stands for, and what is read of a word stands for it.
use Rattle.std.proofs.Common.{◌≡◌, ℕ, ◌≤◌, Bool, true, false, List, [], ◌∷◌, ◌++◌, length, take, drop, Option, Some, None, refl, sym, ap, subst, ◌∙◌, arith}
use Rattle.std.specs.Prelude.{nat_le, codes, IfSome, if◌then◌else◌}
use Rattle.std.specs.Fmt.{decimal}
use Rattle.std.specs.Option.{option_map}
use Rattle.std.specs.Str.{bytes_eq}
use Rattle.std.proofs.Math.Seq.{take-append_seam}
use Rattle.std.proofs.lemmas.Bool.Decides.{nat_tests}
use Rattle.std.proofs.lemmas.List.{append-nil, append_assoc, take-append-drop, drop_at}
use Rattle.std.proofs.lemmas.Slice.Eq.{bytes_eq-Decides}
use Rattle.amqp_wire.specs.declared.frame_type.AMQPFrameType.{AMQPFrameType}
use Rattle.amqp_wire.specs.declared.frame_type.AMQPFrameType.TheVariants as kinds
use Rattle.amqp_select.specs.declared.rule.Span.{Span}
use Rattle.amqp_select.specs.declared.rule.Span.TheVariants as spans
use Rattle.amqp_select.specs.declared.rule.Rule.{Rule}
use Rattle.amqp_select.specs.Rules.{IsNumber, IsSpanOfNumbers, IsRule, verb_text, span_text, type_text, part_text, spelled}
use Rattle.amqp_types.specs.Reading.{Reading, ◌>>=◌}
use Rattle.amqp_select.specs.Reading.{after, or_else, read_verb, read_count, range_to, span_from, read_span, read_kind, part_at, read_part, at_end, read_rule}
use Rattle.amqp_select.proofs.Numerals.{BeginsNoDigit, Front, number_taken, number_front}

-- ---- texts in front

pub after-append : (text rest : List ℕ) → after text (text ++ rest) ≡ Some rest
after-append text rest =
    rw (take-append_seam text rest) (rw (drop_at text rest (length text) refl) (rw ((bytes_eq-Decides text text).1 refl) refl))

tested : (b : Bool) (rest found : List ℕ) → (if b then Some rest else None) ≡ Some found → (b ≡ true) × (rest ≡ found)
tested true rest found e = (refl, cc)
tested false rest found e = absurd cc

-- Bytes after a text are what is left where the text stands in front.
pub after_is : (text bytes rest : List ℕ) → after text bytes ≡ Some rest → bytes ≡ text ++ rest
after_is text bytes rest e =
    let h = tested (bytes_eq (take (length text) bytes) text) (drop (length text) bytes) rest e in
    sym (take-append-drop (length text) bytes)
    ∙ ap (λ front. front ++ drop (length text) bytes) ((bytes_eq-Decides (take (length text) bytes) text).0 h.0) ∙ ap (λ more. text ++ more) h.1

-- ---- verbs and kinds

abbrev Always : {A : Type 0} → A → Type 0
Always x = Unit {0}

verb_taken : (keep : Bool) (rest : List ℕ) → read_verb (verb_text keep ++ rest) ≡ Some (keep, rest)
verb_taken true rest = refl
verb_taken false rest = refl

kind_taken : (kind : AMQPFrameType) (rest : List ℕ) → read_kind (type_text kind ++ rest) ≡ Some (kind, rest)
kind_taken kinds.ProtocolHeader rest = refl
kind_taken kinds.Method rest = refl
kind_taken kinds.Header rest = refl
kind_taken kinds.Body rest = refl
kind_taken kinds.Heartbeat rest = refl

-- one of several: this one, by its text, or one of the others
one_of : {A : Type 0} (text_of : A → List ℕ) (bytes : List ℕ) (a : A) (others : Reading A) (found : A × List ℕ)
    → ((one : Option (List ℕ)) → after (text_of a) bytes ≡ one → or_else one a others ≡ Some found
    → (others ≡ Some found → Front text_of Always bytes found) → Front text_of Always bytes found)
one_of text_of bytes a others found None is e rest = rest e
one_of text_of bytes a others found (Some more) is e rest =
    let same : (a, more) ≡ found = cc in
    subst (Front text_of Always bytes) same (record { is = after_is (text_of a) bytes more is; valid = tt })

none_of : {A : Type 0} (text_of : A → List ℕ) (bytes : List ℕ) (found : A × List ℕ) → None ≡ Some found → Front text_of Always bytes found
none_of text_of bytes found e = absurd cc

verb_front : (bytes : List ℕ) (found : Bool × List ℕ) → read_verb bytes ≡ Some found → Front verb_text Always bytes found
verb_front bytes found e =
    one_of verb_text bytes true _ found _ refl e (λ e.
    one_of verb_text bytes false _ found _ refl e (none_of verb_text bytes found))

kind_front : (bytes : List ℕ) (found : AMQPFrameType × List ℕ) → read_kind bytes ≡ Some found → Front type_text Always bytes found
kind_front bytes found e =
    one_of type_text bytes kinds.ProtocolHeader _ found _ refl e (λ e.
    one_of type_text bytes kinds.Method _ found _ refl e (λ e.
    one_of type_text bytes kinds.Header _ found _ refl e (λ e.
    one_of type_text bytes kinds.Body _ found _ refl e (λ e.
    one_of type_text bytes kinds.Heartbeat _ found _ refl e (none_of type_text bytes found)))))

-- what went before, and what was made of it
record Bound {A B : Type 0} (o : Option A) (f : A → Option B) (b : B) : Type 0 where
  a : A
  is : o ≡ Some a
  gives : f a ≡ Some b

bound : {A B : Type 0} (o : Option A) (f : A → Option B) (b : B) → (o >>= f) ≡ Some b → Bound o f b
bound None f b e = absurd cc
bound (Some a) f b e = record { a = a; is = refl; gives = e }

-- ---- channels

-- nothing, or a comma
abbrev IsTail : List ℕ → Type 0
IsTail [] = Unit {0}
IsTail (byte ∷ rest) = byte ≡ 44

no_digit : (rest : List ℕ) → IsTail rest → BeginsNoDigit rest
no_digit [] h = tt
no_digit (byte ∷ rest) h = rw h refl

no_dash : (rest : List ℕ) → IsTail rest → after (codes "-") rest ≡ None
no_dash [] h = refl
no_dash (byte ∷ rest) h = rw h refl

in_order : (first last : ℕ) → first ≤ last → nat_le first last ≡ true
in_order first last h = grind (arith, nat_tests)

span_taken : (span : Span) (rest : List ℕ) → IsSpanOfNumbers span → IsTail rest → read_span (span_text span ++ rest) ≡ Some (span, rest)
span_taken (spans.One only) rest h tail = rw (number_taken only rest h (no_digit rest tail)) (rw (no_dash rest tail) refl)
span_taken (spans.Range first last) rest h tail =
    let few : first ≤ 65535 = omega (arith, h.0, h.1) in
    rw (append_assoc (decimal first) (codes "-" ++ decimal last) rest)
    (rw (number_taken first ((codes "-" ++ decimal last) ++ rest) few refl)
    (rw (number_taken last rest h.1 (no_digit rest tail))
    (rw (in_order first last h.0) refl)))

ordered : (b : Bool) (span : Span) (rest : List ℕ) (found : Span × List ℕ)
    → (if b then Some (span, rest) else None) ≡ Some found → (b ≡ true) × ((span, rest) ≡ found)
ordered true span rest found e = (refl, cc)
ordered false span rest found e = absurd cc

at_most : (first last : ℕ) → nat_le first last ≡ true → first ≤ last
at_most first last e = grind (arith, nat_tests)

range_front : (bytes rest : List ℕ) (first : ℕ) (last : Reading ℕ) (found : Span × List ℕ) → read_count rest ≡ last
    → bytes ≡ decimal first ++ (codes "-" ++ rest) → range_to first last ≡ Some found → Front span_text IsSpanOfNumbers bytes found
range_front bytes rest first None found is front e = absurd cc
range_front bytes rest first (Some last) found is front e =
    let second = number_front rest last is in
    let h = ordered (nat_le first last.0) (spans.Range first last.0) last.1 found e in
    subst (Front span_text IsSpanOfNumbers bytes) h.1 (record {
      is = front ∙ ap (λ more. decimal first ++ (codes "-" ++ more)) second.is ∙ sym (append_assoc (decimal first) (codes "-" ++ decimal last.0) last.1);
      valid = (at_most first last.0 h.0, second.valid);
    })

span_end : (bytes : List ℕ) (first : ℕ × List ℕ) (dash : Option (List ℕ)) (found : Span × List ℕ) → Front decimal IsNumber bytes first
    → after (codes "-") first.1 ≡ dash → span_from first dash ≡ Some found → Front span_text IsSpanOfNumbers bytes found
span_end bytes first None found front is e =
    let same : (spans.One first.0, first.1) ≡ found = cc in
    subst (Front span_text IsSpanOfNumbers bytes) same (record { is = front.is; valid = front.valid })
span_end bytes first (Some rest) found front is e =
    range_front bytes rest first.0 (read_count rest) found refl (front.is ∙ ap (λ more. decimal first.0 ++ more) (after_is (codes "-") first.1 rest is)) e

span_front : (bytes : List ℕ) (found : Span × List ℕ) → read_span bytes ≡ Some found → Front span_text IsSpanOfNumbers bytes found
span_front bytes found e =
    let h = bound (read_count bytes) (λ first. span_from first (after (codes "-") first.1)) found e in
    span_end bytes h.a _ found (number_front bytes h.a h.is) refl h.gives

-- ---- parts

abbrev Has : {A : Type 0} → (A → Type 0) → Option A → Type 0
Has Is part = IfSome part Is

-- the part's name does not stand in front, and no digit or dash does
record IsAfter (name rest : List ℕ) : Type 0 where
  none : after name rest ≡ None
  tail : IsTail rest

part_taken : {A : Type 0} (name : List ℕ) (text : A → List ℕ) (Is : A → Type 0) (read : List ℕ → Reading A) (part : Option A) (rest : List ℕ)
    → ((a : A) → Is a → read (text a ++ rest) ≡ Some (a, rest)) → after name rest ≡ None
    → Has Is part → read_part name read (part_text name text part ++ rest) ≡ Some (part, rest)
part_taken name text Is read None rest taken none h = rw none refl
part_taken name text Is read (Some a) rest taken none h =
    rw (append_assoc name (text a) rest) (rw (after-append name (text a ++ rest)) (rw (taken a h) refl))

got : {A : Type 0} (o : Reading A) (found : Option A × List ℕ)
    → option_map (λ (part : A × List ℕ). (Some part.0, part.1)) o ≡ Some found → Bound o (λ part. Some (Some part.0, part.1)) found
got None found e = absurd cc
got (Some part) found e = record { a = part; is = refl; gives = e }

part_end : {A : Type 0} (name : List ℕ) (text : A → List ℕ) (Is : A → Type 0)
    (read : List ℕ → Reading A) (bytes : List ℕ) (named : Option (List ℕ)) (found : Option A × List ℕ)
    → ((bytes : List ℕ) (found : A × List ℕ) → read bytes ≡ Some found → Front text Is bytes found)
    → after name bytes ≡ named → part_at read bytes named ≡ Some found → Front (part_text name text) (Has Is) bytes found
part_end name text Is read bytes None found front is e =
    let same : (None, bytes) ≡ found = cc in
    subst (Front (part_text name text) (Has Is) bytes) same (record { is = refl; valid = tt })
part_end name text Is read bytes (Some rest) found front is e =
    let h = got (read rest) found e in
    let part = front rest h.a h.is in
    let same : (Some h.a.0, h.a.1) ≡ found = let gives = h.gives in cc in
    subst (Front (part_text name text) (Has Is) bytes) same (record {
      is = after_is name bytes rest is ∙ ap (λ more. name ++ more) part.is ∙ sym (append_assoc name (text h.a.0) h.a.1);
      valid = part.valid;
    })

part_front : {A : Type 0} (name : List ℕ) (text : A → List ℕ) (Is : A → Type 0) (read : List ℕ → Reading A) (bytes : List ℕ) (found : Option A × List ℕ)
    → ((bytes : List ℕ) (found : A × List ℕ) → read bytes ≡ Some found → Front text Is bytes found)
    → read_part name read bytes ≡ Some found → Front (part_text name text) (Has Is) bytes found
part_front name text Is read bytes found front e = part_end name text Is read bytes (after name bytes) found front refl e

-- ---- what comes after each part

abbrev method_text : Option ℕ → List ℕ
method_text id = part_text (codes ",method=") decimal id

abbrev class_text : Option ℕ → List ℕ
class_text id = part_text (codes ",class=") decimal id

abbrev kind_part_text : Option AMQPFrameType → List ℕ
kind_part_text kind = part_text (codes ",kind=") type_text kind

after_class : (method : Option ℕ) → IsAfter (codes ",class=") (method_text method)
after_class None = record { none = refl; tail = tt }
after_class (Some id) = record { none = refl; tail = refl }

after_kind : (class method : Option ℕ) → IsAfter (codes ",kind=") (class_text class ++ method_text method)
after_kind None None = record { none = refl; tail = tt }
after_kind None (Some id) = record { none = refl; tail = refl }
after_kind (Some id) method = record { none = refl; tail = refl }

after_channel : (kind : Option AMQPFrameType) (class method : Option ℕ)
    → IsAfter (codes ",channel=") (kind_part_text kind ++ (class_text class ++ method_text method))
after_channel None None None = record { none = refl; tail = tt }
after_channel None None (Some id) = record { none = refl; tail = refl }
after_channel None (Some id) method = record { none = refl; tail = refl }
after_channel (Some kind) class method = record { none = refl; tail = refl }

-- ---- whole words

always : {A : Type 0} (part : Option A) → IfSome part Always
always None = tt
always (Some a) = tt

channel_taken : (part : Option Span) (rest : List ℕ) → IsAfter (codes ",channel=") rest → IfSome part IsSpanOfNumbers
    → read_part (codes ",channel=") read_span (part_text (codes ",channel=") span_text part ++ rest) ≡ Some (part, rest)
channel_taken part rest ends h =
    part_taken (codes ",channel=") span_text IsSpanOfNumbers read_span part rest (λ span valid. span_taken span rest valid ends.tail) ends.none h

kind_part_taken : (part : Option AMQPFrameType) (rest : List ℕ) → IsAfter (codes ",kind=") rest
    → read_part (codes ",kind=") read_kind (kind_part_text part ++ rest) ≡ Some (part, rest)
kind_part_taken part rest ends = part_taken (codes ",kind=") type_text Always read_kind part rest (λ kind valid. kind_taken kind rest) ends.none (always part)

id_taken : (name : List ℕ) (part : Option ℕ) (rest : List ℕ) → IsAfter name rest → IfSome part IsNumber
    → read_part name read_count (part_text name decimal part ++ rest) ≡ Some (part, rest)
id_taken name part rest ends h =
    part_taken name decimal IsNumber read_count part rest (λ id valid. number_taken id rest valid (no_digit rest ends.tail)) ends.none h

method_taken : (part : Option ℕ) → IfSome part IsNumber → read_part (codes ",method=") read_count (method_text part) ≡ Some (part, [])
method_taken part h =
    subst (λ bytes. read_part (codes ",method=") read_count bytes ≡ Some (part, [])) (append-nil (method_text part))
    (id_taken (codes ",method=") part [] (record { none = refl; tail = tt }) h)

-- The word of a rule is read as this rule.
pub rule_taken : (rule : Rule) → IsRule rule → read_rule (spelled rule) ≡ Some rule
rule_taken rule h =
    let class_on = class_text rule.class_id ++ method_text rule.method_id in
    let kind_on = kind_part_text rule.kind ++ class_on in
    let channel_on = part_text (codes ",channel=") span_text rule.channel ++ kind_on in
    rw (verb_taken rule.keep channel_on)
    (rw (channel_taken rule.channel kind_on (after_channel rule.kind rule.class_id rule.method_id) h.channel)
    (rw (kind_part_taken rule.kind class_on (after_kind rule.class_id rule.method_id))
    (rw (id_taken (codes ",class=") rule.class_id (method_text rule.method_id) (after_class rule.method_id) h.class_id)
    (rw (method_taken rule.method_id h.method_id) refl))))

-- what was read as a rule stands for it
pub record Spells (word : List ℕ) (rule : Rule) : Type 0 where
  pub is_rule : IsRule rule
  pub is : word ≡ spelled rule

ended : (made : Rule) (rest : List ℕ) (rule : Rule) → at_end made rest ≡ Some rule → (rest ≡ []) × (made ≡ rule)
ended made [] rule e = (refl, cc)
ended made (byte ∷ rest) rule e = absurd cc

-- A word that is read as a rule is the word of this rule.
pub rule_front : (word : List ℕ) (rule : Rule) → read_rule word ≡ Some rule → Spells word rule
rule_front word rule e =
    let verb = bound (read_verb word) _ rule e in
    let channel = bound (read_part (codes ",channel=") read_span verb.a.1) _ rule verb.gives in
    let kind = bound (read_part (codes ",kind=") read_kind channel.a.1) _ rule channel.gives in
    let class = bound (read_part (codes ",class=") read_count kind.a.1) _ rule kind.gives in
    let method = bound (read_part (codes ",method=") read_count class.a.1) _ rule class.gives in
    let at =
    ended (record { keep = verb.a.0; channel = channel.a.0; kind = kind.a.0; class_id = class.a.0; method_id = method.a.0 }) method.a.1 rule method.gives in
    let verb_is = verb_front word verb.a verb.is in
    let channel_is = part_front (codes ",channel=") span_text IsSpanOfNumbers read_span verb.a.1 channel.a span_front channel.is in
    let kind_is = part_front (codes ",kind=") type_text Always read_kind channel.a.1 kind.a kind_front kind.is in
    let class_is = part_front (codes ",class=") decimal IsNumber read_count kind.a.1 class.a number_front class.is in
    let method_is = part_front (codes ",method=") decimal IsNumber read_count class.a.1 method.a number_front method.is in
    subst (Spells word) at.1 (record {
      is_rule = record { channel = channel_is.valid; class_id = class_is.valid; method_id = method_is.valid };
      is =
          verb_is.is
          ∙ ap (λ more. verb_text verb.a.0 ++ more) (channel_is.is
          ∙ ap (λ more. part_text (codes ",channel=") span_text channel.a.0 ++ more) (kind_is.is
          ∙ ap (λ more. kind_part_text kind.a.0 ++ more) (class_is.is
          ∙ ap (λ more. class_text class.a.0 ++ more) (method_is.is
          ∙ ap (λ more. method_text method.a.0 ++ more) at.0
          ∙ append-nil (method_text method.a.0)))));
    })

-- No two rules have the same word.
pub one_rule : (r q : Rule) → IsRule r → IsRule q → spelled r ≡ spelled q → r ≡ q
one_rule r q hr hq e = let same = sym (rule_taken r hr) ∙ ap read_rule e ∙ rule_taken q hq in cc
