-- Words that are read one after another.
use Rattle.std.proofs.Common.{◌≡◌, ℕ, ◌+◌, ◌<◌, ◌≤◌, List, [], ◌∷◌, ◌++◌, length, take, drop, get_or, map, Option, Some, None, refl, sym, ap, subst, ◌∙◌, arith}
use Rattle.std.specs.Prelude.{String, string_bytes, IfSome}
use Rattle.std.specs.List.{AllByRecursion}
use Rattle.std.specs.declared.alloc.Global.{Global}
use Rattle.std.proofs.lemmas.List.{get_or-map, length-map, map-append, take_more, take-append-drop, take_all, drop_more, length-take-le}
use Rattle.amqp_select.specs.declared.rule.Rule.{Rule}
use Rattle.amqp_select.specs.Rules.{IsRule, spelled}
use Rattle.amqp_select.specs.Reading.{read_rule}
use Rattle.amqp_select.specs.Refusals.{texts_of, IsRuleFor, IsRuleWord, Spell, IsFirstMalformed}
use Rattle.amqp_select.proofs.Words.{rule_taken, rule_front}

-- the words stand for the rules
pub record SpelledBy (words : List (List ℕ)) (rules : List Rule) : Type 0 where
  pub are_rules : AllByRecursion IsRule rules
  pub are : words ≡ map spelled rules

All-push : {A : Type 0} (P : A → Type 0) (xs : List A) (x : A) → AllByRecursion P xs → P x → AllByRecursion P (xs ++ x ∷ [])
All-push P [] x all p = (p, tt)
All-push P (y ∷ xs) x all p = (all.0, All-push P xs x all.1 p)

-- No words stand for no rules.
pub none_spelled : SpelledBy [] []
none_spelled = record { are_rules = tt; are = refl }

-- the text of the word at a place
word_at : (words : List (String Global)) (place : ℕ) (word : String Global) → place < length words
    → word ≡ get_or words place word → get_or (texts_of words) place [] ≡ string_bytes word
word_at words place word h is = get_or-map string_bytes words place word [] h ∙ ap string_bytes (sym is)

texts_count : (words : List (String Global)) → length (texts_of words) ≡ length words
texts_count words = length-map words string_bytes

-- Where the words before a place stand for rules, and the one at it is read as a rule, the words up to it stand for all of these.
pub spelled_more : (words : List (String Global)) (place : ℕ) (word : String Global) (rules : List Rule) (rule : Rule)
    → place < length words → word ≡ get_or words place word → SpelledBy (take place (texts_of words)) rules
    → read_rule (string_bytes word) ≡ Some rule → SpelledBy (take (place + 1) (texts_of words)) (rules ++ rule ∷ [])
spelled_more words place word rules rule h is so_far e =
    let texts = texts_of words in
    let spells = rule_front (string_bytes word) rule e in
    record {
      are_rules = All-push IsRule rules rule so_far.are_rules spells.is_rule;
      are = take_more texts place [] (omega (arith, texts_count words))
          ∙ ap (λ (w : List ℕ). take place texts ++ w ∷ []) (word_at words place word h is ∙ spells.is)
          ∙ ap (λ front. front ++ spelled rule ∷ []) so_far.are
          ∙ sym (map-append spelled rules (rule ∷ []));
    }

rule_words : (rules : List Rule) → AllByRecursion IsRule rules → AllByRecursion IsRuleWord (map spelled rules)
rule_words [] all = tt
rule_words (rule ∷ rules) all = (record { rule = rule; is_rule = all.0; is = refl }, rule_words rules all.1)

unread : (word : List ℕ) → read_rule word ≡ None → IsRuleWord word → ⊥
unread word e h = let read = ap read_rule h.is ∙ rule_taken h.rule h.is_rule in cc

-- the rule that a word is, and where it is none
pub rule_read : (word : List ℕ) (result : Option Rule) → result ≡ read_rule word → IfSome result (IsRuleFor word)
rule_read word None e = tt
rule_read word (Some rule) e = let front = rule_front word rule (sym e) in (front.is_rule, front.is)

-- A word that is not read as a rule stands for none.
pub none_read : (word : List ℕ) (result : Option Rule) → result ≡ read_rule word → result ≡ None → ¬ IsRuleWord word
none_read word result e none = unread word (sym e ∙ none)

-- Where the words before a place stand for rules, and the one at it is not read as a rule, it is the first malformed one.
pub first_malformed : (words : List (String Global)) (place : ℕ) (word : String Global) (rules : List Rule)
    → 0 < length words → length words ≤ 64 → place < length words → word ≡ get_or words place word
    → SpelledBy (take place (texts_of words)) rules → read_rule (string_bytes word) ≡ None → IsFirstMalformed (texts_of words) place
first_malformed words place word rules some few h is so_far e =
    let texts = texts_of words in
    let count = texts_count words in
    record {
      count = (omega arith, omega arith);
      before = take place texts;
      word = string_bytes word;
      rest = drop (place + 1) texts;
      parts = sym (take-append-drop place texts)
          ∙ ap (λ rest. take place texts ++ rest) (drop_more texts place [] (omega arith)
          ∙ ap (λ (w : List ℕ). w ∷ drop (place + 1) texts) (word_at words place word h is));
      place_is = length-take-le place texts (omega arith);
      rules_before = subst (AllByRecursion IsRuleWord) (sym so_far.are) (rule_words rules so_far.are_rules);
      no_rule = unread (string_bytes word) e;
    }

-- Where 1 to 64 words were read to their end, they stand for the rules that were read.
pub all_spelled : (words : List (String Global)) (place : ℕ) (rules : List Rule) → 0 < length words → length words ≤ 64
    → length words ≤ place → SpelledBy (take place (texts_of words)) rules → Spell (texts_of words) rules
all_spelled words place rules some few h so_far =
    let count = texts_count words in
    record {
      count = (omega arith, omega arith);
      are_rules = so_far.are_rules;
      are = sym (take_all place (texts_of words) (omega arith)) ∙ so_far.are;
    }
