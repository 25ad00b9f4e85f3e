-- Which words are rules, and why others are not.
use Rattle.std.specs.Prelude.{◌≡◌, ◌<◌, ◌≤◌, ℕ, List, ◌∷◌, ◌++◌, length, map, codes, ◌⊎◌, Result}
use Rattle.std.specs.Prelude.{Ok, Err, String, string_bytes, Vec}
use Rattle.std.specs.Fmt.{decimal}
use Rattle.std.specs.List.{AllByRecursion}
use Rattle.std.specs.declared.alloc.Global.{Global}
use Rattle.amqp_select.specs.declared.errors.RuleError.{RuleError}
use Rattle.amqp_select.specs.declared.errors.RuleError.TheVariants as errors
use Rattle.amqp_select.specs.declared.rule.Rule.{Rule}
use Rattle.amqp_select.specs.Rules.{IsRule, spelled}

-- the texts of words
abbrev pub texts_of : List (String Global) → List (List ℕ)
texts_of words = map (λ word. string_bytes word) words

-- the word stands for this rule
abbrev pub IsRuleFor : List ℕ → Rule → Type 0
IsRuleFor word rule = IsRule rule × (word ≡ spelled rule)

-- a word that stands for a rule
pub record IsRuleWord (word : List ℕ) : Type 0 where
  pub rule : Rule
  pub is_rule : IsRule rule
  pub is : word ≡ spelled rule

-- how many words may be rules
abbrev pub IsCount : ℕ → Type 0
IsCount n = (1 ≤ n) × (n ≤ 64)

-- the words stand for these rules, in order
pub record Spell (words : List (List ℕ)) (rules : List Rule) : Type 0 where
  pub count : IsCount (length words)
  pub are_rules : AllByRecursion IsRule rules
  pub are : words ≡ map spelled rules

-- the word at this place is the first that stands for no rule
pub record IsFirstMalformed (words : List (List ℕ)) (place : ℕ) : Type 0 where
  pub count : IsCount (length words)
  pub before : List (List ℕ)
  pub word : List ℕ
  pub rest : List (List ℕ)
  pub parts : words ≡ before ++ word ∷ rest
  pub place_is : length before ≡ place
  pub rules_before : AllByRecursion IsRuleWord before
  pub no_rule : ¬ IsRuleWord word

-- When each result comes. Memory runs out only where the words stand for rules.
abbrev pub ParsesRules : List (List ℕ) → Result (List Rule) RuleError → Type 0
ParsesRules words (Ok rules) = Spell words rules
ParsesRules words (Err errors.Count) = (length words ≡ 0) ⊎ (64 < length words)
ParsesRules words (Err (errors.Malformed place)) = IsFirstMalformed words place
ParsesRules words (Err errors.NoMemory) = (rules : List Rule) × Spell words rules

-- The same of a call that gives them in a vector, and that does not look at all words where
-- memory runs out.
abbrev pub ParsesItems : List (List ℕ) → Result (Vec Rule Global) RuleError → Type 0
ParsesItems words (Ok rules) = Spell words rules.items
ParsesItems words (Err errors.NoMemory) = IsCount (length words)
ParsesItems words (Err error) = ParsesRules words (Err error)

-- the text of an error
abbrev pub error_text : RuleError → List ℕ
error_text errors.Count = codes "Count"
error_text (errors.Malformed place) = codes "Malformed at " ++ decimal place
error_text errors.NoMemory = codes "NoMemory"
