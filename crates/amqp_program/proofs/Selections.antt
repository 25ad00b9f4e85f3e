-- Words that stand for rules stand for these alone, and are no other form.
use Rattle.std.proofs.Common.{arith, ◌≡◌, ℕ, List, [], ◌∷◌, ◌++◌, map, Some, None, refl}
use Rattle.std.specs.Prelude.{codes}
use Rattle.std.specs.List.{AllByRecursion}
use Rattle.std.proofs.lemmas.Slice.Eq.{bytes_eq-Decides}
use Rattle.amqp_select.specs.declared.rule.Rule.{Rule}
use Rattle.amqp_select.specs.Rules.{IsRule, spelled}
use Rattle.amqp_select.specs.Refusals.{Spell, IsRuleWord}
use Rattle.amqp_select.proofs.Words.{one_rule}
use Rattle.amqp_program.specs.Commands.{after_word, command_of, IsNoForm}

same_rules : (rules others : List Rule) → AllByRecursion IsRule rules → AllByRecursion IsRule others → map spelled rules ≡ map spelled others → rules ≡ others
same_rules [] [] h k e = refl
same_rules [] (other ∷ others) h k e = cc
same_rules (rule ∷ rules) [] h k e = cc
same_rules (rule ∷ rules) (other ∷ others) h k e =
    cc (one_rule rule other h.0 k.0 cc, same_rules rules others h.1 k.1 cc)

-- no words stand for two lists of rules
pub one_spelling : (words : List (List ℕ)) (rules others : List Rule) → Spell words rules → Spell words others → rules ≡ others
one_spelling words rules others h k = grind (arith, same_rules)

-- a word among those that stand for rules stands for a rule
pub is_rule_word : (before rest : List (List ℕ)) (word : List ℕ) (rules : List Rule)
    → AllByRecursion IsRule rules → before ++ word ∷ rest ≡ map spelled rules → IsRuleWord word
is_rule_word [] rest word [] h e = cc
is_rule_word [] rest word (rule ∷ rules) h e = record { rule = rule; is_rule = h.0; is = cc }
is_rule_word (first ∷ before) rest word [] h e = cc
is_rule_word (first ∷ before) rest word (rule ∷ rules) h e = is_rule_word before rest word rules h.1 cc

-- ---- a form by rules is no other command

-- words with some after this word begin with it
pub first_is : (first : List ℕ) (texts words : List (List ℕ)) → after_word first texts ≡ Some words → texts ≡ first ∷ words
first_is first texts words e = grind (arith, bytes_eq-Decides)

-- `select` begins no other command
pub named_select : (more : List (List ℕ)) → command_of (codes "select" ∷ more) ≡ None
named_select more = grind arith

-- `filter` begins no other command
pub named_filter : (more : List (List ℕ)) → command_of (codes "filter" ∷ more) ≡ None
named_filter more = grind arith

module _ (texts words : List (List ℕ)) where
  pub select_alone : after_word (codes "select") texts ≡ Some words → command_of texts ≡ None
  select_alone after = grind (arith, first_is, named_select)

  -- `select` before words that stand for no rules is none of the forms
  pub no_selecting : after_word (codes "select") texts ≡ Some words → ((rules : List Rule) → ¬ Spell words rules) → IsNoForm texts
  no_selecting after none = grind (arith, first_is, named_select)

  -- `filter` before words that stand for no rules is none of the forms
  pub no_filtering : after_word (codes "filter") texts ≡ Some words → ((rules : List Rule) → ¬ Spell words rules) → IsNoForm texts
  no_filtering after none = grind (arith, first_is, named_filter)

  -- where `select` is none of the forms, the words after it stand for no rules
  pub no_selection : after_word (codes "select") texts ≡ Some words → IsNoForm texts → (rules : List Rule) → ¬ Spell words rules
  no_selection after none rules spell = none.no_selection rules (record { words = words; are = after; spell = spell })

  -- where `filter` is none of the forms, the words after it stand for no rules
  pub no_filter : after_word (codes "filter") texts ≡ Some words → IsNoForm texts → (rules : List Rule) → ¬ Spell words rules
  no_filter after none rules spell = none.no_filtering rules (record { words = words; are = after; spell = spell })
