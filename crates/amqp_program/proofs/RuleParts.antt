-- Which words are no rules, and which part of one is at fault.
use Rattle.std.proofs.Common.{◌≡◌, ◌≢◌, ◌⊎◌, ℕ, ◌+◌, ◌-◌, ◌<◌, ◌≤◌, List, [], ◌∷◌, ◌++◌, length, map, take, drop, get_or, ◌==◌, true, false, Some, Result, Ok}
use Rattle.std.proofs.Common.{Err, refl, sym, ap, ◌∙◌, inl, inr, lit<, arith, append_assoc}
use Rattle.std.specs.Prelude.{slice_index, min, String, string_bytes}
use Rattle.std.specs.declared.alloc.Global.{Global}
use Rattle.std.proofs.lemmas.Bool.{cases_lt}
use Rattle.std.proofs.lemmas.List.{length-append, length-map, length-take, map-append, take-append-drop, take-map, take_all}
use Rattle.std.specs.Cmp.{unsigned_Decides}
use Rattle.std.specs.List.{AllByRecursion}
use Rattle.amqp_select.specs.declared.errors.RuleError.{RuleError}
use Rattle.amqp_select.specs.declared.errors.RuleError.TheVariants as errors
use Rattle.amqp_select.specs.declared.rule.Rule.{Rule}
use Rattle.amqp_select.specs.Rules.{IsRule, spelled}
use Rattle.amqp_select.specs.Refusals.{Spell, IsRuleWord, ParsesRules, IsFirstMalformed, texts_of}
use Rattle.amqp_program.specs.declared.outcome.Expected.TheVariants as expecteds
use Rattle.amqp_program.specs.Arguments.{IsFirstBadPart, IsRefused, RulesFault, IsRefusedBy, no_rules, no_memory}
use Rattle.amqp_program.specs.declared.outcome.ArgumentFault.{ArgumentFault}
use Rattle.amqp_program.specs.declared.outcome.Place.TheVariants as places
use Rattle.amqp_program.specs.Outcomes.{out_of_memory}
use Rattle.amqp_program.proofs.ArgumentFaults.{whole_fault}
use Rattle.amqp_program.proofs.Selections.{is_rule_word}

-- ---- the part of a rule

-- no part that ends before `stop` is at fault, and the one that begins at `start` goes on to it
pub record PartSoFar (word : List ℕ) (start stop : ℕ) : Type 0 where
  pub begins : start ≤ stop
  pub before : (start ≡ 0) ⊎ ((1 ≤ start) × (slice_index word (start - 1) ≡ 44) × IsRuleWord (take (start - 1) word))
  pub one_part : (k : ℕ) → start ≤ k → k < stop → slice_index word k ≢ 44

module _ (word : List ℕ) where
  -- at the front of a word its first part begins
  pub part_begins : PartSoFar word 0 0
  part_begins = grind arith

  -- after a comma that ends a rule the next part begins
  pub next_part : (stop : ℕ) → slice_index word stop ≡ 44 → IsRuleWord (take stop word) → PartSoFar word (stop + 1) (stop + 1)
  next_part stop comma rule = grind arith

  module _ (start stop : ℕ) (h : PartSoFar word start stop) where
    -- a byte that is no comma belongs to the part before it
    pub part_goes_on : slice_index word stop ≢ 44 → PartSoFar word start (stop + 1)
    part_goes_on other = grind arith

    -- a part that a comma ends, and with which the word is no rule, is at fault
    pub part_ends : stop < length word → slice_index word stop ≡ 44 → ¬ IsRuleWord (take stop word) → IsFirstBadPart word start
    part_ends within comma none = grind arith

    -- the last part of a word that is no rule is at fault where none before it is
    pub last_part : stop ≡ length word → ¬ IsRuleWord word → IsFirstBadPart word start
    last_part all none = record {
      before = h.before;
      stop = stop;
      ends = inl all;
      begins = h.begins;
      one_part = h.one_part;
      no_rule = λ rule. none (rw (take_all stop word (omega arith)) at rule);
    }

-- ---- words that stand for no rules

-- of no words the first rule is missing
pub no_rule_words : (words : List (String Global)) → (length words == 0) ≡ true → RulesFault (texts_of words) (whole_fault 1 expecteds.Rule)
no_rule_words [] e = record { before = []; rest = []; parts = refl; index_is = refl; rules_before = tt; expects = inl (lit< tt, refl); refused = refl }
no_rule_words (word ∷ words) e = let none : length (word ∷ words) ≡ 0 = (unsigned_Decides (length (word ∷ words)) 0).0 e in absurd (omega arith)

-- the texts of words are those of the words in front, and of the rest
texts_apart : (words : List (String Global)) (n : ℕ) → texts_of words ≡ texts_of (take n words) ++ texts_of (drop n words)
texts_apart words n = sym (ap texts_of (take-append-drop n words)) ∙ map-append (λ word. string_bytes word) (take n words) (drop n words)

word_at : (before rest : List (List ℕ)) (text : List ℕ) (words : List (String Global)) (d : String Global)
    → before ++ text ∷ rest ≡ texts_of words → string_bytes (get_or words (length before) d) ≡ text
word_at [] rest text [] d e = absurd cc
word_at [] rest text (first ∷ words) d e = cc
word_at (first ∷ before) rest text [] d e = absurd cc
word_at (first ∷ before) rest text (other ∷ words) d e = word_at before rest text words d cc

-- the first word that is no rule is one of the words
pub malformed_within : (words : List (String Global)) (place : ℕ) → IsFirstMalformed (texts_of words) place → place < length words
malformed_within words place h =
    omega (arith, h.place_is, ap length h.parts, length-append h.before (h.word ∷ h.rest), length-map words (λ word. string_bytes word))

malformed_is : (words : List (String Global)) (word d : String Global) (place : ℕ) (h : IsFirstMalformed (texts_of words) place)
    → word ≡ get_or words place d → string_bytes word ≡ h.word
malformed_is words word d place h at = rw (at, sym h.place_is) (word_at h.before h.rest h.word words d (sym h.parts))

-- that word is none
pub malformed_none : (words : List (String Global)) (word d : String Global) (place : ℕ) → IsFirstMalformed (texts_of words) place
    → word ≡ get_or words place d → ¬ IsRuleWord (string_bytes word)
malformed_none words word d place h at rule = h.no_rule (rw (malformed_is words word d place h at) at rule)

-- the first word that is no rule is at fault, with the part of it that is
pub malformed_word : (words : List (String Global)) (most place part : ℕ) (word d : String Global)
    → IsFirstMalformed (texts_of (take most words)) place → word ≡ get_or (take most words) place d → IsFirstBadPart (string_bytes word) part
    → RulesFault (texts_of words) (record { index = place + 1; expected = expecteds.Rule; part = part })
malformed_word words most place part word d h at bad =
    let more = texts_of (drop most words) in
    record {
      before = h.before;
      rest = h.word ∷ (h.rest ++ more);
      parts = texts_apart words most ∙ ap (λ (ws : List (List ℕ)). ws ++ more) h.parts ∙ append_assoc h.before (h.word ∷ h.rest) more;
      index_is = omega (arith, h.place_is);
      rules_before = h.rules_before;
      expects = inl (omega (arith, h.count.1, ap length h.parts, length-append h.before (h.word ∷ h.rest)), refl);
      refused = (h.no_rule, rw (malformed_is (take most words) word d place h at) at bad);
    }

word_rules : (words : List (List ℕ)) (rules : List Rule) → AllByRecursion IsRule rules → words ≡ map spelled rules → AllByRecursion IsRuleWord words
word_rules [] rules h e = tt
word_rules (word ∷ words) [] h e = absurd cc
word_rules (word ∷ words) (rule ∷ rules) h e = (record { rule = rule; is_rule = h.0; is = cc }, word_rules words rules h.1 cc)

nothing_more : (rest : List (List ℕ)) → IsRefused expecteds.Nothing 0 rest
nothing_more rest = grind arith

-- words of which the first 64 at most are rules, and that stand for none themselves, are more than 64
module _ (words : List (List ℕ)) (most : ℕ) (e : most ≡ min (length words) 64) (none : (rules : List Rule) → ¬ Spell words rules) where
  full : (rules : List Rule) → Spell (take most words) rules → RulesFault words (whole_fault (most + 1) expecteds.Nothing)
  full rules s = elim (cases_lt 64 (length words)) [
    | inl more ↦ (let all : length (take most words) ≡ 64 = omega (arith, length-take most words) in record {
      before = take most words;
      rest = drop most words;
      parts = sym (take-append-drop most words);
      index_is = omega arith;
      rules_before = word_rules (take most words) rules s.are_rules s.are;
      expects = inr (all, refl);
      refused = nothing_more (drop most words);
    })
    | inr few ↦ absurd (none rules (rw (take_all most words (omega arith)) at s))
  ]

  miscounted : 0 < length words → (length (take most words) ≡ 0) ⊎ (64 < length (take most words)) → ⊥
  miscounted some counted = grind (arith, length-take)

  otherwise : (r : Result (List Rule) RuleError) → 0 < length words → ((place : ℕ) → r ≢ Err (errors.Malformed place))
      → ParsesRules (take most words) r → RulesFault words (whole_fault (most + 1) expecteds.Nothing)
  otherwise r some other h = grind (arith, full, miscounted)

-- where none of the first 64 words is at fault, it is the one after them
pub too_many : (words : List (String Global)) (most : ℕ) (r : Result (List Rule) RuleError) → most ≡ min (length words) 64
    → (length words == 0) ≡ false → ((rules : List Rule) → ¬ Spell (texts_of words) rules)
    → ((place : ℕ) → r ≢ Err (errors.Malformed place)) → ParsesRules (texts_of (take most words)) r
    → RulesFault (texts_of words) (whole_fault (most + 1) expecteds.Nothing)
too_many [] most r e some none other h = absurd cc
too_many (word ∷ words) most r e some none other h =
    otherwise (texts_of (word ∷ words)) most (e ∙ ap (λ n. min n 64) (sym (length-map (word ∷ words) (λ w. string_bytes w)))) none r (omega arith) other
    (rw (take-map (λ (w : String Global). string_bytes w) most (word ∷ words)) h)

-- words that are too few or too many stand for no rules
pub miscounted_words : (words : List (List ℕ)) → ParsesRules words (Err errors.Count) → (rules : List Rule) → ¬ Spell words rules
miscounted_words words h rules k = grind (arith, h, k.count)

-- words of which one is no rule stand for no rules
pub malformed_words : (words : List (List ℕ)) (place : ℕ) → ParsesRules words (Err (errors.Malformed place)) → (rules : List Rule) → ¬ Spell words rules
malformed_words words place h rules k = h.no_rule (is_rule_word h.before h.rest h.word rules k.are_rules (sym h.parts ∙ k.are))

-- words that stand for no rules are refused with the first that is at fault
pub refused_at : (words : List (List ℕ)) (fault : ArgumentFault) → ((rules : List Rule) → ¬ Spell words rules) → RulesFault words fault
    → IsRefusedBy words (record { status = 2; place = Some (places.Argument fault) })
refused_at words fault none at = no_rules refl none at

-- memory ran out at words that stand for rules
pub refused_memory : (words : List (List ℕ)) → ParsesRules words (Err errors.NoMemory) → IsRefusedBy words out_of_memory
refused_memory words h = no_memory refl h.0 h.1

-- memory ran out at the rules that words stand for
pub no_memory_at : (words : List (List ℕ)) (rules : List Rule) → ParsesRules words (Ok rules) → IsRefusedBy words out_of_memory
no_memory_at words rules h = no_memory refl rules h
