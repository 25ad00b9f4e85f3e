-- Which argument is the first at fault.
use Rattle.std.proofs.Common.{◌≡◌, ◌≢◌, ℕ, ◌≤◌, true, false, List, [], ◌∷◌, ◌++◌, length, Option, Some, None, refl, ap, inl, inr, arith}
use Rattle.std.specs.Prelude.{codes, IsSome, is_some, slice_get, String, string_bytes}
use Rattle.std.specs.declared.alloc.Global.{Global}
use Rattle.std.specs.List.{AllByRecursion}
use Rattle.amqp_select.specs.Refusals.{IsRuleWord, texts_of}
use Rattle.amqp_program.specs.declared.outcome.Expected.{Expected}
use Rattle.amqp_program.specs.declared.outcome.Expected.TheVariants as expecteds
use Rattle.amqp_program.specs.declared.outcome.ArgumentFault.{ArgumentFault}
use Rattle.amqp_program.specs.declared.outcome.Place.{Place}
use Rattle.amqp_program.specs.Commands.{after_word, command_in_front, command_named, command_of, command_with}
use Rattle.amqp_program.specs.Arguments.{by_command, BeginsForm, IsCommandWord, Expects, IsArgumentFault, IsArgumentPlace, IsRefused, IsExpectedAfter}
use Rattle.amqp_program.specs.Arguments.{RulesFault, IsRulesFault}
use Rattle.amqp_program.proofs.Forms.{some_is, nothing_begins, word_begins, expects_command, expects_frames, expects_size, expects_none_after_one}
use Rattle.amqp_program.proofs.Forms.{expects_none_after_two, IsBeforeRules, rules_begin, expects_rule, expects_no_rule}

-- an argument that is at fault as a whole
abbrev pub whole_fault : ℕ → Expected → ArgumentFault
whole_fault index expected = record { index = index; expected = expected; part = 0 }

-- ---- commands

fault_after : (before rest : List (List ℕ)) {expected : Expected} → BeginsForm before → Expects before expected → IsRefused expected 0 rest
    → IsArgumentFault (before ++ rest) (whole_fault (length before) expected)
fault_after before rest begins expects refused = grind arith

no_frames : (more : List (List ℕ)) → is_some (command_in_front (codes "make" ∷ more)) ≡ false → IsRefused expecteds.Frames 0 more
no_frames more none = grind arith

no_size : (more : List (List ℕ)) → is_some (command_in_front (codes "recut" ∷ more)) ≡ false → IsRefused expecteds.Size 0 more
no_size more none = grind arith

one_too_many : (first : List ℕ) (more : List (List ℕ)) → command_of (first ∷ more) ≡ None → IsSome (command_named first)
    → IsArgumentFault (first ∷ more) (whole_fault 1 expecteds.Nothing)
one_too_many first [] none some = absurd (cc (ap is_some none))
one_too_many first (word ∷ more) none some =
    let found = some_is (command_named first) some in
    fault_after (first ∷ []) (word ∷ more) (word_begins first (inl some)) (expects_none_after_one first found.0 found.1) ((λ h. h), refl)

-- after the two words of a command, the next word is at fault
pub after_two : (texts : List (List ℕ)) → command_of texts ≡ None → is_some (command_in_front texts) ≡ true
    → IsArgumentFault texts (whole_fault 2 expecteds.Nothing)
after_two [] none some = absurd cc
after_two (first ∷ []) none some = absurd cc
after_two (first ∷ number ∷ []) none some = absurd (cc (ap is_some none))
after_two (first ∷ number ∷ word ∷ more) none some =
    let found = some_is (command_with first number) some in
    fault_after (first ∷ number ∷ []) (word ∷ more) (record { more = []; form = by_command found.0 found.1 })
    (expects_none_after_two first number found.0 found.1) ((λ h. h), refl)

-- of no words the command is missing
pub none_at_all : (texts : List (List ℕ)) → texts ≡ [] → IsArgumentFault texts (whole_fault 0 expecteds.Command)
none_at_all texts e = rw e (fault_after [] [] nothing_begins expects_command refl)

module _ {texts : List (List ℕ)} {first : List ℕ} {more : List (List ℕ)} (e : texts ≡ first ∷ more) where
  -- after a command of one word, the next word is at fault
  pub after_one : command_of texts ≡ None → is_some (command_named first) ≡ true → IsArgumentFault texts (whole_fault 1 expecteds.Nothing)
  after_one none some = grind (arith, one_too_many)

  none_as : {name : List ℕ} → first ≡ name → is_some (command_in_front texts) ≡ false → is_some (command_in_front (name ∷ more)) ≡ false
  none_as is none = grind arith

  -- of `make` without its number, what stands in the place of that is at fault
  pub after_make : first ≡ codes "make" → is_some (command_in_front texts) ≡ false → IsArgumentFault texts (whole_fault 1 expecteds.Frames)
  after_make is none =
      rw (e, is) (fault_after (codes "make" ∷ []) more (word_begins (codes "make") (inr (inl refl))) expects_frames (no_frames more (none_as is none)))

  -- the same of `recut` without its size
  pub after_recut : first ≡ codes "recut" → is_some (command_in_front texts) ≡ false → IsArgumentFault texts (whole_fault 1 expecteds.Size)
  after_recut is none =
      rw (e, is) (fault_after (codes "recut" ∷ []) more (word_begins (codes "recut") (inr (inr (inl refl)))) expects_size (no_size more (none_as is none)))

  -- a first word with which no form begins is at fault
  pub no_first : after_word (codes "select") texts ≡ None → after_word (codes "filter") texts ≡ None → is_some (command_named first) ≡ false
      → first ≢ codes "make" → first ≢ codes "recut" → IsArgumentFault texts (whole_fault 0 expecteds.Command)
  no_first select filter none m k = rw e (fault_after [] (first ∷ more) nothing_begins expects_command (no_command, refl))
    where
      no_command : ¬ IsCommandWord first
      no_command (inl some) = cc
      no_command (inr (inl is)) = m is
      no_command (inr (inr (inl is))) = k is
      no_command (inr (inr (inr (inl is)))) = cc (rw (e, is) at select)
      no_command (inr (inr (inr (inr is)))) = cc (rw (e, is) at filter)

-- the text of the first word, and those after it
pub first_text : (words : List (String Global)) (word : String Global) → Some word ≡ slice_get words 0
    → (more : List (List ℕ)) × (texts_of words ≡ string_bytes word ∷ more)
first_text [] word e = absurd cc
first_text (first ∷ words) word e = (texts_of words, let same : word ≡ first = cc in rw same refl)

-- no first word, no words
pub no_texts : (words : List (String Global)) → None ≡ slice_get words 0 → texts_of words ≡ []
no_texts [] e = refl
no_texts (first ∷ words) e = absurd cc

-- ---- rules

module _ (first : List ℕ) (words : List (List ℕ)) (is : IsBeforeRules first) where
  expects_after : (before : List (List ℕ)) (expected : Expected) → IsExpectedAfter (length before) expected → AllByRecursion IsRuleWord before
      → Expects (first ∷ before) expected × (length before ≤ 64)
  expects_after before expected (inl h) all = (rw h.1 (expects_rule first before is all h.0), omega (arith, h.0))
  expects_after before expected (inr h) all = (rw h.1 (expects_no_rule first before is h.0), omega (arith, h.0))

  rules_fault : (fault : ArgumentFault) → RulesFault words fault → IsArgumentFault (first ∷ words) fault
  rules_fault fault r =
      let next = expects_after r.before fault.expected r.expects r.rules_before in
      record {
        before = first ∷ r.before;
        rest = r.rest;
        parts = cc (r.parts);
        index_is = omega (arith, r.index_is);
        begins = rules_begin first r.before is r.rules_before next.1;
        expects = next.0;
        refused = r.refused;
      }

-- the place of what is at fault among rules is its place among all words
pub rules_place : (first : List ℕ) (words : List (List ℕ)) (place : Option Place) → IsBeforeRules first → IsRulesFault words place
    → IsArgumentPlace (first ∷ words) place
rules_place first words place is h = grind (arith, rules_fault)
