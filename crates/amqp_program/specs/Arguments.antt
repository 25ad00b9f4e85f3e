-- Which argument is the first at fault, and what may stand in its place: by the forms
-- of words alone.
use Rattle.std.specs.Prelude.{◌≡◌, ◌≢◌, ◌↔◌, ◌⊎◌, ℕ, ◌+◌, ◌-◌, ◌<◌, ◌≤◌, List, [], ◌∷◌, ◌++◌}
use Rattle.std.specs.Prelude.{length, take, slice_index, codes, Option, Some, IsSome}
use Rattle.std.specs.List.{AllByRecursion}
use Rattle.amqp_types.specs.Numerals.{number_named}
use Rattle.amqp_stream.specs.Made.{most_frames}
use Rattle.amqp_select.specs.declared.rule.Rule.{Rule}
use Rattle.amqp_select.specs.Refusals.{IsRuleWord, Spell}
use Rattle.amqp_program.specs.declared.command.Command.{Command}
use Rattle.amqp_program.specs.declared.outcome.Expected.{Expected}
use Rattle.amqp_program.specs.declared.outcome.Expected.TheVariants as expecteds
use Rattle.amqp_program.specs.declared.outcome.ArgumentFault.{ArgumentFault}
use Rattle.amqp_program.specs.declared.outcome.Outcome.{Outcome}
use Rattle.amqp_program.specs.Outcomes.{out_of_memory}
use Rattle.amqp_program.specs.declared.outcome.Place.{Place}
use Rattle.amqp_program.specs.declared.outcome.Place.TheVariants as places
use Rattle.amqp_program.specs.Reports.{max_payload}
use Rattle.amqp_program.specs.Commands.{command_named, command_of}
use Rattle.amqp_program.specs.Commands.{recut_by, IsSelection, IsFiltering}

-- ---- what begins a form

-- words that are one of the forms
pub data IsForm (texts : List (List ℕ)) : Type 0 where
  by_command : (command : Command) → command_of texts ≡ Some command → IsForm texts
  by_selection : (rules : List Rule) → IsSelection texts rules → IsForm texts
  by_filtering : (rules : List Rule) → IsFiltering texts rules → IsForm texts

-- words with which a form begins
pub record BeginsForm (texts : List (List ℕ)) : Type 0 where
  pub more : List (List ℕ)
  pub form : IsForm (texts ++ more)

-- a word that is a command, or begins one
abbrev pub IsCommandWord : List ℕ → Type 0
IsCommandWord word =
    IsSome (command_named word)
    ⊎ ((word ≡ codes "make")
    ⊎ ((word ≡ codes "recut") ⊎ ((word ≡ codes "select") ⊎ (word ≡ codes "filter"))))

-- the word is what is expected
abbrev pub IsExpected : Expected → List ℕ → Type 0
IsExpected expecteds.Command word = IsCommandWord word
IsExpected expecteds.Frames word = IsSome (number_named most_frames word)
IsExpected expecteds.Size word = IsSome (recut_by (number_named max_payload word))
IsExpected expecteds.Rule word = IsRuleWord word
IsExpected expecteds.Nothing word = ⊥

-- after these words a form goes on with what is expected, and with nothing else
abbrev pub Expects : List (List ℕ) → Expected → Type 0
Expects before expected =
    (word : List ℕ) → BeginsForm (before ++ word ∷ []) ↔ IsExpected expected word

-- ---- the part of a rule

-- The part of a word that begins at this place and ends before `stop`, and has no comma in it, is
-- the first that is at fault: what stands before the comma in front of it is a rule, and with the
-- part it is none.
pub record IsFirstBadPart (word : List ℕ) (start : ℕ) : Type 0 where
  pub before : (start ≡ 0)
      ⊎ ((1 ≤ start) × (slice_index word (start - 1) ≡ 44) × IsRuleWord (take (start - 1) word))
  pub stop : ℕ
  pub ends : (stop ≡ length word) ⊎ ((stop < length word) × (slice_index word stop ≡ 44))
  pub begins : start ≤ stop
  pub one_part : (k : ℕ) → start ≤ k → k < stop → slice_index word k ≢ 44
  pub no_rule : ¬ IsRuleWord (take stop word)

-- ---- the argument

-- The argument is none of what is expected, or it is missing. Of a rule, this is the part
-- that is at fault.
abbrev pub IsRefused : Expected → ℕ → List (List ℕ) → Type 0
IsRefused expected part [] = part ≡ 0
IsRefused expecteds.Rule part (word ∷ more) = ¬ IsRuleWord word × IsFirstBadPart word part
IsRefused expected part (word ∷ more) = ¬ IsExpected expected word × (part ≡ 0)

-- The first argument that is at fault, of words that are none of the forms: a form begins with
-- those before it, and goes on with what is expected, which it is not.
pub record IsArgumentFault (texts : List (List ℕ)) (fault : ArgumentFault) : Type 0 where
  pub before : List (List ℕ)
  pub rest : List (List ℕ)
  pub parts : texts ≡ before ++ rest
  pub index_is : fault.index ≡ length before
  pub begins : BeginsForm before
  pub expects : Expects before fault.expected
  pub refused : IsRefused fault.expected fault.part rest

-- the place of that argument
abbrev pub IsArgumentPlace : List (List ℕ) → Option Place → Type 0
IsArgumentPlace texts (Some (places.Argument fault)) = IsArgumentFault texts fault
IsArgumentPlace texts place = ⊥

-- ---- words that stand for no rules

-- what may stand after so many rules
abbrev pub IsExpectedAfter : ℕ → Expected → Type 0
IsExpectedAfter n expected =
    ((n < 64) × (expected ≡ expecteds.Rule)) ⊎ ((n ≡ 64) × (expected ≡ expecteds.Nothing))

-- the first of these words that is at fault, counted with the word before them
pub record RulesFault (words : List (List ℕ)) (fault : ArgumentFault) : Type 0 where
  pub before : List (List ℕ)
  pub rest : List (List ℕ)
  pub parts : words ≡ before ++ rest
  pub index_is : fault.index ≡ length before + 1
  pub rules_before : AllByRecursion IsRuleWord before
  pub expects : IsExpectedAfter (length before) fault.expected
  pub refused : IsRefused fault.expected fault.part rest

-- the place of that word
abbrev pub IsRulesFault : List (List ℕ) → Option Place → Type 0
IsRulesFault words (Some (places.Argument fault)) = RulesFault words fault
IsRulesFault words place = ⊥

-- words that stand for no rules, with the first that is at fault, or memory ran out
-- at words that do
pub data IsRefusedBy (words : List (List ℕ)) (outcome : Outcome) : Type 0 where
  no_rules : outcome.status ≡ 2 → ((rules : List Rule) → ¬ Spell words rules)
      → IsRulesFault words outcome.place → IsRefusedBy words outcome
  no_memory : outcome ≡ out_of_memory → (rules : List Rule)
      → Spell words rules → IsRefusedBy words outcome
