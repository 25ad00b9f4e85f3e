-- Which words begin a form, and what goes on after them.
use Rattle.std.proofs.Common.{◌≡◌, ◌⊎◌, ℕ, ◌<◌, ◌≤◌, true, false, List, [], ◌∷◌, ◌++◌, length, map, Option, Some, None, refl, sym, ap, ◌∙◌, inl, inr, lit<}
use Rattle.std.proofs.Common.{lit≤, arith, append-nil, append_assoc}
use Rattle.std.specs.Prelude.{codes, IsSome}
use Rattle.std.specs.List.{AllByRecursion}
use Rattle.std.specs.Option.{option_map}
use Rattle.std.specs.Fmt.{decimal}
use Rattle.std.specs.Str.{bytes_eq}
use Rattle.std.proofs.lemmas.List.{length-append}
use Rattle.std.proofs.lemmas.Slice.Eq.{bytes_eq-Decides}
use Rattle.amqp_types.specs.Numerals.{number_named}
use Rattle.amqp_types.proofs.Numerals.{named-decimal}
use Rattle.amqp_stream.specs.Made.{most_frames}
use Rattle.amqp_select.specs.declared.rule.Rule.{Rule}
use Rattle.amqp_select.specs.Rules.{IsRule, spelled}
use Rattle.amqp_select.specs.Refusals.{Spell, IsRuleWord}
use Rattle.amqp_program.specs.declared.command.Command.{Command}
use Rattle.amqp_program.specs.declared.command.Command.TheVariants as commands
use Rattle.amqp_program.specs.declared.outcome.Expected.TheVariants as expecteds
use Rattle.amqp_program.specs.Reports.{max_payload}
use Rattle.amqp_program.specs.Commands.{command_named, command_of, command_with, recut_by}
use Rattle.amqp_program.specs.Arguments.{IsForm, by_command, by_selection, by_filtering, BeginsForm, IsCommandWord, Expects}
use Rattle.amqp_program.proofs.Selections.{first_is, is_rule_word}

-- ---- small facts

-- what an option holds
pub some_is : {A : Type 0} (o : Option A) → IsSome o → (a : A) × (o ≡ Some a)
some_is (Some a) h = (a, refl)
some_is None h = absurd cc

is_name : (word name : List ℕ) → bytes_eq word name ≡ true → word ≡ name
is_name word name t = (bytes_eq-Decides word name).0 t

-- a word that is tested to be a command is no name that is not
other_name : (test : List ℕ → Option Command) (word name : List ℕ) {c : Command} → test name ≡ None → test word ≡ Some c → bytes_eq word name ≡ false
other_name test word name none e = grind (arith, is_name)

-- ---- forms

-- a form that begins neither with `select` nor with `filter` asks for a command
asks : (first : List ℕ) (more : List (List ℕ)) → bytes_eq first (codes "select") ≡ false → bytes_eq first (codes "filter") ≡ false
    → IsForm (first ∷ more) → (c : Command) × (command_of (first ∷ more) ≡ Some c)
asks first more s f form = grind arith

-- a command of two words begins with one of two
numbered_word : (word number : List ℕ) (c : Command) → command_with word number ≡ Some c → (word ≡ codes "make") ⊎ (word ≡ codes "recut")
numbered_word word number c e = grind (arith, is_name)

-- ---- the first word

command_begun : (word : List ℕ) (more : List (List ℕ)) (c : Command) → command_of (word ∷ more) ≡ Some c → IsCommandWord word
command_begun word more c e = grind (arith, numbered_word)

begun : (word : List ℕ) (more : List (List ℕ)) → IsForm (word ∷ more) → IsCommandWord word
begun word more (by_command c e) = command_begun word more c e
begun word more (by_selection rules is) = inr (inr (inr (inl (cc (first_is (codes "select") (word ∷ more) is.words is.are)))))
begun word more (by_filtering rules is) = inr (inr (inr (inr (cc (first_is (codes "filter") (word ∷ more) is.words is.are)))))

bare : Rule
bare = record { keep = true; channel = None; kind = None; class_id = None; method_id = None }

keep_spells : Spell (codes "keep" ∷ []) (bare ∷ [])
unfolding bare
keep_spells = grind arith

-- a form begins with no words
pub nothing_begins : BeginsForm []
nothing_begins = record { more = codes "hex" ∷ []; form = by_command commands.Hex refl }

-- a form begins with each word that is a command, or begins one
pub word_begins : (word : List ℕ) → IsCommandWord word → BeginsForm (word ∷ [])
word_begins word (inl some) = let found = some_is (command_named word) some in record { more = []; form = by_command found.0 found.1 }
word_begins word (inr (inl m)) = rw m (record {
  more = decimal 0 ∷ [];
  form = by_command (commands.Make 0) (ap (option_map commands.Make) (named-decimal most_frames 0 (lit< tt) (lit≤ tt)));
})
word_begins word (inr (inr (inl k))) = rw k (record {
  more = decimal 1 ∷ [];
  form = by_command (commands.Recut 1) (ap recut_by (named-decimal max_payload 1 (lit< tt) (lit≤ tt)));
})
word_begins word (inr (inr (inr (inl s)))) =
    rw s (record { more = codes "keep" ∷ []; form = by_selection (bare ∷ []) (record { words = _; are = refl; spell = keep_spells }) })
word_begins word (inr (inr (inr (inr f)))) =
    rw f (record { more = codes "keep" ∷ []; form = by_filtering (bare ∷ []) (record { words = _; are = refl; spell = keep_spells }) })

-- a form begins with such a word, and with no other
pub expects_command : Expects [] expecteds.Command
expects_command word = (λ b. begun word b.more b.form, word_begins word)

-- ---- numbers

frames_begun : (word : List ℕ) (more : List (List ℕ)) → IsForm (codes "make" ∷ word ∷ more) → IsSome (number_named most_frames word)
frames_begun word more form = grind arith

-- after `make` comes a number of frames, and nothing else
pub expects_frames : Expects (codes "make" ∷ []) expecteds.Frames
expects_frames word = (
  λ b. frames_begun word b.more b.form,
  λ some. let found = some_is (number_named most_frames word) some in
      record { more = []; form = by_command (commands.Make found.0) (ap (option_map commands.Make) found.1) },
)

size_begun : (word : List ℕ) (more : List (List ℕ)) → IsForm (codes "recut" ∷ word ∷ more) → IsSome (recut_by (number_named max_payload word))
size_begun word more form = grind arith

-- after `recut` comes a size, and nothing else
pub expects_size : Expects (codes "recut" ∷ []) expecteds.Size
expects_size word = (
  λ b. size_begun word b.more b.form,
  λ some. let found = some_is (recut_by (number_named max_payload word)) some in record { more = []; form = by_command found.0 found.1 },
)

-- ---- complete commands

none_after_one : (first word : List ℕ) (more : List (List ℕ)) {c d : Command} → command_named first ≡ Some c → command_of (first ∷ word ∷ more) ≡ Some d → ⊥
none_after_one first word [] {d = d} e is =
    elim (numbered_word first word d is) [ inl m ↦ cc (e, ap command_named m) | inr k ↦ cc (e, ap command_named k) ]
none_after_one first word (other ∷ more) e is = absurd cc

-- after a command of one word comes nothing
pub expects_none_after_one : (first : List ℕ) (command : Command) → command_named first ≡ Some command → Expects (first ∷ []) expecteds.Nothing
expects_none_after_one first command e word = (
  λ b. none_after_one first word b.more e (asks first (word ∷ b.more) (other_name command_named first (codes "select") refl e)
      (other_name command_named first (codes "filter") refl e) b.form).1,
  λ h. absurd h,
)

-- after a command of two words comes nothing
pub expects_none_after_two : (first number : List ℕ) (command : Command) → command_with first number ≡ Some command
    → Expects (first ∷ number ∷ []) expecteds.Nothing
expects_none_after_two first number command e word = (
  λ b. let none = (asks first (number ∷ word ∷ b.more) (other_name (λ w. command_with w number) first (codes "select") refl e)
      (other_name (λ w. command_with w number) first (codes "filter") refl e) b.form).1 in absurd cc,
  λ h. absurd h,
)

-- ---- rules

-- a first word after which rules come, and nothing else
pub record IsBeforeRules (first : List ℕ) : Type 0 where
  pub begins : BeginsForm (first ∷ [])
  pub form : (words : List (List ℕ)) (rules : List Rule) → Spell words rules → IsForm (first ∷ words)
  pub spells : (words : List (List ℕ)) → IsForm (first ∷ words) → (rules : List Rule) × Spell words rules

select_spells : (words : List (List ℕ)) → IsForm (codes "select" ∷ words) → (rules : List Rule) × Spell words rules
select_spells words form = grind arith

filter_spells : (words : List (List ℕ)) → IsForm (codes "filter" ∷ words) → (rules : List Rule) × Spell words rules
filter_spells words form = grind arith

-- after `select` come rules, and nothing else
pub select_first : IsBeforeRules (codes "select")
select_first = record {
  begins = word_begins (codes "select") (inr (inr (inr (inl refl))));
  form = λ words rules s. by_selection rules (record { words = words; are = refl; spell = s });
  spells = select_spells;
}

-- after `filter` come rules, and nothing else
pub filter_first : IsBeforeRules (codes "filter")
filter_first = record {
  begins = word_begins (codes "filter") (inr (inr (inr (inr refl))));
  form = λ words rules s. by_filtering rules (record { words = words; are = refl; spell = s });
  spells = filter_spells;
}

-- words that are rules, one by one
are_spelled : (words : List (List ℕ)) → AllByRecursion IsRuleWord words → (rules : List Rule) × AllByRecursion IsRule rules × (words ≡ map spelled rules)
are_spelled [] h = ([], tt, refl)
are_spelled (word ∷ words) h =
    let more = are_spelled words h.1 in
    (h.0.rule ∷ more.0, (h.0.is_rule, more.1), cc (h.0.is, more.2))

one_more : (words : List (List ℕ)) (word : List ℕ) → AllByRecursion IsRuleWord words → IsRuleWord word → AllByRecursion IsRuleWord (words ++ word ∷ [])
one_more [] word h rule = (rule, tt)
one_more (other ∷ words) word h rule = (h.0, one_more words word h.1 rule)

-- a form begins with such a word and at most 64 rules
pub rules_begin : (first : List ℕ) (words : List (List ℕ)) → IsBeforeRules first → AllByRecursion IsRuleWord words → length words ≤ 64
    → BeginsForm (first ∷ words)
rules_begin first [] is h few = is.begins
rules_begin first (word ∷ words) is h few =
    let all = are_spelled (word ∷ words) h in
    record {
      more = [];
      form = rw (append-nil (word ∷ words)) (is.form (word ∷ words) all.0 (record { count = (omega arith, few); are_rules = all.1; are = all.2 }));
    }

-- after fewer than 64 rules comes a rule, and nothing else
pub expects_rule : (first : List ℕ) (words : List (List ℕ)) → IsBeforeRules first → AllByRecursion IsRuleWord words → length words < 64
    → Expects (first ∷ words) expecteds.Rule
expects_rule first words is h few word = (
  (λ b. let found = is.spells ((words ++ word ∷ []) ++ b.more) b.form in
      is_rule_word words b.more word found.0 found.1.are_rules (sym (append_assoc words (word ∷ []) b.more) ∙ found.1.are)),
  (λ rule. rules_begin first (words ++ word ∷ []) is (one_more words word h rule) (omega (arith, length-append words (word ∷ [])))),
)

-- after 64 rules comes nothing
pub expects_no_rule : (first : List ℕ) (words : List (List ℕ)) → IsBeforeRules first → length words ≡ 64 → Expects (first ∷ words) expecteds.Nothing
expects_no_rule first words is all word = (
  (λ b. let found = is.spells ((words ++ word ∷ []) ++ b.more) b.form in
      omega (arith, found.1.count.1, length-append (words ++ word ∷ []) b.more, length-append words (word ∷ []))),
  (λ h. absurd h),
)
