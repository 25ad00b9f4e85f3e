-- `run_reported`: clauses `command`, `select`, `filter`, `usage`, `argument` and `nothing`, and what calls require.
use Rattle.std.proofs.Common.{◌≡◌, Some, sym, ◌∙◌, subst, rules}
use Rattle.std.specs.Prelude.{codes}
use Rattle.amqp_program.specs.declared.command.Command.TheVariants as commands
use Rattle.amqp_select.specs.Refusals.{texts_of, Spell}
use Rattle.amqp_program.specs.Commands.{after_word, command_of}
use Rattle.amqp_program.proofs.Selections.{first_is, no_selecting, no_selection, no_filtering, no_filter, select_alone}
use Rattle.amqp_program.proofs.Reporting.{usage}
use Rattle.amqp_program.proofs.Numerals.{make_few, recut_fits}
use Rattle.amqp_program.proofs.Forms.{select_first, filter_first}
use Rattle.amqp_program.proofs.ArgumentFaults.{rules_place}
use Rattle.amqp_program.proofs.run.run_reported.Goals as goal

pub run_recut-requires : goal.run_recut-requires
run_recut-requires g c =
    let named : command_of (texts_of c.args.words.now) ≡ Some (commands.Recut c.in-Some-Recut.size) = search rules in
    let fits = recut_fits (texts_of c.args.words.now) _ named in
    record { some = fits.0; fits = fits.1 }

pub run_make-requires : goal.run_make-requires
run_make-requires g c =
    let named : command_of (texts_of c.args.words.now) ≡ Some (commands.Make c.in-Some-Make.frames) = search rules in
    make_few (texts_of c.args.words.now) _ named

pub returns-in-Some-clause-usage : goal.returns-in-Some-clause-usage
returns-in-Some-clause-usage g c =
    let after : after_word (codes "select") (texts_of c.args.words.now) ≡ Some (texts_of c.in-Some.rules.now) = search rules in
    (λ e. no_selecting _ _ after (c.run_select.ensures.usage.0 e), λ none. c.run_select.ensures.usage.1 (no_selection _ _ after none))

pub returns-in-Some-clause-argument : goal.returns-in-Some-clause-argument
returns-in-Some-clause-argument g c =
    let after : after_word (codes "select") (texts_of c.args.words.now) ≡ Some (texts_of c.in-Some.rules.now) = search rules in
    λ none. rw (first_is (codes "select") (texts_of c.args.words.now) (texts_of c.in-Some.rules.now) after)
    (rules_place (codes "select") _ _ select_first (c.run_select.ensures.fault (c.run_select.ensures.usage.1 (no_selection _ _ after none))))

pub returns-in-Some-clause-nothing : goal.returns-in-Some-clause-nothing
returns-in-Some-clause-nothing g c =
    let after : after_word (codes "select") (texts_of c.args.words.now) ≡ Some (texts_of c.in-Some.rules.now) = search rules in
    λ none. c.run_select.ensures.nothing (c.run_select.ensures.usage.1 (no_selection _ _ after none))

pub returns-in-Some-words_after-clause-usage : goal.returns-in-Some-words_after-clause-usage
returns-in-Some-words_after-clause-usage g c =
    let after : after_word (codes "filter") (texts_of c.args.words.now) ≡ Some (texts_of c.in-Some-words_after.rules.now) = search rules in
    (λ e. no_filtering _ _ after (c.run_filter.ensures.usage.0 e), λ none. c.run_filter.ensures.usage.1 (no_filter _ _ after none))

pub returns-in-Some-words_after-clause-argument : goal.returns-in-Some-words_after-clause-argument
returns-in-Some-words_after-clause-argument g c =
    let after : after_word (codes "filter") (texts_of c.args.words.now) ≡ Some (texts_of c.in-Some-words_after.rules.now) = search rules in
    λ none. rw (first_is (codes "filter") (texts_of c.args.words.now) (texts_of c.in-Some-words_after.rules.now) after)
    (rules_place (codes "filter") _ _ filter_first (c.run_filter.ensures.fault (c.run_filter.ensures.usage.1 (no_filter _ _ after none))))

pub returns-in-Some-words_after-clause-nothing : goal.returns-in-Some-words_after-clause-nothing
returns-in-Some-words_after-clause-nothing g c =
    let after : after_word (codes "filter") (texts_of c.args.words.now) ≡ Some (texts_of c.in-Some-words_after.rules.now) = search rules in
    λ none. c.run_filter.ensures.nothing (c.run_filter.ensures.usage.1 (no_filter _ _ after none))

pub returns-in-Some-clause-command : goal.returns-in-Some-clause-command
returns-in-Some-clause-command g c =
    let after : after_word (codes "select") (texts_of c.args.words.now) ≡ Some (texts_of c.in-Some.rules.now) = search rules in
    λ command is. absurd (cc (is, select_alone (texts_of c.args.words.now) (texts_of c.in-Some.rules.now) after))

pub returns-in-Some-clause-select : goal.returns-in-Some-clause-select
returns-in-Some-clause-select g c =
    let after : after_word (codes "select") (texts_of c.args.words.now) ≡ Some (texts_of c.in-Some.rules.now) = search rules in
    λ rules is. c.run_select.ensures.rules rules (subst (λ words. Spell words rules) (let same = sym is.are ∙ after in cc) is.spell)

pub returns-in-Some-words_after-clause-filter : goal.returns-in-Some-words_after-clause-filter
returns-in-Some-words_after-clause-filter g c =
    let after : after_word (codes "filter") (texts_of c.args.words.now) ≡ Some (texts_of c.in-Some-words_after.rules.now) = search rules in
    λ rules is. c.run_filter.ensures.rules rules (subst (λ words. Spell words rules) (let same = sym is.are ∙ after in cc) is.spell)

pub returns-in-Some-Hex-clause-usage : goal.returns-in-Some-Hex-clause-usage
returns-in-Some-Hex-clause-usage g c =
    let named : command_of (texts_of c.args.words.now) ≡ Some commands.Hex = search rules in
    usage _ commands.Hex _ _ _ _ _ named c.run_hex.ensures.report

pub returns-in-Some-Tidy-clause-usage : goal.returns-in-Some-Tidy-clause-usage
returns-in-Some-Tidy-clause-usage g c =
    let named : command_of (texts_of c.args.words.now) ≡ Some commands.Tidy = search rules in
    usage _ commands.Tidy _ _ _ _ _ named c.run_hex-in-Some-Tidy.ensures.report
