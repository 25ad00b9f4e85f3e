-- What holds of a run by its report, and of a command by what was asked for.
use Rattle.std.proofs.Common.{◌≡◌, ◌≢◌, ◌↔◌, ◌⊎◌, ℕ, ◌≤◌, ◌<◌, List, Option, Some, None, arith}
use Rattle.amqp_types.specs.Levels.{plain, tidy}
use Rattle.amqp_stream.specs.Ends.{Supply, Store}
use Rattle.amqp_select.specs.declared.rule.Rule.{Rule}
use Rattle.amqp_program.specs.declared.command.Command.{Command}
use Rattle.amqp_program.specs.declared.command.Command.TheVariants as commands
use Rattle.amqp_program.specs.declared.outcome.Outcome.{Outcome}
use Rattle.amqp_program.specs.Commands.{command_of, IsNoForm}
use Rattle.amqp_program.specs.Makes.{RunsMake}
use Rattle.amqp_program.specs.Reporting.{ReportsCommand, ReportsFilter, ReportsSelect, RunsCommand}
use Rattle.amqp_program.specs.Runs.{MayEndWith, Prints, RunsFilter, RunsSelect}
use Rattle.amqp_program.proofs.HexRuns.{hex_not_two}
use Rattle.amqp_program.proofs.Statuses.{stream_not_two, turn_not_two, undump_not_two}

-- ---- by the report

print_not_two : {text : List ℕ} {k l : Store} {status : ℕ} → Prints text k l status → status ≢ 2
print_not_two run two = grind (arith, run.ends)

make_not_two : {n : ℕ} {k l : Store} {status : ℕ} → RunsMake n k l status → status ≢ 2
make_not_two run two = grind (arith, run.ends)

-- what a run does, without where it ended
pub ran : (command : Command) (a b : Supply) (k l : Store) (outcome : Outcome) → ReportsCommand command a b k l outcome
    → RunsCommand command a b k l outcome.status
ran command a b k l outcome report = grind arith

-- what a run of `select` does, without where it ended
pub selected : (rules : List Rule) (a b : Supply) (k l : Store) (outcome : Outcome) → ReportsSelect rules a b k l outcome
    → RunsSelect rules a b k l outcome.status
selected rules a b k l outcome report = report.run

-- what a run of `filter` does, without where it ended
pub filtered : (rules : List Rule) (a b : Supply) (k l : Store) (outcome : Outcome) → ReportsFilter rules a b k l outcome
    → RunsFilter rules a b k l outcome.status
filtered rules a b k l outcome report = report.run

module _ (a b : Supply) (k l : Store) (outcome : Outcome) where
  not_two : (command : Command) → ReportsCommand command a b k l outcome → outcome.status ≢ 2
  not_two commands.Hex report = hex_not_two plain report.run
  not_two commands.Tidy report = hex_not_two tidy report.run
  not_two commands.Undump report = rw report.run.status_is (undump_not_two report.run.answer)
  not_two (commands.Recut n) report = rw report.run.status_is (turn_not_two report.run.answer)
  not_two (commands.Make n) report = make_not_two report.0
  not_two commands.Help report = print_not_two report.0
  not_two commands.Version report = print_not_two report.0
  not_two command report = rw report.run.status_is (stream_not_two report.run.answer)

-- ---- by what was asked for

module _ (words : List (List ℕ)) where
  -- the words ask for no other command
  pub done : (found command : Command) (a b : Supply) (k l : Store) (outcome : Outcome) → command_of words ≡ Some found
      → ReportsCommand found a b k l outcome → command_of words ≡ Some command → ReportsCommand command a b k l outcome
  done found command a b k l outcome is report e = grind arith

  -- words that ask for a command are one of the forms
  pub is_form : (command : Command) → command_of words ≡ Some command → ¬ IsNoForm words
  is_form command is none = cc (is, none.no_command)

  -- a command does not end with 2, and its words are one of the forms
  pub usage : (command : Command) (a b : Supply) (k l : Store) (outcome : Outcome) → command_of words ≡ Some command
      → ReportsCommand command a b k l outcome → (outcome.status ≡ 2) ↔ IsNoForm words
  usage command a b k l outcome is report = grind (arith, not_two, is_form)

  -- words that are none of the forms ask for no command
  pub asks_none : command_of words ≡ None → (command : Command) → command_of words ≢ Some command
  asks_none none command is = cc

-- ---- statuses from 23 on

-- a run that ends below 23
pub owns_none : (rules : Option (List (List ℕ))) (asked : Option Command) (status : ℕ) → status < 23 → 23 ≤ status → MayEndWith rules asked status
owns_none rules asked status below most = absurd (omega arith)

-- a run of a command ends with its own statuses
pub owns : (rules : Option (List (List ℕ))) (words : List (List ℕ)) (command : Command) (status : ℕ) → rules ≡ None → command_of words ≡ Some command
    → (23 ≤ status → MayEndWith None (Some command) status) → 23 ≤ status → MayEndWith rules (command_of words) status
owns rules words command status none named may most = grind arith

-- a run of `filter` ends with those of content faults
pub owns_filter : (rules : Option (List (List ℕ))) (words : List (List ℕ)) (asked : Option Command) (status : ℕ)
    → rules ≡ Some words → (23 ≤ status → (status ≡ 24) ⊎ (status ≡ 25)) → 23 ≤ status → MayEndWith rules asked status
owns_filter rules words asked status some may most = grind arith
