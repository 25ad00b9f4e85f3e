-- The forms of words.
use Rattle.std.specs.Prelude.{◌≡◌, ℕ, List, [], ◌∷◌, codes, Option, Some, None, ◌==◌, if◌then◌else◌}
use Rattle.std.specs.Option.{option_map}
use Rattle.std.specs.Str.{bytes_eq}
use Rattle.amqp_types.specs.Numerals.{number_named}
use Rattle.amqp_stream.specs.Made.{most_frames}
use Rattle.amqp_select.specs.declared.rule.Rule.{Rule}
use Rattle.amqp_select.specs.Refusals.{Spell}
use Rattle.amqp_select.specs.Covering.{uncovered}
use Rattle.amqp_program.specs.Reports.{max_payload}
use Rattle.amqp_program.specs.declared.command.Command.{Command}
use Rattle.amqp_program.specs.declared.command.Command.TheVariants as commands

-- the command of a single word
abbrev pub command_named : List ℕ → Option Command
command_named word =
    if bytes_eq word (codes "hex") then Some commands.Hex
    else (if bytes_eq word (codes "raw") then Some commands.Raw
    else (if bytes_eq word (codes "tidy") then Some commands.Tidy
    else (if bytes_eq word (codes "lent") then Some commands.Lent
    else (if bytes_eq word (codes "dump") then Some commands.Dump
    else (if bytes_eq word (codes "undump") then Some commands.Undump
    else (if bytes_eq word (codes "--help") then Some commands.Help
    else (if bytes_eq word (codes "--version") then Some commands.Version else None)))))))

-- bodies are cut into some bytes
abbrev pub recut_by : Option ℕ → Option Command
recut_by None = None
recut_by (Some size) = if size == 0 then None else Some (commands.Recut size)

-- the command of two words: `make` and a number of frames, or `recut` and a size from 1 to the
-- limit on payloads
abbrev pub command_with : List ℕ → List ℕ → Option Command
command_with word number =
    if bytes_eq word (codes "make") then option_map commands.Make (number_named most_frames number)
    else (if bytes_eq word (codes "recut") then recut_by (number_named max_payload number)
    else None)

-- the command that the words after the program's name ask for, but for those by rules: each form is
-- one word, or two
abbrev pub command_of : List (List ℕ) → Option Command
command_of [] = None
command_of (word ∷ []) = command_named word
command_of (word ∷ number ∷ []) = command_with word number
command_of (word ∷ number ∷ other ∷ more) = None

-- the command that the first two words ask for, whatever follows them
abbrev pub command_in_front : List (List ℕ) → Option Command
command_in_front (word ∷ number ∷ more) = command_with word number
command_in_front words = None

-- the words after the first, where that is this one
abbrev pub after_word : List ℕ → List (List ℕ) → Option (List (List ℕ))
after_word first [] = None
after_word first (word ∷ more) = if bytes_eq word first then Some more else None

-- this word, and words that stand for 1 to 64 rules
pub record IsByRules (first : List ℕ) (texts : List (List ℕ)) (rules : List Rule) : Type 0 where
  pub words : List (List ℕ)
  pub are : after_word first texts ≡ Some words
  pub spell : Spell words rules

-- the rules that words stand for, without each that an earlier one covers
pub record AreNamed (words : List (List ℕ)) (rules : List Rule) : Type 0 where
  pub all : List Rule
  pub spell : Spell words all
  pub are : rules ≡ uncovered all

-- `select` and rules
abbrev pub IsSelection : List (List ℕ) → List Rule → Type 0
IsSelection = IsByRules (codes "select")

-- `filter` and rules
abbrev pub IsFiltering : List (List ℕ) → List Rule → Type 0
IsFiltering = IsByRules (codes "filter")

-- words that are none of the forms
pub record IsNoForm (texts : List (List ℕ)) : Type 0 where
  pub no_command : command_of texts ≡ None
  pub no_selection : (rules : List Rule) → ¬ IsSelection texts rules
  pub no_filtering : (rules : List Rule) → ¬ IsFiltering texts rules
