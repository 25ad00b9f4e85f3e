-- The command that has a number.
use Rattle.std.proofs.Common.{◌≡◌, ℕ, ◌≤◌, Bool, List, [], ◌∷◌, Option, Some, None, arith}
use Rattle.std.specs.Prelude.{codes, if◌then◌else◌}
use Rattle.std.specs.Str.{bytes_eq}
use Rattle.std.specs.Option.{option_map}
use Rattle.amqp_types.specs.Numerals.{number_named}
use Rattle.amqp_types.proofs.Numerals.{named}
use Rattle.amqp_stream.specs.Made.{most_frames}
use Rattle.amqp_program.specs.declared.command.Command.{Command}
use Rattle.amqp_program.specs.declared.command.Command.TheVariants as commands
use Rattle.amqp_program.specs.Reports.{max_payload}
use Rattle.amqp_program.specs.Commands.{command_named, command_of, recut_by}

-- its number is within the limits
abbrev Fits : Command → Type 0
Fits (commands.Make n) = n ≤ most_frames
Fits (commands.Recut n) = (1 ≤ n) × (n ≤ max_payload)
Fits other = Unit {0}

alone_fits : (word : List ℕ) (c : Command) → command_named word ≡ Some c → Fits c
alone_fits word c e = grind arith

numbered : (make cuts : Bool) (frames size : Option ℕ) → ((n : ℕ) → frames ≡ Some n → n ≤ most_frames) → ((n : ℕ) → size ≡ Some n → n ≤ max_payload)
    → (c : Command) → (if make then option_map commands.Make frames else (if cuts then recut_by size else None)) ≡ Some c → Fits c
numbered make cuts frames size f g c e = grind arith

fits : (words : List (List ℕ)) (c : Command) → command_of words ≡ Some c → Fits c
fits [] c e = absurd cc
fits (word ∷ []) c e = alone_fits word c e
fits (word ∷ number ∷ []) c e =
    numbered (bytes_eq word (codes "make")) (bytes_eq word (codes "recut")) (number_named most_frames number) (number_named max_payload number)
    (λ n e. (named most_frames number n e).few) (λ n e. (named max_payload number n e).few) c e
fits (word ∷ number ∷ other ∷ more) c e = absurd cc

-- `make` is asked for at most as many frames as may be made
pub make_few : (words : List (List ℕ)) (n : ℕ) → command_of words ≡ Some (commands.Make n) → n ≤ most_frames
make_few words n e = fits words (commands.Make n) e

-- `recut` is asked for a size from 1 to the limit on payloads
pub recut_fits : (words : List (List ℕ)) (n : ℕ) → command_of words ≡ Some (commands.Recut n) → (1 ≤ n) × (n ≤ max_payload)
recut_fits words n e = fits words (commands.Recut n) e
