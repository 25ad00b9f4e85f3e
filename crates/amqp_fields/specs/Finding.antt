-- What calls that walk over bytes return.
use Rattle.std.specs.Prelude.{◌≡◌, ℕ, ◌+◌, ◌-◌, List, length, get_or}
use Rattle.std.specs.Prelude.{Result, Ok, Err}
use Rattle.amqp_types.specs.Judging.{Judged, Fault, took}
use Rattle.amqp_fields.specs.declared.node.Node.{Node}
use Rattle.amqp_fields.specs.declared.listing.Step.{Step}
use Rattle.amqp_fields.specs.declared.listing.Filled.{Filled}
use Rattle.amqp_fields.specs.Nodes.{blank}
use Rattle.amqp_fields.specs.Listed.{joined}
use Rattle.amqp_fields.specs.Listing.{Grows, listing}

-- The nodes are put, and the number of bytes that they stand for is returned. (Where there are
-- none, nothing is said.)
abbrev pub Lists : Judged (List Node) → List Node → ℕ → List Node → Step → Type 0
Lists (took added used) old count new step =
    (step.used ≡ used) × Grows (listing old count) (listing new step.count) added
Lists listed old count new step = Unit {0}

-- the same of things that fill some bytes, each of which has a group of nodes, and how many
-- these things are
abbrev pub ListsAll : Result (List (List Node)) Fault → List Node → ℕ → List Node → Filled → Type 0
ListsAll (Ok groups) old count new filled =
    (filled.items ≡ length groups)
    × Grows (listing old count) (listing new filled.count) (joined groups)
ListsAll (Err bad) old count new filled = Unit {0}

-- the same, whatever the number of these bytes
abbrev pub Counts : Judged (List Node) → List Node → ℕ → List Node → ℕ → Type 0
Counts (took added used) old count new result = Grows (listing old count) (listing new result) added
Counts listed old count new result = Unit {0}

-- what is known of the node of an entry before its tag: its key stands after a length of one byte
abbrev pub key_label : ℕ → List ℕ → Node
key_label end bytes =
    record blank { key_start = end - length bytes + 1; key_length = get_or bytes 0 0 }
