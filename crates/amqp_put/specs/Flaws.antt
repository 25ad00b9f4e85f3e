-- Why fields are not written.
use Rattle.std.specs.Prelude.{List, [], ◌∷◌, Option, None}
use Rattle.amqp_entries.specs.Flaws.{first_of}
use Rattle.amqp_entries.specs.declared.errors.PutError.{PutError}

-- the first of these
abbrev pub first_flaw : List (Option PutError) → Option PutError
first_flaw [] = None
first_flaw (flaw ∷ flaws) = first_of flaw (first_flaw flaws)
