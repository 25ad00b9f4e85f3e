-- What a run of `make` prints.
use Rattle.std.specs.Prelude.{◌≡◌, ◌⊎◌, ℕ, List, [], ◌∷◌, ◌++◌, length, codes}
use Rattle.std.specs.Fmt.{decimal}
use Rattle.amqp_types.specs.Levels.{plain}
use Rattle.amqp_stream.specs.Ends.{Store, Gains, Rises}
use Rattle.amqp_stream.specs.Writing.{IsPrefix}
use Rattle.amqp_stream.specs.Canonicalizing.{canon_of}
use Rattle.amqp_stream.specs.Made.{made}
use Rattle.amqp_program.specs.Reports.{max_payload}

-- the number of bytes of the n frames that are made
abbrev pub bytes_read : ℕ → ℕ
bytes_read n = length (made n)

-- the number of their canonical bytes
abbrev pub bytes_written : ℕ → ℕ
bytes_written n = length (canon_of plain max_payload (made n))

-- a line with the three numbers
abbrev pub make_text : ℕ → List ℕ
make_text n =
    codes "frames "
    ++ (decimal n
    ++ (codes " in "
    ++ (decimal (bytes_read n) ++ (codes " out " ++ (decimal (bytes_written n) ++ 10 ∷ [])))))

-- The text was printed, or memory ran out before it, or a part of its front was printed and then
-- the sink failed. k is the sink before the run and l after it.
pub record RunsMake (n : ℕ) (k l : Store) (status : ℕ) : Type 0 where
  pub written : List ℕ
  pub gains : Gains k l written
  pub ends : ((status ≡ 0) × (written ≡ make_text n))
      ⊎ (((status ≡ 3) × (written ≡ []))
      ⊎ ((status ≡ 5) × IsPrefix written (make_text n) × Rises k.faults l.faults))
