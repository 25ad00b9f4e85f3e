-- What a content was found to be.
use Rattle.std.specs.Prelude.{◌≡◌, ◌<◌, ◌^◌, ℕ, List, length, Option, None}
use Rattle.amqp_entries.specs.Contents.{array_flaw, canonical_entries, canonical_values, table_flaw}
use Rattle.amqp_entries.specs.declared.errors.PutError.{PutError}
use Rattle.amqp_entries.specs.declared.contents.Found.{Found}

-- The size is that of the canonical bytes, or no size of a content where there is a flaw. Content
-- that is called canonical is its canonical bytes.
pub record IsFound (flaw : Option PutError) (content canonical : List ℕ) (found : Found) : Type 0
  where
    pub size_is : flaw ≡ None → found.size ≡ length canonical
    pub few : flaw ≡ None → found.size < 2 ^ 32
    pub flawless : found.size < 2 ^ 32 → flaw ≡ None
    pub copied : flaw ≡ None → found.canonical ≡ 1 → content ≡ canonical

-- of the content of a table
abbrev pub IsFoundTable : ℕ → List ℕ → Found → Type 0
IsFoundTable depth_left content found =
    IsFound (table_flaw depth_left content) content (canonical_entries depth_left content) found

-- of the content of an array
abbrev pub IsFoundArray : ℕ → List ℕ → Found → Type 0
IsFoundArray depth_left content found =
    IsFound (array_flaw depth_left content) content (canonical_values depth_left content) found
