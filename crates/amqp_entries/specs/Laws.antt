-- The laws of what is appended to a content.
use Rattle.std.specs.Prelude.{◌≡◌, ℕ, Bool, IsTrue, List, [], ◌∷◌, ◌++◌, Ok, None}
use Rattle.amqp_types.specs.Constants.{inner_depth}
use Rattle.amqp_types.specs.Judging.{IsBytes}
use Rattle.amqp_types.specs.Settling.{IsRising}
use Rattle.amqp_types.specs.Values.{FieldValue, Entry}
use Rattle.amqp_types.specs.ValueBytes.{tagged_bytes}
use Rattle.amqp_canonical.specs.Judgements.{AreCanonicalEntries, AreCanonicalValues, Fills}
use Rattle.amqp_canonical.specs.Writes.{entry_bytes}
use Rattle.amqp_entries.specs.Contents.{read_entries, read_values, table_in}
use Rattle.amqp_entries.specs.Flaws.{text_flaw}
use Rattle.amqp_entries.specs.Written.{IsWritten}

-- content that was decoded to some entries is decoded to these and one more, once that is appended
abbrev pub AppendedEntryIsDecoded : Type 0
AppendedEntryIsDecoded = (content : List ℕ) (es : List Entry) (e : Entry) → IsBytes content
    → read_entries inner_depth content ≡ Ok es
    → text_flaw e.0 ≡ None → IsWritten e.1
    → read_entries inner_depth (content ++ entry_bytes e) ≡ Ok (es ++ e ∷ [])

-- the same of the values of an array
abbrev pub AppendedValueIsDecoded : Type 0
AppendedValueIsDecoded = (content : List ℕ) (vs : List FieldValue) (v : FieldValue)
    → IsBytes content → read_values inner_depth content ≡ Ok vs
    → IsWritten v → read_values inner_depth (content ++ tagged_bytes v) ≡ Ok (vs ++ v ∷ [])

-- Canonical entries stay canonical where the appended one comes after them in ascending key order.
-- What judges them says so, and they are the table.
pub record AppendedInOrderIsCanonical : Type 0 where
  pub none : AreCanonicalEntries [] []
  pub next : (content : List ℕ) (es : List Entry) (e : Entry) → AreCanonicalEntries content es
      → IsRising (es ++ e ∷ []) → AreCanonicalEntries (content ++ entry_bytes e) (es ++ e ∷ [])
  pub judged : (content : List ℕ) (es : List Entry) (canonical : Bool)
      → AreCanonicalEntries content es → read_entries inner_depth content ≡ Ok es
      → Fills AreCanonicalEntries canonical content (read_entries inner_depth content)
      → IsTrue canonical
  pub table : (content : List ℕ) (es : List Entry) → AreCanonicalEntries content es
      → read_entries inner_depth content ≡ Ok es → table_in inner_depth content ≡ es

-- canonical values stay canonical whatever is appended
pub record AppendedValuesAreCanonical : Type 0 where
  pub none : AreCanonicalValues [] []
  pub next : (content : List ℕ) (vs : List FieldValue) (v : FieldValue)
      → AreCanonicalValues content vs
      → AreCanonicalValues (content ++ tagged_bytes v) (vs ++ v ∷ [])
