-- What is found in a table by a key.
use Rattle.std.specs.Prelude.{◌≡◌, ℕ, List, [], ◌∷◌, Option, Some, None}
use Rattle.amqp_types.specs.Settling.{last_at, value_at}
use Rattle.amqp_types.specs.Values.{Entry, FieldValue}
use Rattle.amqp_types.specs.ValueJudging.{filled, judge_value}
use Rattle.amqp_canonical.specs.Judgements.{IsBelow}
use Rattle.amqp_canonical.specs.Marks.{IsAfter, entry_at, judged_entry}
use Rattle.amqp_canonical.specs.Writes.{IsRead, items_of}

-- The key is the least one of the table after the last one, or of all where there is no last one,
-- and the value is that of the key.
pub record IsLeastAfter (last : Option (List ℕ)) (table : List Entry) (e : Entry) : Type 0 where
  pub after : IsAfter last e.0
  pub value : value_at e.0 table ≡ Some e.1
  pub least : (other : List ℕ) (w : FieldValue) → IsAfter last other
      → value_at other table ≡ Some w → IsBelow other e.0 → ⊥

-- no key of the table comes after the last one
abbrev pub HasNoneAfter : Option (List ℕ) → List Entry → Type 0
HasNoneAfter last table =
    (other : List ℕ) (w : FieldValue) → IsAfter last other → value_at other table ≡ Some w → ⊥

-- the entry with the least key after the last one, or none
abbrev pub FindsAfter : Option (List ℕ) → List Entry → Option Entry → Type 0
FindsAfter last table None = HasNoneAfter last table
FindsAfter last table (Some e) = IsLeastAfter last table e

-- the last of these entries with this key stands at the place
pub record IsLastAt (depth_left : ℕ) (content key : List ℕ)
    (es : List Entry) (place : ℕ) : Type 0 where
  pub read : IsRead (entry_at depth_left content place)
  pub value : last_at key es ≡ Some (judged_entry (entry_at depth_left content place)).1

-- the place of the last of these entries with this key, or none
abbrev pub FindsLast : ℕ → List ℕ → List ℕ → List Entry → Option ℕ → Type 0
FindsLast depth_left content key es None = last_at key es ≡ None
FindsLast depth_left content key es (Some place) = IsLastAt depth_left content key es place

-- the values that fill some bytes
abbrev pub values_in : ℕ → List ℕ → List FieldValue
values_in depth_left content = items_of (filled (judge_value depth_left) 0 content)

-- the first of the values that fill an array, and the bytes of the others
abbrev pub StartsWith : ℕ → List ℕ → Option (FieldValue × List ℕ) → Type 0
StartsWith depth_left content None = values_in depth_left content ≡ []
StartsWith depth_left content (Some found) =
    values_in depth_left content ≡ found.0 ∷ values_in depth_left found.1
