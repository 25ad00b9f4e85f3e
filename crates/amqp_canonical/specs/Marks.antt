-- The entries of a table in ascending key order.
use Rattle.std.specs.Prelude.{◌≡◌, ◌≢◌, ◌<◌, ◌⊎◌, ℕ, suc, List, [], ◌∷◌, length, map, drop}
use Rattle.std.specs.Prelude.{slice_index_or, Bool, false, if◌then◌else◌, All, Option, Some, None}
use Rattle.std.specs.declared.cmp.Ordering.TheVariants.{Greater}
use Rattle.std.specs.Ordering.{nat_cmp}
use Rattle.std.specs.Cmp.Lexicographic.{slice_cmp}
use Rattle.std.specs.BTreeMap.{is_at}
use Rattle.amqp_types.specs.Judging.{Judged, took, past, fault}
use Rattle.amqp_types.specs.Settling.{last_at, settled}
use Rattle.amqp_types.specs.Values.{Entry, FieldValue, void_value}
use Rattle.amqp_types.specs.ValueJudging.{filled, judge_entry, judge_value}
use Rattle.amqp_canonical.specs.Judgements.{IsBelow}
use Rattle.amqp_canonical.specs.Leads.{leading, key_at}
use Rattle.amqp_canonical.specs.Writes.{IsRead, IsCopied, IsFilled, entry_bytes, items_of}
use Rattle.amqp_canonical.specs.Places.{ArePlaced}
use Rattle.amqp_canonical.specs.declared.marks.EntryMark.{EntryMark}

-- the entry at a place of a table's content
abbrev pub entry_at : ℕ → List ℕ → ℕ → Judged Entry
entry_at depth_left content place = judge_entry (judge_value depth_left) (drop place content)

-- the entry that was decoded
abbrev pub judged_entry : Judged Entry → Entry
judged_entry (took e n) = e
judged_entry past = ([], void_value)
judged_entry (fault bad) = ([], void_value)

-- the entry at a mark's place
abbrev pub marked_entry : ℕ → List ℕ → EntryMark → Entry
marked_entry depth_left content mark = judged_entry (entry_at depth_left content mark.place)

-- all entries of a table's content
abbrev pub entries_in : ℕ → List ℕ → List Entry
entries_in depth_left content = items_of (filled (judge_entry (judge_value depth_left)) 0 content)

-- what fills a table, where values nest so deep
abbrev pub AreEntries : ℕ → List ℕ → Type 0
AreEntries depth_left content = IsFilled (filled (judge_entry (judge_value depth_left)) 0 content)

-- ---- marks

-- The mark's numbers are the first bytes and the length of the key at its place, and a size that is
-- not 0 is that of the entry there, which is copied.
pub record IsMarkOf (content : List ℕ) (mark : EntryMark) : Type 0 where
  pub first : mark.lead ≡ leading 8 (key_at content mark)
  pub next : mark.more ≡ leading 2 (drop 8 (key_at content mark))
  pub key_length : mark.key_size ≡ length (key_at content mark)
  pub copied : mark.size ≢ 0 → (depth_left : ℕ) → IsRead (entry_at depth_left content mark.place)
      → IsCopied entry_bytes (drop mark.place content) mark.size
      (entry_at depth_left content mark.place)

-- an entry was decoded at each mark's place
abbrev pub AreRead : ℕ → List ℕ → List EntryMark → Type 0
AreRead depth_left content marks =
    All (λ mark. IsRead (entry_at depth_left content mark.place)) marks

-- the marks are those of all entries, as they stand
pub record AreMarks (depth_left : ℕ) (content : List ℕ) (marks : List EntryMark) : Type 0 where
  pub read : AreRead depth_left content marks
  pub entries : map (marked_entry depth_left content) marks ≡ entries_in depth_left content
  pub placed : ArePlaced (λ mark. (marked_entry depth_left content mark).0)
      (λ mark. mark.place) marks

-- ---- marks in order

-- the key comes after the previous one
abbrev pub Ascends : List ℕ → EntryMark → EntryMark → Type 0
Ascends content previous mark = IsBelow (key_at content previous) (key_at content mark)

-- the key comes after the previous one, or is the same at a later place
abbrev pub Follows : List ℕ → EntryMark → EntryMark → Type 0
Follows content previous mark =
    Ascends content previous mark
    ⊎ ((key_at content previous ≡ key_at content mark) × (previous.place < mark.place))

-- what is found where there is no mark
abbrev pub blank : EntryMark
blank = record { lead = 0; place = 0; more = 0; key_size = 0; size = 0 }

-- each follows the one before it
abbrev pub AreInOrder : List ℕ → List EntryMark → Type 0
AreInOrder content marks =
    (k : ℕ) → suc k < length marks
    → Follows content (slice_index_or marks k blank) (slice_index_or marks (suc k) blank)

-- the key of each comes after that of the one before it
abbrev pub AreAscending : List ℕ → List EntryMark → Type 0
AreAscending content marks =
    (k : ℕ) → suc k < length marks
    → Ascends content (slice_index_or marks k blank) (slice_index_or marks (suc k) blank)

-- the next entry has the same key
abbrev pub ties : Entry → List Entry → Bool
ties e [] = false
ties e (next ∷ es) = is_at (slice_cmp nat_cmp e.0) next.0

-- of neighbours with one key the last
abbrev pub last_of_ties : List Entry → List Entry
last_of_ties [] = []
last_of_ties (e ∷ es) = if ties e es then last_of_ties es else e ∷ last_of_ties es

-- The marks stand at entries, and of neighbours with one key the last ones are the table that
-- the content is.
pub record AreOfTable (depth_left : ℕ) (content : List ℕ) (marks : List EntryMark) : Type 0 where
  pub read : AreRead depth_left content marks
  pub table : last_of_ties (map (marked_entry depth_left content) marks)
      ≡ settled (entries_in depth_left content)

-- ---- the next key

-- the key comes after `last`, where there is one
abbrev pub IsAfter : Option (List ℕ) → List ℕ → Type 0
IsAfter None key = Unit {0}
IsAfter (Some last) key = IsBelow last key

-- no key was found, or this key is not above it
abbrev pub ComesFirst : {K : Type 0} → (K → List ℕ) → List ℕ → Option (ℕ × K) → Type 0
ComesFirst view key None = Unit {0}
ComesFirst view key (Some found) = slice_cmp nat_cmp key (view found.1) ≢ Greater

-- The key is the least one after `last`, and the value that of the last entry with this key.
pub record IsNext (last : Option (List ℕ)) (es : List Entry)
    (key : List ℕ) (v : FieldValue) : Type 0 where
  pub after : IsAfter last key
  pub value : last_at key es ≡ Some v
  pub least : (other : List ℕ) (w : FieldValue) → IsAfter last other
      → last_at other es ≡ Some w → IsBelow other key → ⊥

-- no key comes after `last`
abbrev pub HasNoNext : Option (List ℕ) → List Entry → Type 0
HasNoNext last es =
    (other : List ℕ) (w : FieldValue) → IsAfter last other → last_at other es ≡ Some w → ⊥

-- the place of the next entry, with its key
pub record IsNextAt (depth_left : ℕ) (content : List ℕ) (last : Option (List ℕ))
    (es : List Entry) (place : ℕ) (key : List ℕ) : Type 0 where
  pub read : IsRead (entry_at depth_left content place)
  pub key_is : (judged_entry (entry_at depth_left content place)).0 ≡ key
  pub next : IsNext last es key (judged_entry (entry_at depth_left content place)).1

-- the next entry is found, or there is none
abbrev pub FindsNext : {K : Type 0} → (K → List ℕ) → ℕ → List ℕ
    → Option (List ℕ) → List Entry → Option (ℕ × K) → Type 0
FindsNext view depth_left content last es None = HasNoNext last es
FindsNext view depth_left content last es (Some found) =
    IsNextAt depth_left content last es found.0 (view found.1)
