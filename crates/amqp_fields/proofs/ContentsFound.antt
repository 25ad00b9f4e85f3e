-- The nodes of the content of a table or an array that stands alone: those of its entries or values, at most one a byte.
use Rattle.std.proofs.Common.{◌≡◌, ℕ, ◌-◌, ◌<◌, ◌≤◌, ◌^◌, Bool, List, length, Result, Ok, Err, refl, sym, subst, ◌∙◌, arith}
use Rattle.amqp_fields.proofs.Names.{Fault, inner_depth, filled, judge_entry, judge_value, IsFilled, Node, Filled, ListsAll, entries_nodes, joined}
use Rattle.amqp_fields.proofs.Names.{listed_entry, listed_value, nodes_in, values_nodes, AreNodes, MeansElement, MeansEntry, MeansValue, blank, LieIn}
use Rattle.amqp_types.specs.Values.{Entry, FieldValue}
use Rattle.amqp_canonical.specs.Judgements.{Fills}
use Rattle.amqp_fields.specs.Contents.{entries_in, values_in}
use Rattle.amqp_fields.specs.Reading.{NeedsMore, StandInFront}
use Rattle.amqp_fields.proofs.Agreeing.{AgreeAll}
use Rattle.amqp_fields.proofs.Answering.{ArePut, grown, put_front, put_length, put_needs}
use Rattle.amqp_fields.proofs.Groups.{AreFound, at_front, filled_found}
use Rattle.amqp_fields.proofs.Lying.{none_lie}
use Rattle.amqp_fields.proofs.ValuesFound.{entry_found, item_found, value_found}

-- ---- what fills some bytes

-- items that are judged fill the bytes
pub judged_fills : {A : Type 0} {IsCanonical : List ℕ → List A → Type 0} {canonical : Bool} {bytes : List ℕ} {read : Result (List A) Fault}
    → Fills IsCanonical canonical bytes read → IsFilled read
judged_fills h = rw h.is tt

things_of : {A : Type 0} (read : Result (List A) Fault) → IsFilled read → (xs : List A) × (read ≡ Ok xs)
things_of (Ok xs) h = (xs, refl)
things_of (Err bad) h = absurd h

module _ {A : Type 0} {Means : Node → List Node → A → Type 0} {size : ℕ} {read : Result (List A) Fault} {listed : Result (List (List Node)) Fault}
    (all : AgreeAll (AreFound Means 0 size (size - 0)) read listed) where
  content_means : (xs : List A) → read ≡ Ok xs → AreNodes Means xs (nodes_in listed)
  content_means xs is = let one = all.there xs is in rw one.1 one.2.means

  content_few : IsFilled read → length (nodes_in listed) ≤ size
  content_few fills =
      let things = things_of read fills in
      let one = all.there things.0 things.1 in
      rw one.1 (omega arith)

  content_put : (old new : List Node) (filling : Filled) → size < 2 ^ 32 → IsFilled read → ListsAll listed old 0 new filling
      → ArePut (nodes_in listed) old 0 new filling.count
  content_put old new filling few fills h =
      let things = things_of read fills in
      let one = all.there things.0 things.1 in
      rw one.1 (grown (joined one.0) old new 0 filling.count (rw one.1 at h).1 (omega arith))

  -- the nodes of what fills some bytes lie in these
  pub content_lies : LieIn 0 size (nodes_in listed)
  content_lies = by_listed listed refl
    where
      by_listed : (r : Result (List (List Node)) Fault) → listed ≡ r → LieIn 0 size (nodes_in r)
      by_listed (Err bad) is = none_lie
      by_listed (Ok groups) is =
          let xs = all.back groups is in
          let one = all.there xs.0 xs.1 in
          subst (λ r. LieIn 0 size (nodes_in r)) (sym one.1 ∙ is) one.2.lie

-- ---- entries

module _ (content : List ℕ) where
  -- entries that fill a table are listed
  pub entries_all : AgreeAll (AreFound (MeansEntry (MeansValue inner_depth content) content) 0 (length content) (length content - 0)) (entries_in content)
      (filled (listed_entry (listed_value inner_depth) (length content)) 0 content)
  entries_all =
      filled_found (judge_entry (judge_value inner_depth)) (listed_entry (listed_value inner_depth) (length content))
      (MeansEntry (MeansValue inner_depth content) content) content 0 (length content)
      (entry_found inner_depth (value_found inner_depth) content 0 (length content)) 0 content (at_front content)

  -- the nodes of entries mean them
  pub entries_mean : (entries : List Entry) → entries_in content ≡ Ok entries
      → AreNodes (MeansEntry (MeansValue inner_depth content) content) entries (entries_nodes content)
  entries_mean = content_means entries_all

  -- entries have at most as many nodes as bytes
  pub entries_few : IsFilled (entries_in content) → length (entries_nodes content) ≤ length content
  entries_few = content_few entries_all

module _ (content : List ℕ) (old new : List Node) (filling : Filled) (few : length content < 2 ^ 32)
    (fills : IsFilled (filled (judge_entry (judge_value inner_depth)) 0 content))
    (h : ListsAll (filled (listed_entry (listed_value inner_depth) (length content)) 0 content) old 0 new filling)
  where
    entries_put : ArePut (entries_nodes content) old 0 new filling.count
    entries_put = content_put (entries_all content) old new filling few fills h

    -- the list is as long as it was
    pub entries_length : length new ≡ length old
    entries_length = put_length (entries_nodes content) old new 0 filling.count entries_put

    -- the nodes of the entries stand in front, where the list has room for them
    pub entries_listed : filling.count ≤ length new → StandInFront (entries_nodes content) new filling.count
    entries_listed room = put_front (entries_nodes content) old new filling.count entries_put room

    -- and else it needs as many as they are
    pub entries_needed : length new < filling.count → NeedsMore (entries_nodes content) (length old) filling.count
    entries_needed more = put_needs (entries_nodes content) old new filling.count entries_put more

-- ---- values

module _ (content : List ℕ) where
  -- values that fill an array are listed
  pub values_all : AgreeAll (AreFound (MeansElement (MeansValue inner_depth content)) 0 (length content) (length content - 0)) (values_in content)
      (filled (listed_value inner_depth (length content) blank) 0 content)
  values_all =
      filled_found (judge_value inner_depth) (listed_value inner_depth (length content) blank) (MeansElement (MeansValue inner_depth content))
      content 0 (length content) (item_found inner_depth (value_found inner_depth) content 0 (length content)) 0 content (at_front content)

  -- the nodes of values mean them
  pub values_mean : (values : List FieldValue) → values_in content ≡ Ok values
      → AreNodes (MeansElement (MeansValue inner_depth content)) values (values_nodes content)
  values_mean = content_means values_all

  -- values have at most as many nodes as bytes
  pub values_few : IsFilled (values_in content) → length (values_nodes content) ≤ length content
  values_few = content_few values_all

module _ (content : List ℕ) (old new : List Node) (filling : Filled) (few : length content < 2 ^ 32)
    (fills : IsFilled (filled (judge_value inner_depth) 0 content))
    (h : ListsAll (filled (listed_value inner_depth (length content) blank) 0 content) old 0 new filling) where
  values_put : ArePut (values_nodes content) old 0 new filling.count
  values_put = content_put (values_all content) old new filling few fills h

  -- the list is as long as it was
  pub values_length : length new ≡ length old
  values_length = put_length (values_nodes content) old new 0 filling.count values_put

  -- the nodes of the values stand in front, where the list has room for them
  pub values_listed : filling.count ≤ length new → StandInFront (values_nodes content) new filling.count
  values_listed room = put_front (values_nodes content) old new filling.count values_put room

  -- and else it needs as many as they are
  pub values_needed : length new < filling.count → NeedsMore (values_nodes content) (length old) filling.count
  values_needed more = put_needs (values_nodes content) old new filling.count values_put more
