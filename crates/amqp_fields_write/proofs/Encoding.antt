-- What is written encodes what heads and nodes mean.
use Rattle.amqp_fields_write.proofs
use Rattle.amqp_fields_write.specs
use proofs.Names.{◌≡◌, ℕ, ◌+◌, ◌<◌, ◌^◌, List, length, take, drop, Some, sym, ap, ◌∙◌, arith, Ok, Result, Err, drop_at, take_at, plain, Level, strict, IsBytes}
use proofs.Names.{SpellsFrames, Node, made_frames, at_head, AreNodes, IfOk, is_too_long, inner_depth, written, WriteError}
use proofs.Names.given
use proofs.Names.failures
use Rattle.amqp_wire.specs.Frames.{Frame}
use specs.Meant.{TellFrames, TellsEntry, TellsValue}
use Rattle.amqp_wire.proofs.Sequences.{one_sequence}
use Rattle.amqp_wire.proofs.Strictness.{one_strict}
use specs.WritingLaws.{CanonicalWhereKeysAscend, HeadsMeanOne}
use proofs.Ordered.{InOrder, plain_order}
use proofs.MeantFramesMade.{frames_fit, at_ok, frames_told, at_suits}
use Rattle.amqp_types.specs.Values.{Entry, FieldValue}
use specs.Made.{Made, Maker, made_each, made_entry, made_value}
use specs.Making.{AreWritten, EncodesEntries, EncodesFrames, EncodesUnless, EncodesValues, IsEncoded, RefusesFirst, RefusesLong, SpellsEntries, SpellsValues}
use specs.Making.{Suits, TellEntries, TellValues, Writes, made_entries, made_values, made_whole}
use specs.Canonical.{AreCanonicalInOrder}
use proofs.MadeOfParts.{fails}
use proofs.MeantValuesMade.{Fits, IsLongBy, entries_fit, value_fits, values_fit, MakesMeant, each_told, entry_told, value_told}

-- what is made of heads encodes the frames that they mean
pub made_encodes : (level : Level) (pool : List ℕ) (nodes : List Node) (heads : List given.Head) (m : ℕ) (bytes : List ℕ) (frames : List Frame) → IsBytes pool
    → InOrder level pool nodes → m < 2 ^ 32 → made_frames pool nodes m 0 heads ≡ Ok bytes → TellFrames pool nodes heads frames
    → SpellsFrames level (Some m) bytes frames
made_encodes level pool nodes heads m bytes frames fits order few is told =
    rw is at (frames_fit level pool fits nodes m order few 0 heads frames told)

-- heads and nodes that are written mean one sequence of frames
pub heads_mean_one : HeadsMeanOne
heads_mean_one pool nodes heads m bytes fs gs fits few is one two =
    one_sequence plain (Some m) bytes fs gs (made_encodes plain pool nodes heads m bytes fs fits plain_order few is one)
    (made_encodes plain pool nodes heads m bytes gs fits plain_order few is two)

-- what is made is canonical, where keys ascend and content that stands in the pool is canonical
pub canonical_made : CanonicalWhereKeysAscend
canonical_made pool nodes heads m bytes frames fits few keys content is meant =
    let spelled = made_encodes strict pool nodes heads m bytes frames fits (record { is = (keys, content) }) few is meant in
    (one_strict strict (Some m) bytes frames spelled).only bytes spelled

-- ---- what is written

front_of : (old bytes : List ℕ) (count : ℕ) → count ≡ length bytes → take count (written old 0 bytes) ≡ bytes
unfolding written
front_of old bytes count is = take_at bytes (drop (0 + length bytes) old) count (sym is)

behind_of : (old bytes : List ℕ) (count : ℕ) → count ≡ length bytes → drop count (written old 0 bytes) ≡ drop count old
unfolding written
behind_of old bytes count is =
    let whole : 0 + length bytes ≡ count = omega arith in
    drop_at bytes (drop (0 + length bytes) old) count (sym is) ∙ ap (λ n. drop n old) whole

-- a content that stands alone is what was made
whole_ok : (made : Made) (bytes : List ℕ) → made_whole made ≡ Ok bytes → made ≡ Ok bytes
whole_ok (Ok content) bytes h = (fails (is_too_long content) (Ok content) _ _ h).1
whole_ok (Err bad) bytes h = absurd cc

-- ---- what was made encodes what is meant, and what is meant is made, where what is meant fits

module _ {A : Type 0} (Means : A → Type 0) (Spells : List ℕ → A → Type 0) (Reason : A → WriteError → Type 0) (made : Result (List ℕ) WriteError)
    (fit : (x : A) → Means x → Suits (Reason x) made (λ bytes. Spells bytes x)) (old new : List ℕ) where
  front_spelled : (x : A) (count : ℕ) → Means x → AreWritten made old new count → Spells (take count new) x
  front_spelled x count means h =
      let bytes : take count new ≡ h.bytes = ap (take count) h.written_is ∙ front_of old h.bytes count h.count_is in
      rw bytes (rw h.made_is at (fit x means))

  encoded : (result : Result ℕ WriteError) → ((bytes : List ℕ) → made ≡ Ok bytes → (x : A) × Means x)
      → Writes made old new result → IfOk result (IsEncoded Means Spells old new)
  encoded (Ok count) told h =
      let one = told h.bytes h.made_is in
      record {
        thing = one.0;
        means = one.1;
        within = h.within;
        spelled = front_spelled one.0 count one.1 h;
        behind = ap (drop count) h.written_is ∙ behind_of old h.bytes count h.count_is;
      }
  encoded (Err error) told h = tt

  complete : (result : Result ℕ WriteError) → ((x : A) (n : ℕ) → Reason x (failures.TooSmall n))
      → Writes made old new result → (x : A) → Means x → EncodesUnless (Reason x) Spells x new result
  complete (Ok count) small h x means = front_spelled x count means h
  complete (Err (failures.Refused head place why)) small h x means = rw h.0 at (fit x means)
  complete (Err (failures.TooSmall needed)) small h x means = small x needed

  both : (result : Result ℕ WriteError) → ((bytes : List ℕ) → made ≡ Ok bytes → (x : A) × Means x) → ((x : A) (n : ℕ) → Reason x (failures.TooSmall n))
      → Writes made old new result
      → IfOk result (IsEncoded Means Spells old new) × ((x : A) → Means x → EncodesUnless (Reason x) Spells x new result)
  both result told small h = (encoded result told h, complete result small h)

-- ---- frames

module _ (pool : List ℕ) (nodes : List Node) (heads : List given.Head) (m : ℕ) (old new : List ℕ) (result : Result ℕ WriteError)
    (fits : IsBytes pool) (few : m < 2 ^ 32) (h : Writes (made_frames pool nodes m 0 heads) old new result) where
  frames_by : IfOk result (EncodesFrames pool nodes heads m old new) × ((frames : List Frame) → TellFrames pool nodes heads frames
      → EncodesUnless (RefusesFirst plain pool nodes m 0 heads frames) (SpellsFrames plain (Some m)) frames new result)
  frames_by =
      both (TellFrames pool nodes heads) (SpellsFrames plain (Some m)) (RefusesFirst plain pool nodes m 0 heads) (made_frames pool nodes m 0 heads)
      (frames_fit plain pool fits nodes m plain_order few 0 heads) old new result (frames_told pool nodes m 0 heads) (λ x n. tt) h

  -- the bytes that are written encode frames that heads and nodes mean
  pub frames_encoded : IfOk result (EncodesFrames pool nodes heads m old new)
  frames_encoded = frames_by.0

  -- frames that are meant are encoded, or the first is refused that is too long
  pub frames_complete : (frames : List Frame) → TellFrames pool nodes heads frames
      → EncodesUnless (RefusesFirst plain pool nodes m 0 heads frames) (SpellsFrames plain (Some m)) frames new result
  frames_complete = frames_by.1

-- where keys ascend and content is canonical, what is written is canonical
pub frames_canonical : (pool : List ℕ) (nodes : List Node) (heads : List given.Head) (m : ℕ) (old new : List ℕ) (result : Result ℕ WriteError)
    → IsBytes pool → m < 2 ^ 32 → Writes (made_frames pool nodes m 0 heads) old new result
    → IfOk result (λ count. AreCanonicalInOrder pool nodes heads (take count new))
frames_canonical pool nodes heads m old new (Ok count) fits few h = λ keys content frames meant.
    ap (take count) h.written_is ∙ front_of old h.bytes count h.count_is
    ∙ canonical_made pool nodes heads m h.bytes frames fits few keys content h.made_is meant
frames_canonical pool nodes heads m old new (Err error) fits few h = tt

-- ---- contents that stand alone

-- a content that things fill, each of which is made of a node and those inside it
alone : {A : Type 0} (make : Maker) (Means : Node → List Node → A → Type 0) (Spells : List ℕ → List A → Type 0) (pool : List ℕ) (nodes : List Node)
    (old new : List ℕ) (result : Result ℕ WriteError) → IsBytes pool → MakesMeant make Means
    → ((xs : List A) → AreNodes Means xs nodes
    → Fits (IsLongBy plain pool (length nodes) nodes) (made_each make (length nodes) 0 nodes) (λ bytes. Spells bytes xs))
    → Writes (at_head 0 (made_whole (made_each make (length nodes) 0 nodes))) old new result
    → IfOk result (IsEncoded (λ xs. AreNodes Means xs nodes) Spells old new)
    × ((xs : List A) → AreNodes Means xs nodes → EncodesUnless (RefusesLong (λ content. Spells content xs) pool nodes) Spells xs new result)
alone {A} make Means Spells pool nodes old new result fits one fit h =
    let made = made_each make (length nodes) 0 nodes in
    both (λ xs. AreNodes Means xs nodes) Spells (λ xs. RefusesLong (λ content. Spells content xs) pool nodes) (at_head 0 (made_whole made))
    (λ xs meant. at_suits plain pool fits nodes made (λ bytes. Spells bytes xs) (fit xs meant)) old new result
    (λ bytes is.
    let each = each_told make Means one (length nodes) 0 nodes bytes (whole_ok made bytes (at_ok 0 (made_whole made) bytes is)) in
    (each.thing, each.means)) (λ x n. tt) h

module _ (pool : List ℕ) (nodes : List Node) (old new : List ℕ) (result : Result ℕ WriteError) (fits : IsBytes pool) where
  module _ (h : Writes (made_entries pool nodes) old new result) where
    entries_by : IfOk result (EncodesEntries pool nodes old new) × ((entries : List Entry) → TellEntries pool nodes entries
        → EncodesUnless (RefusesLong (λ content. SpellsEntries content entries) pool nodes) SpellsEntries entries new result)
    entries_by =
        let value = made_value pool inner_depth in
        alone (made_entry pool value) (TellsEntry (TellsValue inner_depth pool) pool) SpellsEntries pool nodes old new result fits
        (entry_told pool inner_depth value (value_told pool inner_depth))
        (λ xs meant. entries_fit plain pool fits inner_depth value (value_fits plain pool fits inner_depth) (length nodes) xs nodes plain_order meant) h

    -- the bytes that are written encode entries that nodes mean
    pub entries_encoded : IfOk result (EncodesEntries pool nodes old new)
    entries_encoded = entries_by.0

    -- entries that are meant are encoded, or one is refused that holds too many bytes
    pub entries_complete : (entries : List Entry) → TellEntries pool nodes entries
        → EncodesUnless (RefusesLong (λ content. SpellsEntries content entries) pool nodes) SpellsEntries entries new result
    entries_complete = entries_by.1

  module _ (h : Writes (made_values pool nodes) old new result) where
    values_by : IfOk result (EncodesValues pool nodes old new) × ((values : List FieldValue) → TellValues pool nodes values
        → EncodesUnless (RefusesLong (λ content. SpellsValues content values) pool nodes) SpellsValues values new result)
    values_by =
        let value = made_value pool inner_depth in
        alone value (TellsValue inner_depth pool) SpellsValues pool nodes old new result fits (value_told pool inner_depth)
        (λ xs meant. values_fit plain pool fits inner_depth value (value_fits plain pool fits inner_depth) (length nodes) xs nodes plain_order meant) h

    -- the bytes that are written encode values that nodes mean
    pub values_encoded : IfOk result (EncodesValues pool nodes old new)
    values_encoded = values_by.0

    -- the same of values
    pub values_complete : (values : List FieldValue) → TellValues pool nodes values
        → EncodesUnless (RefusesLong (λ content. SpellsValues content values) pool nodes) SpellsValues values new result
    values_complete = values_by.1
