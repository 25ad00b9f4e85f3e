-- What writing returns, and what it leaves in the buffer.
use Rattle.amqp_fields_write.specs
use Rattle.amqp_types.specs as types
use Rattle.std.specs.Prelude.{◌≡◌, ◌⊎◌, ◌≤◌, ◌<◌, ◌+◌, ◌-◌, ◌^◌, ℕ, Bool, List, [], ◌∷◌, ◌++◌}
use Rattle.std.specs.Prelude.{length, take, drop, if◌then◌else◌, Option, Some, None, Result, Ok}
use Rattle.std.specs.Prelude.{Err}
use types.Levels.{Level, plain}
use types.ContentHeaders.{SpellsContentHeader}
use types.MethodSpelling.{SpellsPayload}
use Rattle.amqp_wire.specs.Frames.{Frame, Proto, Meth, Head, Body, Beat, BadBeat}
use types.Constants.{inner_depth}
use types.Strings.{is_too_long}
use types.Values.{Entry, FieldValue}
use types.ValueSpelling.{SpellsEach, SpellsEntry, SpellsValue}
use types.Writing.{written}
use Rattle.amqp_wire.specs.Spelling.{SpellsFrames}
use Rattle.amqp_fields.specs.declared.head.Head as given
use Rattle.amqp_fields.specs.declared.node.Node.{Node}
use specs.declared.refusals.WriteError.{WriteError}
use specs.declared.refusals.WriteError.TheVariants as failures
use specs.declared.refusals.WriteRefusal.{WriteRefusal}
use specs.declared.refusals.WriteRefusal.TheVariants as whys
use specs.Made.{Made, made_each, made_entry, made_value, refuse_head}
use specs.MadeFrames.{at_head, given_length, made_frames, made_payload}
use specs.Makes.{cut_long}
use Rattle.amqp_fields.specs.Meaning.{AreNodes, IsSpan}
use specs.Meant.{TellFrames, TellsEntry, TellsValue}

-- the bytes that were made stand at the front, and what comes after them is as it was
pub record AreWritten (made : Result (List ℕ) WriteError)
    (old new : List ℕ) (count : ℕ) : Type 0 where
  pub bytes : List ℕ
  pub made_is : made ≡ Ok bytes
  pub count_is : count ≡ length bytes
  pub within : count ≤ length old
  pub written_is : new ≡ written old 0 bytes

-- there are so many bytes, or more than 8 bytes count: more than the buffer holds,
-- which is as it was
pub record IsTooSmall (made : Result (List ℕ) WriteError)
    (old new : List ℕ) (needed : ℕ) : Type 0 where
  pub bytes : List ℕ
  pub made_is : made ≡ Ok bytes
  pub needed_is : needed ≡ cut_long (length bytes)
  pub more : length old < needed
  pub unchanged : new ≡ old

-- what was made is written; where something is refused, or the buffer is too small, nothing is
abbrev pub Writes : Result (List ℕ) WriteError → List ℕ → List ℕ → Result ℕ WriteError → Type 0
Writes made old new (Ok count) = AreWritten made old new count
Writes made old new (Err (failures.Refused head node why)) =
    (made ≡ Err (failures.Refused head node why)) × (new ≡ old)
Writes made old new (Err (failures.TooSmall needed)) = IsTooSmall made old new needed

-- Something that is meant is encoded by the bytes at the front, and what comes after
-- them is as it was.
pub record IsEncoded {A : Type 0} (Means : A → Type 0)
    (Spells : List ℕ → A → Type 0) (old new : List ℕ) (count : ℕ) : Type 0 where
  pub thing : A
  pub means : Means thing
  pub within : count ≤ length old
  pub spelled : Spells (take count new) thing
  pub behind : drop count new ≡ drop count old

-- the entries that nodes mean
abbrev pub TellEntries : List ℕ → List Node → List Entry → Type 0
TellEntries pool nodes entries =
    AreNodes (TellsEntry (TellsValue inner_depth pool) pool) entries nodes

-- the values that nodes mean
abbrev pub TellValues : List ℕ → List Node → List FieldValue → Type 0
TellValues pool nodes values = AreNodes (TellsValue inner_depth pool) values nodes

-- entries, one after another
abbrev pub SpellsEntries : List ℕ → List Entry → Type 0
SpellsEntries = SpellsEach (SpellsEntry (SpellsValue plain inner_depth))

-- values, one after another
abbrev pub SpellsValues : List ℕ → List FieldValue → Type 0
SpellsValues = SpellsEach (SpellsValue plain inner_depth)

-- the entries that nodes mean are encoded at the front
abbrev pub EncodesEntries : List ℕ → List Node → List ℕ → List ℕ → ℕ → Type 0
EncodesEntries pool nodes = IsEncoded (TellEntries pool nodes) SpellsEntries

-- the values that nodes mean are
abbrev pub EncodesValues : List ℕ → List Node → List ℕ → List ℕ → ℕ → Type 0
EncodesValues pool nodes = IsEncoded (TellValues pool nodes) SpellsValues

-- the frames that heads and nodes mean, one after another, each with a payload of at most m bytes
abbrev pub EncodesFrames : List ℕ → List Node → List given.Head → ℕ → List ℕ → List ℕ → ℕ → Type 0
EncodesFrames pool nodes heads m =
    IsEncoded (TellFrames pool nodes heads) (SpellsFrames plain (Some m))

-- a content that stands alone, where a length of four bytes counts its bytes
abbrev pub made_whole : Made → Made
made_whole (Ok content) =
    if is_too_long content then refuse_head whys.TooLong else Ok content
made_whole (Err bad) = Err bad

-- the content of a table, made of its entries, or the first node that is refused, or the
-- content as a whole
abbrev pub made_entries : List ℕ → List Node → Result (List ℕ) WriteError
made_entries pool nodes =
    at_head 0 (made_whole
    (made_each (made_entry pool (made_value pool inner_depth)) (length nodes) 0 nodes))

-- the content of an array, made of its values
abbrev pub made_values : List ℕ → List Node → Result (List ℕ) WriteError
made_values pool nodes =
    at_head 0 (made_whole (made_each (made_value pool inner_depth) (length nodes) 0 nodes))

-- the one content or the other
abbrev pub made_alone : Bool → List ℕ → List Node → Result (List ℕ) WriteError
made_alone entries pool nodes =
    if entries then made_entries pool nodes else made_values pool nodes

-- ---- what is not refused

-- it was made of such bytes, and nothing is refused but for such a reason
abbrev pub Suits : {E : Type 0} → (E → Type 0) → Result (List ℕ) E → (List ℕ → Type 0) → Type 0
Suits Reason (Ok bytes) Such = Such bytes
Suits Reason (Err bad) Such = Reason bad

-- The bytes that a node holds: those of its span, where nothing lies inside it, and else those that
-- encode the values or the entries inside it.
abbrev pub HoldsBytes : Level → List ℕ → Node → List Node → List ℕ → Type 0
HoldsBytes level pool node [] content = IsSpan pool node.start node.length content
HoldsBytes level pool node (first ∷ others) content = (d : ℕ)
    × (((values : List FieldValue) × AreNodes (TellsValue d pool) values (first ∷ others)
    × SpellsEach (SpellsValue level d) content values)
    ⊎ ((entries : List Entry)
    × AreNodes (TellsEntry (TellsValue d pool) pool) entries (first ∷ others)
    × SpellsEach (SpellsEntry (SpellsValue level d)) content entries))

-- Of some nodes, which end at a place among all nodes, this one is refused, since it holds more
-- bytes than a length of four bytes counts.
pub record IsLongIn (level : Level) (pool : List ℕ) (end : ℕ)
    (nodes : List Node) (index : Option ℕ) (because : WriteRefusal) : Type 0 where
  pub before : List Node
  pub node : Node
  pub inside : List Node
  pub others : List Node
  pub nodes_are : nodes ≡ before ++ (node ∷ (inside ++ others))
  pub inside_is : node.inside ≡ length inside
  pub index_is : index ≡ Some (end - length (node ∷ (inside ++ others)))
  pub content : List ℕ
  pub holds : HoldsBytes level pool node inside content
  pub long : 2 ^ 32 ≤ length content
  pub because_is : because ≡ whys.TooLong

-- a payload encodes what its frame has; a protocol header has no length
abbrev pub SpellsPayloadOf : Level → List ℕ → Frame → Type 0
SpellsPayloadOf level payload (Proto major minor revision) = ⊥
SpellsPayloadOf level payload (Meth channel m) = SpellsPayload level payload m
SpellsPayloadOf level payload (Head channel header) = SpellsContentHeader level payload header
SpellsPayloadOf level payload (Body channel content) = payload ≡ content
SpellsPayloadOf level payload Beat = payload ≡ []
SpellsPayloadOf level payload (BadBeat channel) = payload ≡ []

-- a head is refused, since the payload that is made for its frame has more than m bytes
pub record IsTooLarge (level : Level) (pool : List ℕ) (nodes : List Node) (m : ℕ)
    (head : given.Head) (frame : Frame) (index : Option ℕ) (because : WriteRefusal) : Type 0 where
  pub payload : List ℕ
  pub made_is : made_payload pool nodes head ≡ Ok payload
  pub spelled : SpellsPayloadOf level payload frame
  pub large : m < length payload
  pub index_is : index ≡ None
  pub because_is : because ≡ whys.TooLarge

-- a head is refused, since contents that its nodes have in the pool as bytes have more than m bytes
pub record AreTooLarge (nodes : List Node) (m : ℕ) (head : given.Head)
    (index : Option ℕ) (because : WriteRefusal) : Type 0 where
  pub large : m < given_length (take head.nodes (drop head.first nodes))
  pub index_is : index ≡ None
  pub because_is : because ≡ whys.TooLarge

-- a head whose frame is meant is refused: for one of its nodes, for its payload, or for contents in
-- it that are given as bytes
abbrev pub RefusesHead : Level → List ℕ → List Node
    → ℕ → given.Head → Frame → Option ℕ → WriteRefusal → Type 0
RefusesHead level pool nodes m head frame index because =
    IsLongIn level pool (head.first + head.nodes) (take head.nodes (drop head.first nodes))
    index because
    ⊎ (IsTooLarge level pool nodes m head frame index because
    ⊎ AreTooLarge nodes m head index because)

-- This one of the heads from the k-th on is the first that is refused: those before it are made,
-- and encode their frames.
pub record IsFirstRefused (level : Level) (pool : List ℕ) (nodes : List Node) (m k : ℕ)
    (heads : List given.Head) (frames : List Frame)
    (index : ℕ) (node : Option ℕ) (because : WriteRefusal) : Type 0 where
  pub heads_before : List given.Head
  pub head : given.Head
  pub heads_after : List given.Head
  pub heads_are : heads ≡ heads_before ++ (head ∷ heads_after)
  pub frames_before : List Frame
  pub frame : Frame
  pub frames_after : List Frame
  pub frames_are : frames ≡ frames_before ++ (frame ∷ frames_after)
  pub index_is : index ≡ k + length heads_before
  pub bytes : List ℕ
  pub made_is : made_frames pool nodes m k heads_before ≡ Ok bytes
  pub spelled : SpellsFrames level (Some m) bytes frames_before
  pub why : RefusesHead level pool nodes m head frame node because

-- heads and nodes are refused so; whether a buffer is too small is no matter of these
abbrev pub RefusesFirst : Level → List ℕ → List Node → ℕ → ℕ
    → List given.Head → List Frame → WriteError → Type 0
RefusesFirst level pool nodes m k heads frames (failures.Refused index node because) =
    IsFirstRefused level pool nodes m k heads frames index node because
RefusesFirst level pool nodes m k heads frames (failures.TooSmall needed) = Unit {0}

-- a content as a whole is refused, since it has more bytes than a length of four bytes counts
pub record IsLongAlone (Spelled : List ℕ → Type 0)
    (index : Option ℕ) (because : WriteRefusal) : Type 0 where
  pub content : List ℕ
  pub spelled : Spelled content
  pub long : 2 ^ 32 ≤ length content
  pub index_is : index ≡ None
  pub because_is : because ≡ whys.TooLong

-- of the nodes of a content alone, this one holds too many bytes, or else the content itself does
abbrev pub RefusesLong : (List ℕ → Type 0) → List ℕ → List Node → WriteError → Type 0
RefusesLong Spelled pool nodes (failures.Refused index node because) =
    (index ≡ 0) × (IsLongIn plain pool (length nodes) nodes node because
    ⊎ IsLongAlone Spelled node because)
RefusesLong Spelled pool nodes (failures.TooSmall needed) = Unit {0}

-- What is meant is encoded at the front, or refused for such a reason.
abbrev pub EncodesUnless : {A : Type 0} → (WriteError → Type 0) → (List ℕ → A → Type 0)
    → A → List ℕ → Result ℕ WriteError → Type 0
EncodesUnless Reason Spells thing new (Ok count) = Spells (take count new) thing
EncodesUnless Reason Spells thing new (Err error) = Reason error
