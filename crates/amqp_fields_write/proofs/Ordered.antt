-- What is encoded at each level: nodes whose keys ascend and whose content is canonical, and content that stands in the pool as bytes.
use Rattle.amqp_fields_write.proofs
use Rattle.amqp_fields_write.specs
use Rattle.amqp_types.specs as types
use proofs.Names.{◌≡◌, ℕ, Bool, true, false, List, [], ◌∷◌, inl, arith, ◌++◌, length, take, drop, append_assoc, append-nil, sym, ap, ◌∙◌, zero, suc, ◌+◌, ◌≤◌}
use proofs.Names.{Ok, refl, subst, take-append-drop, take_all, Level, plain, tidy, strict, SpellsBoolean, FromTidy, bit_of, IsBytes, IsExact, Judge, took}
use proofs.Names.{bytes4, number_bytes, IsRising, settled, SpellsTag, tag_byte, tag_of, FieldTag, IsBeatPayload, Node, AreNodes, IsSpan}
use proofs.Names.tag
use Rattle.std.specs.Map.{keys_of}
use types.FormLaws.{IsLawful}
use types.Strings.{judge_long_string, SpellsLongString, with_length}
use types.Values.{Entry, FieldValue, array_value, table_value, entries_of, items, values_of}
use types.ValueBytes.{tagged_bytes}
use types.ValueJudging.{filled, judge_array, judge_entry, judge_table, judge_value}
use types.ValueSpelling.{IfStrict, SpellsArray, SpellsBehind, SpellsEntry, SpellsTable, SpellsTagged, SpellsValue}
use Rattle.amqp_types.proofs.Bytes.{IsBytes-drop, IsBytes-take}
use Rattle.amqp_types.proofs.Texts.{long_string_exact}
use Rattle.amqp_laws.proofs.Conversions.{items-values_of, pairs-entries_of}
use Rattle.amqp_laws.proofs.Exactly.{value_exact, value_some}
use Rattle.amqp_laws.proofs.Filled.{array_exact, table_exact}
use Rattle.amqp_laws.proofs.Strictly.{in_order, Into, array_into, each_into, entry_into}
use Rattle.amqp_laws.proofs.ValueLaws.{values_lawful}
use specs.Canonical.{ContentIsCanonical, EachGroup, EntriesAscend, HasCanonicalContent, HasKey, IsTableKind, KeysAscend}
use specs.Meant.{TellsEntry}

-- a rule that holds at all holds from level tidy on
pub from_tidy : {Rule : Type 0} (level : Level) → Rule → FromTidy level Rule
from_tidy plain h = tt
from_tidy tidy h = h
from_tidy strict h = h

tidy_map : {A B : Type 0} (level : Level) → (A → B) → FromTidy level A → FromTidy level B
tidy_map plain f h = tt
tidy_map tidy f h = f h
tidy_map strict f h = f h

-- what encodes something strictly encodes it at each level
pub lawful_at : {A : Type 0} {judge : Judge A} {Spells : Level → List ℕ → A → Type 0} {canonical : A → List ℕ} → IsLawful judge Spells canonical
    → (level : Level) (bytes : List ℕ) (x : A) → Spells strict bytes x → Spells level bytes x
lawful_at laws plain bytes x h = laws.tidy_is_plain bytes x (laws.strict_is_tidy bytes x h)
lawful_at laws tidy bytes x h = laws.strict_is_tidy bytes x h
lawful_at laws strict bytes x h = h

-- 1 for true and 0 for false encode a truth value at each level
pub truth_at : (level : Level) (b : Bool) (bytes : List ℕ) → bytes ≡ bit_of b ∷ [] → SpellsBoolean level bytes b
truth_at plain true bytes is = (1, λ e. absurd (omega arith), is)
truth_at tidy true bytes is = (1, λ e. absurd (omega arith), is)
truth_at strict true bytes is = is
truth_at plain false bytes is = is
truth_at tidy false bytes is = is
truth_at strict false bytes is = is

-- the tag byte that is written encodes its tag at each level
pub tag_at_level : (level : Level) (byte : ℕ) (t : FieldTag) → byte ≡ tag_byte t → SpellsTag level byte t
tag_at_level plain byte t is = inl is
tag_at_level tidy byte t is = inl is
tag_at_level strict byte t is = is

-- an empty payload is one of a heartbeat at each level
pub beat_at : (level : Level) (payload : List ℕ) → payload ≡ [] → IsBeatPayload level payload
beat_at plain payload none = tt
beat_at tidy payload none = none
beat_at strict payload none = none

-- of some nodes
pub record InOrder (level : Level) (pool : List ℕ) (nodes : List Node) : Type 0 where
  pub is : FromTidy level (KeysAscend pool nodes × ContentIsCanonical pool nodes)

-- at level plain nodes may stand in any order
pub plain_order : {pool : List ℕ} {nodes : List Node} → InOrder plain pool nodes
plain_order = record { is = tt }

-- of a node and those inside it
pub record Ordered (level : Level) (pool : List ℕ) (node : Node) (inside : List Node) : Type 0 where
  pub inside_is : node.inside ≡ length inside
  pub order : InOrder level pool (node ∷ inside)

-- ---- parts

-- what holds of each group holds of those of a part
pub group_part : (Holds : Node → List Node → Type 0) (nodes before part after : List Node)
    → nodes ≡ before ++ (part ++ after) → EachGroup Holds nodes → EachGroup Holds part
group_part Holds nodes before part after is each front node inside others part_is inside_is =
    each (before ++ front) node inside (others ++ after)
    (is ∙ ap (λ ns. before ++ (ns ++ after)) part_is ∙ simp append_assoc) inside_is

order_part : (level : Level) (pool : List ℕ) (nodes before part after : List Node)
    → nodes ≡ before ++ (part ++ after) → InOrder level pool nodes → InOrder level pool part
order_part level pool nodes before part after is h = record {
  is = tidy_map level (λ o. (
    group_part (EntriesAscend pool) nodes before part after is o.0,
    group_part (HasCanonicalContent pool) nodes before part after is o.1,
  )) h.is;
}

-- what lies inside a node is in order, where the node is
pub order_inside : (level : Level) (pool : List ℕ) (node : Node) (inside : List Node) → InOrder level pool (node ∷ inside) → InOrder level pool inside
order_inside level pool node inside h = order_part level pool (node ∷ inside) (node ∷ []) inside [] (ap (λ ns. node ∷ ns) (sym (append-nil inside))) h

-- so many nodes from a place on
pub order_taken : (level : Level) (pool : List ℕ) (nodes : List Node) (first count : ℕ)
    → InOrder level pool nodes → InOrder level pool (take count (drop first nodes))
order_taken level pool nodes first count h =
    order_part level pool nodes (take first nodes) (take count (drop first nodes)) (drop count (drop first nodes))
    (sym (take-append-drop first nodes) ∙ ap (λ ns. take first nodes ++ ns) (sym (take-append-drop count (drop first nodes)))) h

-- ---- nodes one after another

-- what a node means, and that it is in order
abbrev pub With : {A : Type 0} → Level → List ℕ → (Node → List Node → A → Type 0) → Node → List Node → A → Type 0
With level pool Means node inside x = Means node inside x × Ordered level pool node inside

-- nodes that are in order mean things, each in order
pub each_with : {A : Type 0} (level : Level) (pool : List ℕ) (Means : Node → List Node → A → Type 0) (xs : List A) (nodes : List Node)
    → InOrder level pool nodes → AreNodes Means xs nodes → AreNodes (With level pool Means) xs nodes
each_with level pool Means [] nodes order h = h
each_with level pool Means (x ∷ xs) nodes order h = record {
  node = h.node;
  inside = h.inside;
  others = h.others;
  nodes_are = h.nodes_are;
  inside_is = h.inside_is;
  means = (h.means, record { inside_is = h.inside_is; order = order_part level pool nodes [] (h.node ∷ h.inside) h.others h.nodes_are order });
  rest =
      each_with level pool Means xs h.others
      (order_part level pool nodes (h.node ∷ h.inside) h.others [] (h.nodes_are ∙ ap (λ ns. h.node ∷ (h.inside ++ ns)) (sym (append-nil h.others))) order)
      h.rest;
}

-- ---- a table that is given by nodes

module _ (pool : List ℕ) (Means : Node → List Node → Entry → Type 0)
    (key : (node : Node) (inside : List Node) (e : Entry) → Means node inside e → IsSpan pool node.key_start node.key_length e.0) where
  have_keys : (entries : List Entry) (nodes : List Node) → AreNodes Means entries nodes → AreNodes (HasKey pool) (keys_of entries) nodes
  have_keys [] nodes h = h
  have_keys (e ∷ entries) nodes h = record {
    node = h.node;
    inside = h.inside;
    others = h.others;
    nodes_are = h.nodes_are;
    inside_is = h.inside_is;
    means = key h.node h.inside e h.means;
    rest = have_keys entries h.others h.rest;
  }

  -- the keys of a table that is in order ascend
  pub keys_rise : (node : Node) (inside : List Node) (entries : List Entry) → node.inside ≡ length inside
      → KeysAscend pool (node ∷ inside) → IsTableKind node.kind → AreNodes Means entries inside → IsRising entries
  keys_rise node inside entries inside_is ascend kind nodes =
      ascend [] node inside [] (ap (λ ns. node ∷ ns) (sym (append-nil inside))) inside_is kind (keys_of entries) (have_keys entries inside nodes)

-- a table that is in order at level strict has each key once
pub entries_once : (pool : List ℕ) (Value : Node → List Node → FieldValue → Type 0) (level : Level) (node : Node) (inside : List Node) (entries : List Entry)
    → Ordered level pool node inside → IsTableKind node.kind → AreNodes (TellsEntry Value pool) entries inside → IfStrict level (entries ≡ settled entries)
entries_once pool Value plain node inside entries h kind nodes = tt
entries_once pool Value tidy node inside entries h kind nodes = tt
entries_once pool Value strict node inside entries h kind nodes =
    sym (in_order [] entries (keys_rise pool (TellsEntry Value pool) (λ node inside e p. p.key) node inside entries h.inside_is h.order.is.0 kind nodes))

-- ---- where more may nest

behind_too : (low high : ℕ) (S T : List ℕ → FieldValue → Type 0) → low ≤ high → Into S T → Into (SpellsBehind plain low S) (SpellsBehind plain high T)
behind_too low high S T le into bytes (array_value vs) h = (omega arith, array_into S T into bytes (items vs) h.1)
behind_too low high S T le into bytes (table_value es) h =
    let t = h.1 in
    let each = each_into (SpellsEntry S) (SpellsEntry T) (entry_into S T into) t.inner t.entries t.each in
    (omega arith, record { inner = t.inner; entries = t.entries; framed = t.framed; each = each; counts = t.counts; once = tt })
behind_too low high S T le into bytes v h = h

tagged_too : (S T : List ℕ → FieldValue → Type 0) → Into S T → Into (SpellsTagged plain S) (SpellsTagged plain T)
tagged_too S T into bytes v h = record { byte = h.byte; behind = h.behind; bytes_are = h.bytes_are; tag_is = h.tag_is; value_is = into h.behind v h.value_is }

value_too : (low high : ℕ) → low ≤ high → Into (SpellsValue plain low) (SpellsValue plain high)
unfolding SpellsValue
value_too zero zero le = λ bytes v h. h
value_too zero (suc high) le =
    tagged_too _ _ (behind_too 0 (suc high) (λ _ _. ⊥) (SpellsValue plain high) le (λ bytes v no. absurd no))
value_too (suc low) zero le = absurd (omega arith)
value_too (suc low) (suc high) le =
    tagged_too _ _ (behind_too (suc low) (suc high) (SpellsValue plain low) (SpellsValue plain high) le (value_too low high (omega arith)))

-- ---- content that stands in the pool

-- what a span of the pool has are bytes
pub span_fits : (pool content : List ℕ) (start count : ℕ) → IsBytes pool → IsSpan pool start count content → IsBytes content
span_fits pool content start count fits h = subst (λ bs. IsBytes bs) h.bytes_are (IsBytes-take count (drop start pool) (IsBytes-drop start pool fits))

-- what is read from all of some bytes is encoded by them
all_spelled : {A : Type 0} (judge : Judge A) (Spells : List ℕ → A → Type 0) → IsExact judge Spells → (bytes : List ℕ) (x : A)
    → IsBytes bytes → judge bytes ≡ took x (length bytes) → Spells bytes x
all_spelled judge Spells exact bytes x fits judged =
    subst (λ bs. Spells bs x) (take_all (length bytes) bytes (omega arith)) (exact.spelled bytes x (length bytes) fits judged).0

-- a value whose bytes are canonical, whatever they are the canonical bytes of, is encoded strictly
value_strict : (room : ℕ) (bytes : List ℕ) (v other : FieldValue) → SpellsValue strict 64 bytes other → SpellsValue plain room bytes v
    → SpellsValue strict room bytes v
value_strict room bytes v other canonical h =
    let most = room + 64 in
    let given = values_lawful 64 in
    let loose = given.tidy_is_plain bytes other (given.strict_is_tidy bytes other canonical) in
    let same : other ≡ v =
    (values_lawful most).one_meaning plain bytes other v (value_too 64 most (omega arith) bytes other loose) (value_too room most (omega arith) bytes v h) in
    subst (λ bs. SpellsValue strict room bs v) (sym (given.strict_is_canonical bytes other canonical ∙ ap tagged_bytes same))
    ((values_lawful room).canonical_is_strict bytes v h)

value_level : (level : Level) (room : ℕ) (bytes : List ℕ) (v : FieldValue) → FromTidy level ((other : FieldValue) × SpellsValue strict 64 bytes other)
    → SpellsValue plain room bytes v → SpellsValue level room bytes v
value_level plain room bytes v canonical h = h
value_level tidy room bytes v canonical h = (values_lawful room).strict_is_tidy bytes v (value_strict room bytes v canonical.0 canonical.1 h)
value_level strict room bytes v canonical h = value_strict room bytes v canonical.0 canonical.1 h

-- what stands behind a tag
abbrev Behind : Level → ℕ → List ℕ → FieldValue → Type 0
Behind level room = SpellsBehind level (suc room) (SpellsValue level room)

tagged_at : (level : Level) (room : ℕ) (bytes : List ℕ) (v : FieldValue) → Behind level room bytes v
    → SpellsValue level (suc room) (tag_byte (tag_of v) ∷ bytes) v
unfolding SpellsValue
tagged_at level room bytes v h =
    record { byte = tag_byte (tag_of v); behind = bytes; bytes_are = refl; tag_is = tag_at_level level _ (tag_of v) refl; value_is = h }

behind_of : (level : Level) (room byte : ℕ) (bytes : List ℕ) (v : FieldValue) → SpellsValue level (suc room) (byte ∷ bytes) v → Behind level room bytes v
unfolding SpellsValue
behind_of level room byte bytes v h = let same : h.behind ≡ bytes = cc (h.bytes_are) in subst (λ bs. Behind level room bs v) same h.value_is

-- an array or a table whose content stands in the pool is encoded at each level at which its node is in order
module _ (level : Level) (pool : List ℕ) (fits : IsBytes pool) (room : ℕ) (node : Node) (content bytes : List ℕ) (order : Ordered level pool node [])
    (span : IsSpan pool node.start node.length content) (long : SpellsLongString bytes content) where
  four_fit : (n : ℕ) (rest : List ℕ) → IsBytes rest → IsBytes (number_bytes bytes4 n ++ rest)
  four_fit n rest fits zero = omega arith
  four_fit n rest fits (suc zero) = omega arith
  four_fit n rest fits (suc (suc zero)) = omega arith
  four_fit n rest fits (suc (suc (suc zero))) = omega arith
  four_fit n rest fits (suc (suc (suc (suc i)))) = fits i

  bytes_fit : IsBytes (with_length content)
  bytes_fit = four_fit (length content) content (span_fits pool content node.start node.length fits span)

  content_judged : judge_long_string (with_length content) ≡ took content (length (with_length content))
  content_judged =
      ap judge_long_string (sym (append-nil (with_length content)))
      ∙ long_string_exact.taken (with_length content) [] content (record { fits = long.fits; bytes_are = refl })

  canonical : FromTidy level (HasCanonicalContent pool node [])
  canonical = tidy_map level (λ o. o.1 [] node [] [] refl order.inside_is) order.order.is

  -- where a value is encoded behind its tag at level plain, and another strictly
  at_level : (v : FieldValue)
      → (HasCanonicalContent pool node [] → (other : FieldValue) × (tag_of other ≡ tag_of v) × Behind strict 63 (with_length content) other)
      → Behind plain room (with_length content) v → Behind level room bytes v
  at_level v strictly h =
      rw long.bytes_are (behind_of level room (tag_byte (tag_of v)) (with_length content) v
      (value_level level (suc room) (tag_byte (tag_of v) ∷ with_length content) v
      (tidy_map level (λ c.
      let one = strictly c in
      (one.0, subst (λ t. SpellsValue strict 64 (tag_byte t ∷ with_length content) one.0) one.1 (tagged_at strict 63 (with_length content) one.0 one.2)))
      canonical)
      (tagged_at plain room (with_length content) v h)))

  -- of an array
  pub array_given : (vs : List FieldValue) → node.kind ≡ tag_byte tag.FieldArray → filled (judge_value room) 0 content ≡ Ok vs
      → SpellsArray (SpellsValue level room) bytes vs
  unfolding judge_array
  array_given vs kind fills =
      let judged : judge_array (judge_value room) (with_length content) ≡ took vs (length (with_length content)) = rw (content_judged, fills) in
      let spelled =
      all_spelled (judge_array (judge_value room)) (SpellsArray (SpellsValue plain room))
      (array_exact (judge_value room) (SpellsValue plain room) (value_exact room) (value_some plain room)) (with_length content) vs bytes_fit judged in
      rw items-values_of at (at_level (array_value (values_of vs))
      (λ c. let given = c.array kind refl content span in (array_value (values_of given.0), refl, (omega arith, rw items-values_of given.1)))
      (omega arith, rw items-values_of spelled)).1

  -- of a table
  pub table_given : (entries : List Entry) → IsTableKind node.kind → filled (judge_entry (judge_value room)) 0 content ≡ Ok entries
      → SpellsTable level (SpellsValue level room) bytes (settled entries)
  unfolding judge_table
  table_given entries kind fills =
      let judged : judge_table (judge_value room) (with_length content) ≡ took (settled entries) (length (with_length content)) = rw (content_judged, fills) in
      let spelled =
      all_spelled (judge_table (judge_value room)) (SpellsTable plain (SpellsValue plain room))
      (table_exact (judge_value room) (SpellsValue plain room) (value_exact room) (value_some plain room))
      (with_length content) (settled entries) bytes_fit judged in
      rw pairs-entries_of at (at_level (table_value (entries_of (settled entries)))
      (λ c. let given = c.table kind refl content span in (table_value (entries_of given.0), refl, (omega arith, rw pairs-entries_of given.1)))
      (omega arith, rw pairs-entries_of spelled)).1
