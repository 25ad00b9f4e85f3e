-- What is made of the nodes of values is of values that they mean, and values that are meant are made, unless a content is too long.
use Rattle.amqp_fields_write.proofs
use Rattle.amqp_fields_write.specs
use Rattle.amqp_types.specs as types
use proofs.Names.{◌≡◌, ℕ, zero, suc, ◌+◌, ◌-◌, ◌<◌, ◌^◌, ◌%◌, inl, inr, ℤ, Bool, true, false, List, [], ◌∷◌, ◌++◌, length, Some, None, Ok, Err, refl, sym, ap}
use proofs.Names.{subst, ◌∙◌, ◌≤◌, ◌⊎◌, append_assoc, append-nil, arith, nat_lt, nat_le, Option, ◌==◌, take, drop, cases_lt, numbers, of_z-to_z, length-append}
use proofs.Names.{length-drop, length-take-le, take-append-drop, IsUtf8, Level, IsBytes, Judge, NumberWidth, bytes1, bytes2, bytes4, bytes8, number_bytes}
use proofs.Names.{number_limit, width_of, SpellsNumber, SpellsBoolean, bit_of, is_too_long, settled, tag_at, tag_byte, tag_of, FieldTag, Node, Refusal}
use proofs.Names.{StandsFirst, AreNodes, IsSpan, given_length, is_given}
use proofs.Names.tag
use proofs.Names.whys
use Rattle.std.proofs.lemmas.Str.{is_utf8-from_IsUtf8}
use Rattle.std.specs.Int.{w64, cast_signed, cast_unsigned}
use types.Sequences.{SpellsBoth}
use types.Signed.{SpellsSigned}
use types.Strings.{short_string_bytes, with_length, SpellsLongString, SpellsShortString}
use types.Values.{FieldValue, Entry, SignedKind, UnsignedKind, BytesKind, short_short_int, short_int, long_int, long_long_int, short_short_uint, short_uint}
use types.Values.{long_uint, float, double, timestamp, long_string, byte_array, boolean_value, signed_value, unsigned_value, decimal_value, bytes_value}
use types.Values.{array_value, table_value, void_value, items, pairs, values_of, entries_of}
use types.ValueBytes.{signed_width, unsigned_width}
use types.ValueJudging.{filled, judge_entry, judge_value}
use types.ValueSpelling.{SpellsArray, SpellsBehind, SpellsEach, SpellsEntry, SpellsTable, SpellsTagged, SpellsValue}
use Rattle.amqp_laws.proofs.Settling.{settles}
use Rattle.amqp_laws.proofs.Tags.{tag_read}
use specs.declared.refusals.WriteRefusal.{WriteRefusal}
use specs.Canonical.{IsTableKind}
use specs.Made.{Made, Maker, Nested, after, closed, is_signed, made_alone, made_array, made_behind, made_each, made_entry, made_given, made_items, made_leaf}
use specs.Made.{made_long, made_nested, made_number, made_signed, made_span, made_table, made_truth, made_text, made_value, nested_array, nested_table}
use specs.Made.{own_index, refusal, span_in, made_known, made_tagged}
use specs.Making.{HoldsBytes, IsLongIn, Suits}
use specs.Meant.{Holds, IsSigned, Tells, TellsAt, TellsEntry, TellsValue, HoldsTable}
use proofs.Ordered.{tag_at_level, truth_at, InOrder, Ordered, With, array_given, each_with, entries_once, order_inside, table_given}
use proofs.ValuesMade.{each_next, each_none, value_parts}
use proofs.SignedNumbers.{signed_bits, signed_back}
use proofs.MadeOfParts.{mod_small, after_ok, alone_ok, closed_ok, fails, given_most, given_none, given_ok, given_past, given_split, holds, if_ok, number_ok}
use proofs.MadeOfParts.{span_ok, text_ok}
use Rattle.amqp_laws.proofs.Conversions.{items-values_of, pairs-entries_of}
use proofs.FieldsMade.{bit_is}

-- ---- what arrays and tables hold

-- the values that an array holds
abbrev pub HoldsValues : ℕ → List ℕ → Node → List Node → List FieldValue → Type 0
HoldsValues depth_left pool node inside values =
    Holds (judge_value depth_left) (λ vs nodes. AreNodes (TellsValue depth_left pool) vs nodes) pool node inside values

-- the entries that a table holds
abbrev pub HoldsEntries : ℕ → List ℕ → Node → List Node → List Entry → Type 0
HoldsEntries depth_left pool node inside entries =
    Holds (judge_entry (judge_value depth_left)) (λ es nodes. AreNodes (TellsEntry (TellsValue depth_left pool) pool) es nodes) pool node inside entries

-- a table
abbrev pub TellsTable : ℕ → List ℕ → Node → List Node → List Entry → Type 0
TellsTable depth_left pool node inside table = HoldsTable (HoldsEntries depth_left pool node inside) table

-- ---- parts

-- such bytes are made, and nothing is refused but for such a reason
pub record Fits (Why : Refusal → Type 0) (made : Made) (P : List ℕ → Type 0) : Type 0 where
  pub suits : Suits Why made P

module _ {Why : Refusal → Type 0} {P : List ℕ → Type 0} where
  -- bytes that were made fit what is said of them
  pub ok_fits : (bytes : List ℕ) → P bytes → Fits Why (Ok bytes) P
  ok_fits bytes p = record { suits = p }

  -- a making fits where an equal one does
  pub as_fits : {made other : Made} → made ≡ other → Fits Why other P → Fits Why made P
  as_fits is h = subst (λ m. Fits Why m P) (sym is) h

  -- what is made is also such bytes
  pub fits_into : {made : Made} {Q : List ℕ → Type 0} → ((x : List ℕ) → P x → Q x) → Fits Why made P → Fits Why made Q
  fits_into {made = Ok x} into p = record { suits = into x p.suits }
  fits_into {made = Err bad} into p = record { suits = p.suits }

  -- what is refused is also refused for such a reason
  pub fits_for : {made : Made} {Reason : Refusal → Type 0} → ((bad : Refusal) → Why bad → Reason bad) → Fits Why made P → Fits Reason made P
  fits_for {made = Ok x} into p = record { suits = p.suits }
  fits_for {made = Err bad} into p = record { suits = into bad p.suits }

  -- two makings fit, one after another, where each of them does
  pub after_fits : {a b : Made} {Q R : List ℕ → Type 0} → ((x y : List ℕ) → P x → Q y → R (x ++ y)) → Fits Why a P → Fits Why b Q → Fits Why (after a b) R
  after_fits {a = Ok x} {b = Ok y} both p q = record { suits = both x y p.suits q.suits }
  after_fits {a = Ok x} {b = Err bad} both p q = record { suits = q.suits }
  after_fits {a = Err bad} both p q = record { suits = p.suits }

  -- a value with nothing inside it fits where its own bytes do
  pub alone_fits : {made : Made} {inside : List Node} (index : ℕ) → inside ≡ [] → Fits Why made P → Fits Why (made_alone made index inside) P
  alone_fits {made = made} index none h = as_fits (ap (made_alone made index) none) h

  -- what is made of a span of the pool
  pub span_fits_in : {pool content : List ℕ} {start count : ℕ} (make : List ℕ → Made) (node : ℕ)
      → IsSpan pool start count content → Fits Why (make content) P → Fits Why (made_span make node (span_in pool start count)) P
  span_fits_in {pool = pool} {start = start} {count = count} make node h made =
      let within : nat_le (start + count) (length pool) ≡ true = grind numbers in
      rw (within, h.bytes_are) made

module _ {A B C : Type 0} {First : List ℕ → A → Type 0} {Second : List ℕ → B → Type 0} {join : A → B → C} {z : C} (x : A) (y : B) (is : z ≡ join x y) where
  -- two things are encoded, one after the other
  pub both_spelled : (a b : List ℕ) → First a x → Second b y → SpellsBoth First Second join (a ++ b) z
  both_spelled a b p q = record { front = a; behind = b; one = x; two = y; bytes_are = refl; first_is = p; second_is = q; joined = is }

  -- and made so
  pub both_fits : {Why : Refusal → Type 0} {a b : Made} → Fits Why a (λ bytes. First bytes x) → Fits Why b (λ bytes. Second bytes y)
      → Fits Why (after a b) (λ bytes. SpellsBoth First Second join bytes z)
  both_fits = after_fits both_spelled

module _ {Why : Refusal → Type 0} where
  -- a number of its width
  pub number_fits : {number n : ℕ} (width : NumberWidth) (node : ℕ) → number ≡ n → n < number_limit width
      → Fits Why (made_number width node number) (λ bytes. SpellsNumber width bytes n)
  number_fits {number = number} {n = n} width node is few =
      let less : nat_lt n (number_limit width) ≡ true = grind numbers in
      rw (is, less, mod_small width n few) (ok_fits (number_bytes width n) (record { fits = few; bytes_are = refl }))

  -- a length of 4 bytes and a content, which is refused where they do not hold its length
  pub long_fits : (node : ℕ) (content : List ℕ) → (2 ^ 32 ≤ length content → Why (refusal node whys.TooLong))
      → Fits Why (made_long node content) (λ bytes. SpellsLongString bytes content)
  long_fits node content long = elim (cases_lt (length content) (2 ^ 32)) [
    | inl few ↦
        let short : is_too_long content ≡ false = grind numbers in
        rw short (ok_fits (with_length content) (record { fits = few; bytes_are = refl }))
    | inr more ↦ let is : is_too_long content ≡ true = grind numbers in rw is (record { suits = long more })
  ]

  -- a short string
  pub text_fits : (node : ℕ) (text : List ℕ) → length text < 256 → IsUtf8 text → Fits Why (made_text node text) (λ bytes. SpellsShortString bytes text)
  text_fits node text short valid =
      let few : nat_lt 255 (length text) ≡ false = grind numbers in
      rw (few, is_utf8-from_IsUtf8 text valid) (ok_fits (short_string_bytes text) (record { fits = short; utf8 = valid; bytes_are = refl }))

  closed_fits : {P Q : List ℕ → Type 0} {made : Made} (node : ℕ)
      → ((content : List ℕ) → P content → 2 ^ 32 ≤ length content → Why (refusal node whys.TooLong))
      → ((content bytes : List ℕ) → P content → SpellsLongString bytes content → Q bytes) → Fits Why made P → Fits Why (closed node made) Q
  closed_fits {made = Ok content} node long into p =
      fits_into (λ bytes. into content bytes p.suits) (long_fits node content (long content p.suits))
  closed_fits {made = Err bad} node long into p = record { suits = p.suits }

-- ---- which node has a content that is too long

-- that of one of some nodes
abbrev pub IsLongBy : Level → List ℕ → ℕ → List Node → Refusal → Type 0
IsLongBy level pool end nodes bad = IsLongIn level pool end nodes bad.node bad.why

-- the content of a node itself
pub record IsOwnLong (level : Level) (pool : List ℕ) (end : ℕ) (node : Node) (inside : List Node) (bad : Refusal) : Type 0 where
  pub bad_is : bad ≡ refusal (own_index end inside) whys.TooLong
  pub content : List ℕ
  pub holds : HoldsBytes level pool node inside content
  pub long : 2 ^ 32 ≤ length content

-- that of a node, or of one inside it
abbrev pub IsLongAt : Level → List ℕ → ℕ → Node → List Node → Refusal → Type 0
IsLongAt level pool end node inside bad = IsOwnLong level pool end node inside bad ⊎ IsLongBy level pool end inside bad

-- what a node means that is in order is made of it and of those inside it, and so encoded
abbrev pub MakesSpelled : {A : Type 0} → Level → List ℕ → Maker → (Node → List Node → A → Type 0) → (List ℕ → A → Type 0) → Type 0
MakesSpelled {A} level pool make Means Spells = (end : ℕ) (node : Node) (inside : List Node) (x : A) → Means node inside x → Ordered level pool node inside
    → Fits (IsLongAt level pool end node inside) (make end node inside) (λ bytes. Spells bytes x)

-- what nodes mean that are in order is made, one after another
abbrev pub EachSpelled : {A : Type 0} → Level → List ℕ → Maker → (Node → List Node → A → Type 0) → (List ℕ → A → Type 0) → Type 0
EachSpelled {A} level pool make Means Spells = (end : ℕ) (xs : List A) (nodes : List Node) → InOrder level pool nodes → AreNodes Means xs nodes
    → Fits (IsLongBy level pool end nodes) (made_each make end 0 nodes) (λ bytes. SpellsEach Spells bytes xs)

-- a node with nothing inside it is refused where its span has 2^32 bytes or more
pub own_long : (level : Level) (pool : List ℕ) (end : ℕ) (node : Node) (inside : List Node) (content : List ℕ) → IsSpan pool node.start node.length content
    → inside ≡ [] → 2 ^ 32 ≤ length content → IsLongAt level pool end node inside (refusal (own_index end inside) whys.TooLong)
own_long level pool end node inside content span none long = rw none (inl (record { bad_is = refl; content = content; holds = span; long = long }))

-- a refusal among some nodes is one among all of them, with those before and behind
long_part : {level : Level} {pool : List ℕ} {nodes part : List Node} {end last : ℕ} {index : Option ℕ} {because : WriteRefusal} (front others : List Node)
    → nodes ≡ front ++ (part ++ others) → last ≡ end - length others → IsLongIn level pool last part index because → IsLongIn level pool end nodes index because
long_part {end = end} {last = last} front others is at h = record {
  before = front ++ h.before;
  node = h.node;
  inside = h.inside;
  others = h.others ++ others;
  nodes_are =
      is ∙ ap (λ ns. front ++ (ns ++ others)) h.nodes_are
      ∙ simp append_assoc;
  inside_is = h.inside_is;
  index_is =
      h.index_is
      ∙ ap (λ (n : ℕ). Some n) {x = last - length (h.node ∷ (h.inside ++ h.others))}
      {y = end - length (h.node ∷ (h.inside ++ (h.others ++ others)))}
      (simp length-append (omega arith));
  content = h.content;
  holds = h.holds;
  long = h.long;
  because_is = h.because_is;
}

-- a refusal among the nodes behind some others is one among all of them
pub behind_long : {level : Level} {pool : List ℕ} {nodes rest : List Node} {end : ℕ} {index : Option ℕ} {because : WriteRefusal} (front : List Node)
    → nodes ≡ front ++ rest → IsLongIn level pool end rest index because → IsLongIn level pool end nodes index because
behind_long {rest = rest} front is h = long_part front [] (is ∙ ap (λ ns. front ++ ns) (sym (append-nil rest))) (omega arith) h

-- a refusal within the first of some nodes is one among all of them
pub group_long : {level : Level} {pool : List ℕ} {nodes inside others : List Node} {node : Node} {end : ℕ} {bad : Refusal}
    → StandsFirst nodes node inside others → IsLongAt level pool (end - length others) node inside bad → IsLongBy level pool end nodes bad
group_long {inside = inside} {others = others} {node = node} {end = end} first (inl own) = record {
  before = [];
  node = node;
  inside = inside;
  others = others;
  nodes_are = first.nodes_are;
  inside_is = first.inside_is;
  index_is =
      ap (λ (b : Refusal). b.node) own.bad_is
      ∙ ap (λ (n : ℕ). Some n) {x = own_index (end - length others) inside} {y = end - length (node ∷ (inside ++ others))}
      (omega (arith, length-append inside others));
  content = own.content;
  holds = own.holds;
  long = own.long;
  because_is = ap (λ (b : Refusal). b.why) own.bad_is;
}
group_long {others = others} {node = node} first (inr in_it) = long_part (node ∷ []) others first.nodes_are refl in_it

-- ---- things one after another

-- things, each of which is made of a node and those inside it
module _ {A : Type 0} (level : Level) (pool : List ℕ) (make : Maker) (Means : Node → List Node → A → Type 0) (Spells : List ℕ → A → Type 0)
    (one : MakesSpelled level pool make Means Spells) where
  each_fits : EachSpelled level pool make Means Spells
  each_fits end xs nodes order h = by xs nodes (each_with level pool Means xs nodes order h)
    where
      by : (xs : List A) (nodes : List Node) → AreNodes (With level pool Means) xs nodes
          → Fits (IsLongBy level pool end nodes) (made_each make end 0 nodes) (λ bytes. SpellsEach Spells bytes xs)
      by [] nodes h = as_fits (ap (made_each make end 0) h ∙ each_none make end) (ok_fits [] refl)
      by (x ∷ xs) nodes h =
          let first : StandsFirst nodes h.node h.inside h.others = record { nodes_are = h.nodes_are; inside_is = h.inside_is } in
          as_fits (each_next make end first)
          (after_fits (λ a b p q. (a, b, refl, p, q))
          (fits_for (λ bad. group_long first) (one (end - length h.others) h.node h.inside x h.means.0 h.means.1))
          (fits_for (λ bad. behind_long (h.node ∷ h.inside) h.nodes_are) (by xs h.others h.rest)))

  -- what fills a table or an array: content that stands in the pool, or what the nodes inside make
  items_fit : (item : Judge A) (end : ℕ) (node : Node) (inside : List Node) (xs : List A) {Q : List ℕ → Type 0} → Ordered level pool node inside
      → Holds item (λ xs nodes. AreNodes Means xs nodes) pool node inside xs
      → ((content bytes : List ℕ) → Ordered level pool node [] → IsSpan pool node.start node.length content → filled item 0 content ≡ Ok xs
      → SpellsLongString bytes content → Q bytes)
      → ((content : List ℕ) (first : Node) (others : List Node) → AreNodes Means xs (first ∷ others) → SpellsEach Spells content xs
      → HoldsBytes level pool node (first ∷ others) content)
      → ((content bytes : List ℕ) → AreNodes Means xs inside → SpellsEach Spells content xs → SpellsLongString bytes content → Q bytes)
      → Fits (IsLongAt level pool end node inside) (made_items item make pool end node inside) Q
  unfolding made_items
  items_fit item end node [] xs order h given holds made =
      span_fits_in (λ content. made_given (own_index end []) content (filled item 0 content)) _ h.span
      (rw h.fills (fits_into (λ bytes. given h.content bytes order h.span h.fills)
      (long_fits _ h.content (own_long level pool end node [] h.content h.span refl))))
  items_fit item end node (first ∷ others) xs order h given holds made =
      closed_fits _
      (λ content each long. inl (record { bad_is = refl; content = content; holds = holds content first others h each; long = long }))
      (λ content bytes. made content bytes h)
      (fits_for (λ bad. inr) (each_fits end xs (first ∷ others) (order_inside level pool node (first ∷ others) order.order) h))

-- ---- after a tag

module _ (level : Level) (pool : List ℕ) (nested : Nested) (depth : ℕ) (Array : List FieldValue → Type 0)
    (Table : List Entry → Type 0) (Spells : List ℕ → FieldValue → Type 0) (end : ℕ) (node : Node) (inside : List Node)
    (array_fits : (vs : List FieldValue) → node.kind ≡ tag_byte tag.FieldArray → Array vs
    → Fits (IsLongAt level pool end node inside) (nested_array pool nested end node inside) (λ bytes. (0 < depth) × SpellsArray Spells bytes vs))
    (table_fits : (es : List Entry) → node.kind ≡ tag_byte tag.FieldTable → Table es
    → Fits (IsLongAt level pool end node inside) (nested_table pool nested end node inside) (λ bytes. (0 < depth) × SpellsTable level Spells bytes es))
  where
    abbrev Alone : Made → (List ℕ → Type 0) → Type 0
    Alone made = Fits (IsLongAt level pool end node inside) (made_alone made (own_index end inside) inside)

    truth_fits : (b : Bool) → node.number ≡ bit_of b → inside ≡ []
        → Alone (made_truth (own_index end inside) node.number) (λ bytes. SpellsBoolean level bytes b)
    truth_fits true is none = alone_fits _ none (rw is (ok_fits _ (truth_at level true _ refl)))
    truth_fits false is none = alone_fits _ none (rw is (ok_fits _ (truth_at level false _ refl)))

    signed_fits : (width : NumberWidth) (n : ℤ) → IsSigned width node.number n → inside ≡ []
        → Alone (made_signed width (own_index end inside) node.number) (λ bytes. SpellsSigned width bytes n)
    signed_fits width n h none =
        let both = signed_bits width h.bits node.number h.fits (h.number_is ∙ ap (cast_unsigned w64) h.means) in
        alone_fits _ none
        (rw both.0 (ok_fits (number_bytes width (node.number % number_limit width))
        (record { bits = h.bits; spelled = record { fits = h.fits; bytes_are = ap (number_bytes width) both.1 }; means = h.means })))

    bytes_fits : (content : List ℕ) → IsSpan pool node.start node.length content → inside ≡ []
        → Alone (made_span (made_long (own_index end inside)) (own_index end inside) (span_in pool node.start node.length))
        (λ bytes. SpellsLongString bytes content)
    bytes_fits content span none =
        alone_fits _ none
        (span_fits_in (made_long (own_index end inside)) _ span (long_fits _ content (own_long level pool end node inside content span none)))

    unsigned_fits : (width : NumberWidth) (n : ℕ) → (n < number_limit width) × (node.number ≡ n) × (inside ≡ [])
        → Alone (made_number width (own_index end inside) node.number) (λ bytes. SpellsNumber width bytes n)
    unsigned_fits width n h = alone_fits _ h.2 (number_fits width _ h.1 h.0)

    behind_fits : (v : FieldValue) → node.kind ≡ tag_byte (tag_of v) → Tells Array Table pool node inside v
        → Fits (IsLongAt level pool end node inside) (made_behind pool nested (tag_of v) end node inside) (λ bytes. SpellsBehind level depth Spells bytes v)
    unfolding made_behind made_leaf Tells
    behind_fits (boolean_value b) is h = truth_fits b h.0 h.1
    behind_fits (signed_value short_short_int n) is h = signed_fits bytes1 n h.0 h.1
    behind_fits (signed_value short_int n) is h = signed_fits bytes2 n h.0 h.1
    behind_fits (signed_value long_int n) is h = signed_fits bytes4 n h.0 h.1
    behind_fits (signed_value long_long_int n) is h =
        let s = h.0 in
        let same : node.number ≡ s.bits = s.number_is ∙ ap (cast_unsigned w64) s.means ∙ of_z-to_z w64 s.bits s.fits in
        alone_fits _ h.1 (fits_into (λ bytes spelled. record { bits = s.bits; spelled = spelled; means = s.means }) (number_fits bytes8 _ same s.fits))
    behind_fits (unsigned_value short_short_uint n) is h = unsigned_fits bytes1 n h
    behind_fits (unsigned_value short_uint n) is h = unsigned_fits bytes2 n h
    behind_fits (unsigned_value long_uint n) is h = unsigned_fits bytes4 n h
    behind_fits (unsigned_value float n) is h = unsigned_fits bytes4 n h
    behind_fits (unsigned_value double n) is h = unsigned_fits bytes8 n h
    behind_fits (unsigned_value timestamp n) is h = unsigned_fits bytes8 n h
    behind_fits (decimal_value scale n) is h = alone_fits _ h.4 (both_fits scale n refl (number_fits bytes1 _ h.2 h.0) (number_fits bytes4 _ h.3 h.1))
    behind_fits (bytes_value long_string content) is h = bytes_fits content h.0 h.1
    behind_fits (bytes_value byte_array content) is h = bytes_fits content h.0 h.1
    behind_fits (array_value vs) is h = array_fits (items vs) is h
    behind_fits (table_value es) is h = table_fits (pairs es) is h
    behind_fits void_value is h = alone_fits _ h (ok_fits [] refl)

-- a tag and its value
value_by : {Why : Refusal → Type 0} (level : Level) (pool : List ℕ) (depth_left end : ℕ)
    (node : Node) (inside : List Node) (v : FieldValue) (Spelled : List ℕ → FieldValue → Type 0)
    → node.kind ≡ tag_byte (tag_of v) → Fits Why (made_behind pool (made_nested pool depth_left) (tag_of v) end node inside) (λ bytes. Spelled bytes v)
    → Fits Why (made_value pool depth_left end node inside) (λ bytes. SpellsTagged level Spelled bytes v)
value_by level pool depth_left end node inside v Spelled kind h =
    as_fits (value_parts pool depth_left end node inside (tag_of v) (tag_read node.kind (tag_of v) (inl kind)) (sym kind))
    (after_fits {P = λ bytes. bytes ≡ node.kind ∷ []}
    (λ a b p q. record { byte = node.kind; behind = b; bytes_are = ap (λ bs. bs ++ b) p; tag_is = tag_at_level level node.kind (tag_of v) kind; value_is = q })
    (ok_fits (node.kind ∷ []) refl) h)

-- ---- tables and arrays

module _ (level : Level) (pool : List ℕ) (fits : IsBytes pool) (depth_left : ℕ) (value : Maker)
    (one : MakesSpelled level pool value (TellsValue depth_left pool) (SpellsValue level depth_left))
  where
    entry_fits : MakesSpelled level pool (made_entry pool value) (TellsEntry (TellsValue depth_left pool) pool) (SpellsEntry (SpellsValue level depth_left))
    unfolding made_entry
    entry_fits end node inside e h order =
        both_fits e.0 e.1 refl (span_fits_in (made_text (own_index end inside)) _ h.key (text_fits _ e.0 h.short h.utf8))
        (one end node inside e.1 h.value order)

    -- values that nodes mean are made, one after another
    pub values_fit : EachSpelled level pool value (TellsValue depth_left pool) (SpellsValue level depth_left)
    values_fit = each_fits level pool value (TellsValue depth_left pool) (SpellsValue level depth_left) one

    -- entries that nodes mean are made, one after another
    pub entries_fit : EachSpelled level pool (made_entry pool value) (TellsEntry (TellsValue depth_left pool) pool) (SpellsEntry (SpellsValue level depth_left))
    entries_fit =
        each_fits level pool (made_entry pool value) (TellsEntry (TellsValue depth_left pool) pool) (SpellsEntry (SpellsValue level depth_left)) entry_fits

    array_fits_at : MakesSpelled level pool (made_array pool depth_left value)
        (λ node inside vs. (node.kind ≡ tag_byte tag.FieldArray) × HoldsValues depth_left pool node inside vs) (SpellsArray (SpellsValue level depth_left))
    array_fits_at end node inside vs h order =
        items_fit level pool value (TellsValue depth_left pool) (SpellsValue level depth_left) one (judge_value depth_left) end node inside vs order h.1
        (λ content bytes order span fills long. array_given level pool fits depth_left node content bytes order span long vs h.0 fills)
        (λ content first others nodes each. (depth_left, inl (vs, nodes, each)))
        (λ content bytes nodes each long. record { inner = content; framed = long; each = each })

    -- a table that a node means is made
    pub table_fits_at : MakesSpelled level pool (made_table pool depth_left value)
        (λ node inside es. IsTableKind node.kind × TellsTable depth_left pool node inside es) (SpellsTable level (SpellsValue level depth_left))
    table_fits_at end node inside table h order =
        let entries = h.1.entries in
        rw h.1.settles (items_fit level pool (made_entry pool value) (TellsEntry (TellsValue depth_left pool) pool)
        (SpellsEntry (SpellsValue level depth_left)) entry_fits (judge_entry (judge_value depth_left)) end node inside entries order h.1.holds
        (λ content bytes order span fills long. table_given level pool fits depth_left node content bytes order span long entries h.0 fills)
        (λ content first others nodes each. (depth_left, inr (entries, nodes, each)))
        (λ content bytes nodes each long.
        record {
          inner = content;
          entries = entries;
          framed = long;
          each = each;
          counts = settles entries;
          once = entries_once pool (TellsValue depth_left pool) level node inside entries order h.0 nodes;
        }))

-- ---- values

module _ (level : Level) (pool : List ℕ) (fits : IsBytes pool) where
  -- a value that a node means is made, with its tag
  pub value_fits : (depth_left : ℕ) → MakesSpelled level pool (made_value pool depth_left) (TellsValue depth_left pool) (SpellsValue level depth_left)
  unfolding TellsAt SpellsValue made_nested made_value
  value_fits zero end node inside v h order =
      value_by level pool 0 end node inside v (SpellsBehind level 0 (λ _ _. ⊥)) h.0
      (behind_fits level pool None 0 (λ values. ⊥) (λ table. ⊥) (λ _ _. ⊥) end node inside (λ vs kind no. absurd no) (λ es kind no. absurd no) v h.0 h.1)
  value_fits (suc depth_left) end node inside v h order =
      let value = made_value pool depth_left in
      value_by level pool (suc depth_left) end node inside v (SpellsBehind level (suc depth_left) (SpellsValue level depth_left)) h.0
      (behind_fits level pool (Some (depth_left, value)) (suc depth_left) (HoldsValues depth_left pool node inside) (TellsTable depth_left pool node inside)
      (SpellsValue level depth_left) end node inside
      (λ vs kind a.
      fits_into (λ bytes spelled. (omega arith, spelled))
      (array_fits_at level pool fits depth_left value (value_fits depth_left) end node inside vs (kind, a) order))
      (λ es kind a.
      fits_into (λ bytes spelled. (omega arith, spelled))
      (table_fits_at level pool fits depth_left value (value_fits depth_left) end node inside es (inr kind, a) order))
      v h.0 h.1)

-- ---- what is made was meant

-- something that is meant by nodes, whose contents that are given as bytes are no longer than what was made
pub record Told {A : Type 0} (Means : A → Type 0) (nodes : List Node) (bytes : List ℕ) : Type 0 where
  pub thing : A
  pub means : Means thing
  pub few : given_length nodes ≤ length bytes

-- of whatever bytes are made, a node means something with those inside it
abbrev pub MakesMeant : {A : Type 0} → Maker → (Node → List Node → A → Type 0) → Type 0
MakesMeant make Means = (end : ℕ) (node : Node) (inside : List Node) (bytes : List ℕ) → node.inside ≡ length inside → make end node inside ≡ Ok bytes
    → Told (Means node inside) (node ∷ inside) bytes

-- ---- things one after another

module _ {A : Type 0} (make : Maker) (Means : Node → List Node → A → Type 0) (one : MakesMeant make Means) where
  -- nodes of which bytes are made one after another mean things
  pub each_told : (end k : ℕ) (nodes : List Node) (bytes : List ℕ) → made_each make end k nodes ≡ Ok bytes
      → Told (λ xs. AreNodes Means xs (drop k nodes)) (drop k nodes) bytes
  unfolding made_each given_length
  each_told end zero [] bytes h = record { thing = []; means = refl; few = omega arith }
  each_told end (suc k) [] bytes h = record { thing = []; means = refl; few = omega arith }
  each_told end (suc k) (node ∷ nodes) bytes h = each_told end k nodes bytes h
  each_told end zero (node ∷ nodes) bytes h =
      let here = take node.inside nodes in
      let left = drop node.inside nodes in
      let within = fails (nat_lt (length nodes) node.inside) (after (make (end - length left) node here) (made_each make end node.inside nodes)) _ _ h in
      let size = length-take-le node.inside nodes (grind numbers) in
      let parts = after_ok (make (end - length left) node here) (made_each make end node.inside nodes) within.1 in
      let first = one (end - length left) node here parts.front (sym size) parts.first_is in
      let others = each_told end node.inside nodes parts.behind parts.second_is in
      record {
        thing = first.thing ∷ others.thing;
        means = record {
          node = node;
          inside = here;
          others = left;
          nodes_are = ap (λ (ns : List Node). node ∷ ns) (sym (take-append-drop node.inside nodes));
          inside_is = sym size;
          means = first.means;
          rest = others.means;
        };
        few = omega (arith, given_split node.inside nodes);
      }

  -- what fills a table or an array
  items_told : (item : Judge A) (pool : List ℕ)
      → MakesMeant (made_items item make pool) (λ node inside xs. Holds item (λ things nodes. AreNodes Means things nodes) pool node inside xs)
  unfolding made_items given_length
  items_told item pool end node [] bytes within h =
      let found = span_ok _ _ pool node.start node.length h in
      let given = given_ok _ found.content _ found.is in
      let le : node.length ≤ length (drop node.start pool) = omega (arith, length-drop node.start pool) in
      let size : length found.content ≡ node.length = sym (ap length found.span.bytes_are) ∙ length-take-le node.length (drop node.start pool) le in
      record {
        thing = given.0;
        means = record { content = found.content; span = found.span; fills = given.1 };
        few = omega (arith, given_most node);
      }
  items_told item pool end node (first ∷ others) bytes within h =
      let content = closed_ok _ (made_each make end 0 (first ∷ others)) h in
      let told = each_told end 0 (first ∷ others) content.0 content.1 in
      let past = given_past node (first ∷ others) (grind numbers) in
      record { thing = told.thing; means = told.means; few = omega arith }

-- ---- after a tag

mod_below : (width : NumberWidth) (n : ℕ) → n % number_limit width < number_limit width
mod_below bytes1 n = omega arith
mod_below width n = omega arith

module _ (pool : List ℕ) (nested : Nested) (Array : Node → List Node → List FieldValue → Type 0) (Table : Node → List Node → List Entry → Type 0)
    (array_told : MakesMeant (nested_array pool nested) Array) (table_told : MakesMeant (nested_table pool nested) Table) where
  module _ (end : ℕ) (node : Node) (inside : List Node) (bytes : List ℕ) (within : node.inside ≡ length inside) where
    abbrev Behind : FieldTag → Type 0
    Behind t = Told (λ v. (tag_of v ≡ t) × Tells (Array node inside) (Table node inside) pool node inside v) (node ∷ inside) bytes

    -- a node that is alone, of which this was made
    abbrev AloneIs : Made → Type 0
    AloneIs made = made_alone made (own_index end inside) inside ≡ Ok bytes

    leaf : {t : FieldTag} (v : FieldValue) → tag_of v ≡ t → is_given node ≡ false → inside ≡ []
        → Tells (Array node inside) (Table node inside) pool node inside v → Behind t
    leaf v is plain none tells = record { thing = v; means = (is, tells); few = given_none node inside (length bytes) plain none }

    unsigned : {t : FieldTag} (kind : UnsignedKind) → ((n : ℕ) → tag_of (unsigned_value kind n) ≡ t) → is_given node ≡ false
        → AloneIs (made_number (unsigned_width kind) (own_index end inside) node.number) → Behind t
    unfolding Tells
    unsigned kind is plain h =
        let alone = alone_ok _ (made_number (unsigned_width kind) (own_index end inside) node.number) inside h in
        leaf (unsigned_value kind node.number) (is node.number) plain alone.0 (number_ok _ (unsigned_width kind) node.number alone.1, refl, alone.0)

    signed_of : {t : FieldTag} (kind : SignedKind) → ((n : ℤ) → tag_of (signed_value kind n) ≡ t) → is_given node ≡ false → inside ≡ []
        → is_signed (signed_width kind) node.number ≡ true → Behind t
    unfolding Tells
    signed_of kind is plain none fits =
        let width = signed_width kind in
        let bits = node.number % number_limit width in
        let n = cast_signed (width_of width) bits in
        leaf (signed_value kind n) (is n) plain none
        (record { bits = bits; fits = mod_below width node.number; means = refl; number_is = signed_back width node.number fits }, none)

    signed : {t : FieldTag} (kind : SignedKind) → ((n : ℤ) → tag_of (signed_value kind n) ≡ t) → is_given node ≡ false
        → AloneIs (made_signed (signed_width kind) (own_index end inside) node.number) → Behind t
    signed kind is plain h =
        let alone = alone_ok _ (made_signed (signed_width kind) (own_index end inside) node.number) inside h in
        signed_of kind is plain alone.0 (if_ok _ _ (is_signed (signed_width kind) node.number) alone.1)

    text : {t : FieldTag} (kind : BytesKind) → ((content : List ℕ) → tag_of (bytes_value kind content) ≡ t) → is_given node ≡ false
        → AloneIs (made_span (made_long (own_index end inside)) (own_index end inside) (span_in pool node.start node.length)) → Behind t
    unfolding Tells
    text kind is plain h =
        let make = made_long (own_index end inside) in
        let alone = alone_ok _ (made_span make (own_index end inside) (span_in pool node.start node.length)) inside h in
        let found = span_ok _ make pool node.start node.length alone.1 in
        leaf (bytes_value kind found.content) (is found.content) plain alone.0 (found.span, alone.0)

    behind_told : (t : FieldTag) → tag_byte t ≡ node.kind → made_behind pool nested t end node inside ≡ Ok bytes → Behind t
    unfolding made_behind made_leaf Tells
    behind_told tag.Boolean is h =
        let alone = alone_ok _ (made_truth (own_index end inside) node.number) inside h in
        let test = if_ok _ _ (nat_lt node.number 2) alone.1 in
        leaf (boolean_value (node.number == 1)) refl (grind numbers) alone.0
        (sym (bit_is node.number (grind numbers)), alone.0)
    behind_told tag.ShortShortInt is h = signed short_short_int (λ n. refl) (grind numbers) h
    behind_told tag.ShortShortUInt is h = unsigned short_short_uint (λ n. refl) (grind numbers) h
    behind_told tag.ShortInt is h = signed short_int (λ n. refl) (grind numbers) h
    behind_told tag.ShortUInt is h = unsigned short_uint (λ n. refl) (grind numbers) h
    behind_told tag.LongInt is h = signed long_int (λ n. refl) (grind numbers) h
    behind_told tag.LongUInt is h = unsigned long_uint (λ n. refl) (grind numbers) h
    behind_told tag.LongLongInt is h =
        let alone = alone_ok _ (made_number bytes8 (own_index end inside) node.number) inside h in
        let few : node.number < 2 ^ 64 = number_ok _ bytes8 node.number alone.1 in
        signed_of long_long_int (λ n. refl) (grind numbers) alone.0 (grind numbers)
    behind_told tag.Float is h = unsigned float (λ n. refl) (grind numbers) h
    behind_told tag.Double is h = unsigned double (λ n. refl) (grind numbers) h
    behind_told tag.DecimalValue is h =
        let scale = made_number bytes1 (own_index end inside) node.scale in
        let number = made_number bytes4 (own_index end inside) node.number in
        let alone = alone_ok _ (after scale number) inside h in
        let parts = after_ok scale number alone.1 in
        leaf (decimal_value node.scale node.number) refl (grind numbers) alone.0
        (number_ok _ bytes1 node.scale parts.first_is, number_ok _ bytes4 node.number parts.second_is, refl, refl, alone.0)
    behind_told tag.LongString is h = text long_string (λ content. refl) (grind numbers) h
    behind_told tag.FieldArray is h =
        let told = array_told end node inside bytes within h in
        record { thing = array_value (values_of told.thing); means = (refl, rw items-values_of told.means); few = told.few }
    behind_told tag.Timestamp is h = unsigned timestamp (λ n. refl) (grind numbers) h
    behind_told tag.FieldTable is h =
        let told = table_told end node inside bytes within h in
        record { thing = table_value (entries_of told.thing); means = (refl, rw pairs-entries_of told.means); few = told.few }
    behind_told tag.ByteArray is h = text byte_array (λ content. refl) (grind numbers) h
    behind_told tag.Void is h =
        let alone = alone_ok _ (Ok []) inside h in
        leaf void_value refl (grind numbers) alone.0 alone.0

  -- a tag and its value
  tagged_told : MakesMeant (made_tagged pool nested)
      (λ node inside v. (node.kind ≡ tag_byte (tag_of v)) × Tells (Array node inside) (Table node inside) pool node inside v)
  unfolding made_tagged
  tagged_told end node inside bytes within h = by (tag_at node.kind) h
    where
      by : (o : Option FieldTag) → made_known pool nested o end node inside ≡ Ok bytes
          → Told (λ v. (node.kind ≡ tag_byte (tag_of v)) × Tells (Array node inside) (Table node inside) pool node inside v) (node ∷ inside) bytes
      by None h = absurd cc
      by (Some t) h =
          let behind = made_behind pool nested t end node inside in
          let both = holds (tag_byte t == node.kind) (after (Ok (tag_byte t ∷ [])) behind) _ _ h in
          let same : tag_byte t ≡ node.kind = grind numbers in
          let parts = after_ok (Ok (tag_byte t ∷ [])) behind both.1 in
          let told = behind_told end node inside parts.behind within t same parts.second_is in
          record { thing = told.thing; means = (sym same ∙ ap (λ k. tag_byte k) (sym told.means.0), told.means.1); few = omega arith }

-- ---- tables, arrays and values

module _ (pool : List ℕ) where
  module _ (depth_left : ℕ) (value : Maker) (one : MakesMeant value (TellsValue depth_left pool)) where
    -- an entry
    pub entry_told : MakesMeant (made_entry pool value) (TellsEntry (TellsValue depth_left pool) pool)
    unfolding made_entry
    entry_told end node inside bytes within h =
        let index = own_index end inside in
        let parts = after_ok (made_span (made_text index) index (span_in pool node.key_start node.key_length)) (value end node inside) h in
        let key = span_ok _ (made_text index) pool node.key_start node.key_length parts.first_is in
        let text = text_ok _ key.content key.is in
        let told = one end node inside parts.behind within parts.second_is in
        record {
          thing = (key.content, told.thing);
          means = record { key = key.span; short = text.0; utf8 = text.1; value = told.means };
          few = omega arith;
        }

    -- a table
    pub table_told : MakesMeant (made_table pool depth_left value) (TellsTable depth_left pool)
    table_told end node inside bytes within h =
        let told =
        items_told (made_entry pool value) (TellsEntry (TellsValue depth_left pool) pool) entry_told (judge_entry (judge_value depth_left)) pool
        end node inside bytes within h in
        record { thing = settled told.thing; means = record { entries = told.thing; holds = told.means; settles = refl }; few = told.few }

  -- a value
  pub value_told : (depth_left : ℕ) → MakesMeant (made_value pool depth_left) (TellsValue depth_left pool)
  unfolding made_value made_nested TellsAt
  value_told zero =
      tagged_told pool None (λ node inside values. ⊥) (λ node inside table. ⊥)
      (λ end node inside bytes within h. absurd cc) (λ end node inside bytes within h. absurd cc)
  value_told (suc depth_left) =
      let value = made_value pool depth_left in
      tagged_told pool (Some (depth_left, value)) (HoldsValues depth_left pool) (TellsTable depth_left pool)
      (items_told value (TellsValue depth_left pool) (value_told depth_left) (judge_value depth_left) pool)
      (table_told depth_left value (value_told depth_left))
