-- The nodes of a value mean the value.
use Rattle.std.proofs.Common.{length-drop, take_all, ◌≡◌, ◌⊎◌, inl, inr, ℕ, zero, suc, ◌+◌, ◌-◌, ◌≤◌, false, List, [], ◌∷◌, length, drop, Option, Some, None}
use Rattle.std.proofs.Common.{Result, Ok, Err, refl, ap, ◌∙◌, arith}
use Rattle.std.specs.Int.{w64, cast_unsigned}
use Rattle.amqp_fields.proofs.Names.{bind_took, value_took, count_took, Judge, Fault, took, ◌>>=◌, judge_both, judge_map, NumberWidth, bytes1, bytes2, bytes4}
use Rattle.amqp_fields.proofs.Names.{bytes8, judge_number, judge_short_string, judge_long_string, bit_of, filled, read_map, took_all, judge_array, judge_behind}
use Rattle.amqp_fields.proofs.Names.{judge_decimal, judge_entry, judge_table, judge_tagged, judge_value, nested, behind_tag, settled, tag_at, tag_byte, tag_of}
use Rattle.amqp_fields.proofs.Names.{FieldTag, Node, blank, held, keyed, numbered, spanned, end_before, holding, joined, listed_after, listed_array}
use Rattle.amqp_fields.proofs.Names.{listed_behind, listed_entry, listed_items, listed_nested, listed_span, listed_table, listed_tagged, listed_value, of_kind}
use Rattle.amqp_fields.proofs.Names.{scaled, AreInside, HasNoKey, HasNoNumber, IsArray, IsNumber, IsScaled, IsSpan, IsTable, IsText, MeansElement, MeansEntry}
use Rattle.amqp_fields.proofs.Names.{MeansValue, Says, SaysAt, LiesIn, SpansLieIn, has_span}
use Rattle.amqp_types.specs.Signed.{judge_signed}
use Rattle.amqp_types.specs.Booleans.{judge_boolean}
use Rattle.amqp_types.specs.Values.{FieldValue, Entry, BytesKind, short_short_int, short_int, long_int, long_long_int, short_short_uint, short_uint, long_uint}
use Rattle.amqp_types.specs.Values.{float, double, timestamp, long_string, byte_array, boolean_value, signed_value, unsigned_value, decimal_value, bytes_value}
use Rattle.amqp_types.specs.Values.{array_value, table_value, void_value, values_of, entries_of}
use Rattle.amqp_types.specs.declared.tag.FieldTag.TheVariants as tag
use Rattle.amqp_laws.proofs.Conversions.{items-values_of, pairs-entries_of}
use Rattle.amqp_fields.proofs.Agreeing.{Agree, AgreeAll, agree_as, agree_fault, agree_make, agree_past, agree_same, agree_then, agree_took}
use Rattle.amqp_fields.proofs.Groups.{Finds, IsAt, IsGroupOf, at_drop, at_part, filled_found, regroup}
use Rattle.amqp_fields.proofs.Lying.{one_lies, wider}
use Rattle.amqp_fields.proofs.Spans.{IsPart, long_part, number_took, short_part, span_of}

-- ---- nodes that begin as a label does

-- what was known of a node before stays
pub record Keeps (label node : Node) : Type 0 where
  pub key_start : node.key_start ≡ label.key_start
  pub key_length : node.key_length ≡ label.key_length
  pub place : node.place ≡ label.place
  pub kind : node.kind ≡ label.kind

pub keeps_itself : (label : Node) → Keeps label label
keeps_itself label = search

-- nothing is said of what lies inside yet
pub record IsFresh (label : Node) : Type 0 where
  pub inside : label.inside ≡ 0
  pub items : label.items ≡ 0
  pub start : label.start ≡ 0
  pub count : label.length ≡ 0
  pub number : label.number ≡ 0
  pub scale : label.scale ≡ 0

-- nothing is said of what a label stands for, and its key lies between two places, where it has one
pub record IsLabel (from to : ℕ) (label : Node) : Type 0 where
  pub fresh : IsFresh label
  pub key : HasNoKey label ⊎ LiesIn from to label.key_start label.key_length

-- ---- what judgements take

-- a way to decode takes no more bytes than there are
abbrev pub IsBounded : {A : Type 0} → Judge A → Type 0
IsBounded {A} judge = (bytes : List ℕ) (x : A) (n : ℕ) → judge bytes ≡ took x n → n ≤ length bytes

-- what a mapped judgement took is made of what the judgement took
pub map_took : {A B : Type 0} (judge : Judge A) (make : A → B) (bytes : List ℕ) (y : B) (n : ℕ)
    → judge_map make judge bytes ≡ took y n → (x : A) × (judge bytes ≡ took x n) × (make x ≡ y)
map_took judge make bytes _ _ h =
    let one = bind_took (judge bytes) _ _ _ h in
    (one.0, one.2 ∙ ap (took one.0) (count_took _ _ _ _ one.3), value_took _ _ _ _ one.3)

-- what two judgements took, one after the other
pub both_took : {A B C : Type 0} (first : Judge A) (second : Judge B) (join : A → B → C) (bytes : List ℕ) (z : C) (k : ℕ)
    → judge_both first second join bytes ≡ took z k → (x : A) × (n : ℕ) × (y : B) × (m : ℕ) × (first bytes ≡ took x n)
    × (second (drop n bytes) ≡ took y m) × (join x y ≡ z) × (n + m ≡ k)
both_took first second join bytes _ _ h =
    let one = bind_took (first bytes) _ _ _ h in
    let two = bind_took (second (drop one.1 bytes)) _ _ _ one.3 in
    (one.0, one.1, two.0, two.1, one.2, two.2, value_took _ _ _ _ two.3, count_took _ _ _ _ two.3)

-- what is made of it takes no more
pub map_bounded : {A B : Type 0} {judge : Judge A} (make : A → B) → IsBounded judge → IsBounded (judge_map make judge)
map_bounded {judge = judge} make bounded bytes y n h = let one = map_took judge make bytes _ _ h in bounded bytes one.0 n one.1

-- a number takes no more bytes than there are
pub number_bounded : (width : NumberWidth) → IsBounded (judge_number width)
number_bounded width bytes x n h = (number_took width bytes _ _ h).1

signed_bounded : (width : NumberWidth) → IsBounded (judge_signed width)
signed_bounded width = map_bounded _ (number_bounded width)

boolean_bounded : IsBounded judge_boolean
boolean_bounded [] x n h = absurd cc
boolean_bounded (byte ∷ bytes) x n h = let count : 1 ≡ n = cc in omega (arith, count)

decimal_bounded : IsBounded judge_decimal
unfolding judge_decimal
decimal_bounded bytes x n h =
    let p = both_took (judge_number bytes1) (judge_number bytes4) _ bytes _ _ h in
    omega (arith, number_bounded bytes1 bytes p.0 p.1 p.4, number_bounded bytes4 (drop p.1 bytes) p.2 p.3 p.5, length-drop p.1 bytes, p.7)

-- what is taken out of all bytes was read
pub all_took : {A : Type 0} (used n : ℕ) (r : Result A Fault) (x : A) → took_all used r ≡ took x n → (r ≡ Ok x) × (used ≡ n)
all_took _ _ (Ok y) _ h = (ap Ok (value_took _ _ _ _ h), count_took _ _ _ _ h)
all_took _ _ (Err bad) _ h = absurd cc

-- what is made of a result was read
pub map_read : {A B : Type 0} (f : A → B) (r : Result A Fault) (y : B) → read_map f r ≡ Ok y → (x : A) × (r ≡ Ok x) × (f x ≡ y)
map_read f (Ok x) _ h = (x, refl, cc)
map_read f (Err bad) _ h = absurd cc

-- all bytes are taken, and something is made of what fills them
agree_all : {A B C : Type 0} {Q : A → B → Type 0} {R : A → C → ℕ → Type 0} {size : ℕ} (n : ℕ) (r : Result A Fault) (s : Result B Fault) (hold : B → C)
    → n ≤ size → AgreeAll Q r s → ((x : A) (y : B) → Q x y → R x (hold y) n) → Agree R size (took_all n r) (took_all n (read_map hold s))
agree_all {Q = Q} n (Ok x) (Ok y) hold few h holds =
    let one = h.there x refl in
    let same : one.0 ≡ y = cc (one.1) in
    agree_took x (hold y) n few (holds x y (rw same at one.2))
agree_all n (Ok x) (Err bad) hold few h holds = absurd (let one = h.there x refl in cc (one.1))
agree_all n (Err bad) (Ok y) hold few h holds = absurd (let one = h.back y refl in cc (one.1))
agree_all n (Err bad) (Err worse) hold few h holds = agree_fault

-- ---- a node alone

alone : {Means : Node → List Node → Type 0} {from to most : ℕ} (node : Node) → node.inside ≡ 0 → SpansLieIn from to node → Means node [] → 1 ≤ most
    → IsGroupOf Means from to most (node ∷ [])
alone node none lies means some =
    record { node = node; inside = []; nodes_are = refl; inside_is = none; means = means; few = some; lie = one_lies node none lies }

-- a number, as a single node of a kind without a span
pub leaf : {from to : ℕ} {label : Node} → IsLabel from to label → has_span label.kind ≡ false → {digits scale : ℕ} → digits ≡ scale → (number : ℕ)
    → IsGroupOf (λ node inside. Keeps label node × IsScaled node inside scale number) from to 1 (scaled label (digits, number) ∷ [])
leaf {label = label} h none {digits = digits} same number =
    alone (scaled label (digits, number)) h.fresh.inside (record { span = λ has. absurd cc; key = h.key })
    (search, (refl, same, (h.fresh.start, h.fresh.count), (h.fresh.items, refl))) (omega arith)

module _ {payload : List ℕ} {from to : ℕ} {bytes : List ℕ} (at : IsAt payload from to bytes) {label : Node} (fresh : IsLabel from to label) where
  -- the node with the span of some content, behind a length
  spans_part : (content : List ℕ) (front n : ℕ) → IsPart bytes content front n → LiesIn from to (end_before to (drop n bytes) - length content) (length content)
  spans_part content front n part = let left = length-drop n bytes in (omega arith, omega arith)

  -- a string or a byte array by its span
  pub span_group : (content : List ℕ) (front n : ℕ) → IsPart bytes content front n → 1 ≤ n
      → IsGroupOf (λ node inside. Keeps label node × IsText payload node inside content) from to n (spanned label (end_before to (drop n bytes)) content ∷ [])
  span_group content front n part some =
      alone (spanned label (end_before to (drop n bytes)) content) fresh.fresh.inside
      (record { span = λ has. spans_part content front n part; key = fresh.key }) (
        search,
        (
          span_of payload content (end_before to (drop n bytes)) (at_part bytes content front n at part).stands,
          (fresh.fresh.number, fresh.fresh.scale),
          (fresh.fresh.items, refl),
        ),
      )
      some

  -- ---- arrays and tables

  -- what fills an array or a table, by the node in front
  abbrev Holds : {A : Type 0} → Judge A → (Node → List Node → A → Type 0) → List A → Node → List Node → Type 0
  Holds judge Means xs node inside =
      Keeps label node × (content : List ℕ) × IsSpan payload node.start node.length content × HasNoNumber node
      × (filled judge 0 content ≡ Ok xs) × AreInside Means node inside xs

  -- what fills an array or a table is listed behind a node that says its span
  content_found : {A B : Type 0} (judge : Judge A) (listed : ℕ → Judge (List Node)) (Means : Node → List Node → A → Type 0)
      (More : Node → List Node → B → Type 0) (read : Result (List A) Fault → Result B Fault) (make : List A → B)
      → ((low high : ℕ) (content : List ℕ) → IsAt payload low high content → Finds Means low high (length content) (judge content) (listed high content))
      → ((r : Result (List A) Fault) (y : B) → read r ≡ Ok y → (xs : List A) × (r ≡ Ok xs) × (make xs ≡ y))
      → ((xs : List A) → read (Ok xs) ≡ Ok (make xs))
      → ((xs : List A) (node : Node) (inside : List Node) → Holds judge Means xs node inside → Keeps label node × More node inside (make xs))
      → Finds (λ node inside y. Keeps label node × More node inside y) from to (length bytes)
      (judge_long_string bytes >>= λ c. took_all c.1 (read (filled judge 0 c.0))) (listed_items listed to label bytes)
  unfolding listed_items
  content_found judge listed Means More read make each was gives more =
      agree_same (judge_long_string bytes) _ _ (λ content n e.
      let part = long_part bytes _ _ e in
      let inner = end_before to (drop n bytes) in
      let low = inner - length content in
      let inside = at_part bytes content 4 n at part in
      let lies = spans_part content 4 n part in
      let all = filled_found judge (listed inner) Means payload low inner (each low inner) 0 content inside in
      let up : low + length content ≡ inner = omega (arith, inside.stands.fits) in
      agree_all
      {Q = λ y groups. IsGroupOf (λ node within. Keeps label node × More node within y) from to n (holding (spanned label inner content) groups)}
      n (read (filled judge 0 content)) _ _ part.within
      (record {
        there = λ y is.
            let xs = was (filled judge 0 content) y is in
            let one = all.there xs.0 xs.1 in
            let found = one.2 in
            let nodes = joined one.0 in
            let node = held (spanned label inner content) (length nodes) (length one.0) in
            let span = span_of payload content inner inside.stands in
            let means = more xs.0 node nodes (search, content, span, (fresh.fresh.number, fresh.fresh.scale), xs.1, (found.number, found.means)) in (
              one.0,
              one.1,
              record {
                node = node;
                inside = nodes;
                nodes_are = refl;
                inside_is = refl;
                means = rw xs.2 at means;
                few = omega arith;
                lie = record {
                  spans = (record { span = λ has. lies; key = fresh.key }, wider low inner from to nodes lies.0 (omega arith) found.lie.spans);
                  nested = (
                    omega arith,
                    rw (take_all (length nodes) nodes (omega arith))
                        (wider low inner low (low + length content) nodes (omega arith) (omega arith) found.lie.spans),
                    found.lie.nested,
                  );
                };
              },
            );
        back = λ groups is. let xs = all.back groups is in (make xs.0, ap read xs.1 ∙ gives xs.0);
      })
      (λ y groups group. group))

-- ---- entries and values of an array

-- a value behind a label: what was known stays, with its tag
abbrev IsMarked : ℕ → List ℕ → Node → Node → List Node → FieldValue → Type 0
IsMarked depth_left payload label node inside v = Keeps (of_kind label (tag_byte (tag_of v))) node × SaysAt depth_left payload node inside v

-- a value with its tag, by the node in front
abbrev pub ValueIsFound : ℕ → Type 0
ValueIsFound depth_left =
    (payload : List ℕ) (from to : ℕ) (bytes : List ℕ) (label : Node) → IsAt payload from to bytes → IsLabel from to label
    → Finds (IsMarked depth_left payload label) from to
    (length bytes) (judge_value depth_left bytes) (listed_value depth_left to label bytes)

-- an array of values one level deeper
abbrev pub IsArrayOf : ℕ → List ℕ → Node → List Node → List FieldValue → Type 0
IsArrayOf depth_left payload node inside vs =
    IsArray (judge_value depth_left) (AreInside (MeansElement (MeansValue depth_left payload)) node inside) payload node vs

-- a table of them
abbrev pub IsTableOf : ℕ → List ℕ → Node → List Node → List Entry → Type 0
IsTableOf depth_left payload node inside es =
    IsTable (judge_value depth_left) (AreInside (MeansEntry (MeansValue depth_left payload) payload) node inside) payload node es

module _ (depth_left : ℕ) (value : ValueIsFound depth_left) where
  module _ (payload : List ℕ) (from to : ℕ) (bytes : List ℕ) (at : IsAt payload from to bytes) where
    -- an entry whose value is found
    pub entry_found : Finds (MeansEntry (MeansValue depth_left payload) payload) from to
        (length bytes) (judge_entry (judge_value depth_left) bytes) (listed_entry (listed_value depth_left) to bytes)
    unfolding judge_entry listed_entry
    entry_found =
        agree_same (judge_short_string bytes) _ _ (λ key n e.
        let part = short_part bytes _ _ e in
        let rest = drop n bytes in
        let left = length-drop n bytes in
        let end = end_before to rest in
        let label = keyed end key in
        agree_then (judge_value depth_left rest) (listed_value depth_left to label rest) _ _
        (value payload from to rest label (at_drop bytes n at part.within) (record { fresh = search; key = inr (omega arith, omega arith) }))
        (λ v nodes m few group.
        agree_took (key, v) nodes (n + m) (omega arith) (regroup group (omega arith)
        (λ node inside means.
        let span = span_of payload key end (at_part bytes key 1 n at part).stands in
        (rw (means.0.key_start, means.0.key_length) span, (means.0.kind, means.0.place, means.1))))))

    -- a value as an item that fills an array
    pub item_found : Finds (MeansElement (MeansValue depth_left payload)) from to
        (length bytes) (judge_value depth_left bytes) (listed_value depth_left to blank bytes)
    item_found =
        agree_as (value payload from to bytes blank at (record { fresh = search; key = inl (refl, refl) })) (λ v nodes n group.
        regroup group (omega arith) (λ node inside means. ((means.0.key_start, means.0.key_length), (means.0.kind, means.0.place, means.1))))

  module _ {payload : List ℕ} {from to : ℕ} {bytes : List ℕ} (at : IsAt payload from to bytes) {label : Node} (fresh : IsLabel from to label) where
    -- an array behind its tag
    array_found : Finds (λ node inside vs. Keeps label node × IsArrayOf depth_left payload node inside vs) from to
        (length bytes) (judge_array (judge_value depth_left) bytes) (listed_array (listed_value depth_left) to label bytes)
    unfolding judge_array
    array_found =
        content_found at fresh (judge_value depth_left) (λ end. listed_value depth_left end blank) (MeansElement (MeansValue depth_left payload))
        (IsArrayOf depth_left payload) (λ r. r) (λ vs. vs) (item_found payload) (λ r vs is. (vs, is, refl)) (λ vs. refl)
        (λ vs node inside held. (held.0, record { content = held.1; span = held.2; no_number = held.3; fills = held.4; values_are = held.5 }))

    -- a table behind its tag
    pub table_found : Finds (λ node inside es. Keeps label node × IsTableOf depth_left payload node inside es) from to
        (length bytes) (judge_table (judge_value depth_left) bytes) (listed_table (listed_value depth_left) to label bytes)
    unfolding judge_table
    table_found =
        content_found at fresh (judge_entry (judge_value depth_left)) (listed_entry (listed_value depth_left))
        (MeansEntry (MeansValue depth_left payload) payload)
        (IsTableOf depth_left payload) (read_map settled) settled (entry_found payload) (map_read settled) (λ es. refl)
        (λ es node inside held. (
          held.0,
          record { content = held.1; span = held.2; no_number = held.3; entries = es; fills = held.4; entries_are = held.5; settles = refl },
        ))

-- ---- the value after a tag

module _ {payload : List ℕ} {from to : ℕ} {bytes : List ℕ} (at : IsAt payload from to bytes) {label : Node} (fresh : IsLabel from to label)
    (Array : Node → List Node → List FieldValue → Type 0) (Table : Node → List Node → List Entry → Type 0) where
  -- a node of the kind of a tag
  abbrev tagged : FieldTag → Node
  tagged t = of_kind label (tag_byte t)

  -- a value, by a node of its kind
  abbrev IsTagged : Node → List Node → FieldValue → Type 0
  IsTagged node inside v = Keeps (tagged (tag_of v)) node × Says (Array node inside) (Table node inside) payload node inside v

  abbrev IsBehind : FieldValue → List Node → ℕ → Type 0
  IsBehind v nodes n = IsGroupOf (λ node inside. IsTagged node inside v) from to (1 + n) nodes

  of_tag : (t : FieldTag) → IsLabel from to (tagged t)
  of_tag t = record { fresh = search; key = fresh.key }

  -- a number, a truth value or a decimal, as a single node
  plain : {A : Type 0} (t : FieldTag) → has_span (tag_byte t) ≡ false → (judge : Judge A) → IsBounded judge
      → (make : A → FieldValue) (digits scale number : A → ℕ) → ((x : A) → digits x ≡ scale x)
      → ((x : A) (node : Node) (inside : List Node) → Keeps (tagged t) node × IsScaled node inside (scale x) (number x) → IsTagged node inside (make x))
      → Agree IsBehind (length bytes) (judge_map make judge bytes) (judge_map (λ x. scaled (tagged t) (digits x, number x) ∷ []) judge bytes)
  plain t none judge bounded make digits scale number same says =
      agree_same (judge bytes) _ _ (λ x n e.
      agree_took (make x) (scaled (tagged t) (digits x, number x) ∷ []) n (bounded bytes x n e)
      (regroup (leaf (of_tag t) none (same x) (number x)) (omega arith) (says x)))

  -- the same without digits behind the point
  whole : {A : Type 0} (t : FieldTag) → has_span (tag_byte t) ≡ false → (judge : Judge A) → IsBounded judge → (make : A → FieldValue) (number : A → ℕ)
      → ((x : A) (node : Node) (inside : List Node) → Keeps (tagged t) node × IsNumber node inside (number x) → IsTagged node inside (make x))
      → Agree IsBehind (length bytes) (judge_map make judge bytes) (judge_map (λ x. numbered (tagged t) (number x) ∷ []) judge bytes)
  whole t none judge bounded make number says =
      plain t none judge bounded make (λ x. label.scale) (λ x. 0) number (λ x. fresh.fresh.scale) says

  bytes_behind : (t : FieldTag) (kind : BytesKind)
      → ((x : List ℕ) (node : Node) (inside : List Node) → Keeps (tagged t) node × IsText payload node inside x → IsTagged node inside (bytes_value kind x))
      → Agree IsBehind (length bytes) (judge_map (bytes_value kind) judge_long_string bytes) (listed_span judge_long_string to (tagged t) bytes)
  unfolding listed_span
  bytes_behind t kind says =
      agree_same (judge_long_string bytes) _ _ (λ x n e.
      let part = long_part bytes _ _ e in
      agree_took (bytes_value kind x) _ n part.within (regroup (span_group at (of_tag t) x 4 n part (omega (arith, part.used_is))) (omega arith) (says x)))

  -- arrays and tables, where one more level may be nested
  abbrev NestsAre : ℕ → Type 0
  NestsAre zero = Unit {0}
  NestsAre (suc depth_left) =
      Finds (λ node inside vs. Keeps (tagged tag.FieldArray) node × Array node inside vs) from to
      (length bytes) (judge_array (judge_value depth_left) bytes) (listed_array (listed_value depth_left) to (tagged tag.FieldArray) bytes)
      × Finds (λ node inside es. Keeps (tagged tag.FieldTable) node × Table node inside es) from to
      (length bytes) (judge_table (judge_value depth_left) bytes) (listed_table (listed_value depth_left) to (tagged tag.FieldTable) bytes)

  behind_found : (depth_left : ℕ) → NestsAre depth_left → (t : FieldTag)
      → Agree IsBehind (length bytes) (judge_behind (nested depth_left) t bytes) (listed_behind (listed_nested depth_left) to (tagged t) t bytes)
  unfolding judge_behind listed_behind Says nested listed_nested judge_value listed_value
  behind_found depth_left below tag.Boolean =
      whole tag.Boolean refl judge_boolean boolean_bounded boolean_value bit_of (λ x node inside h. h)
  behind_found depth_left below tag.DecimalValue =
      plain tag.DecimalValue refl judge_decimal decimal_bounded (λ d. decimal_value d.0 d.1)
      (λ d. d.0) (λ d. d.0) (λ d. d.1) (λ d. refl) (λ d node inside h. h)
  behind_found depth_left below tag.LongString = bytes_behind tag.LongString long_string (λ x node inside h. h)
  behind_found depth_left below tag.ByteArray = bytes_behind tag.ByteArray byte_array (λ x node inside h. h)
  behind_found depth_left below tag.Void =
      agree_took void_value (tagged tag.Void ∷ []) 0 (omega arith) (alone (tagged tag.Void) fresh.fresh.inside
      (record { span = λ has. absurd cc; key = fresh.key })
      (search, ((fresh.fresh.number, fresh.fresh.scale), (fresh.fresh.start, fresh.fresh.count), (fresh.fresh.items, refl))) (omega arith))
  behind_found zero below tag.FieldArray = agree_fault
  behind_found (suc depth_left) below tag.FieldArray =
      agree_make (judge_array (judge_value depth_left) bytes) _ (λ vs. array_value (values_of vs)) below.0 (λ vs nodes n group.
      regroup group (omega arith) (λ node inside means. (means.0, rw items-values_of means.1)))
  behind_found zero below tag.FieldTable = agree_fault
  behind_found (suc depth_left) below tag.FieldTable =
      agree_make (judge_table (judge_value depth_left) bytes) _ (λ es. table_value (entries_of es)) below.1 (λ es nodes n group.
      regroup group (omega arith) (λ node inside means. (means.0, rw pairs-entries_of means.1)))
  behind_found depth_left below tag.ShortShortInt =
      whole tag.ShortShortInt refl (judge_signed bytes1) (signed_bounded bytes1) (signed_value short_short_int) (cast_unsigned w64) (λ x node inside h. h)
  behind_found depth_left below tag.ShortInt =
      whole tag.ShortInt refl (judge_signed bytes2) (signed_bounded bytes2) (signed_value short_int) (cast_unsigned w64) (λ x node inside h. h)
  behind_found depth_left below tag.LongInt =
      whole tag.LongInt refl (judge_signed bytes4) (signed_bounded bytes4) (signed_value long_int) (cast_unsigned w64) (λ x node inside h. h)
  behind_found depth_left below tag.LongLongInt =
      whole tag.LongLongInt refl (judge_signed bytes8) (signed_bounded bytes8) (signed_value long_long_int) (cast_unsigned w64) (λ x node inside h. h)
  behind_found depth_left below tag.ShortShortUInt =
      whole tag.ShortShortUInt refl (judge_number bytes1) (number_bounded bytes1) (unsigned_value short_short_uint) (λ x. x) (λ x node inside h. h)
  behind_found depth_left below tag.ShortUInt =
      whole tag.ShortUInt refl (judge_number bytes2) (number_bounded bytes2) (unsigned_value short_uint) (λ x. x) (λ x node inside h. h)
  behind_found depth_left below tag.LongUInt =
      whole tag.LongUInt refl (judge_number bytes4) (number_bounded bytes4) (unsigned_value long_uint) (λ x. x) (λ x node inside h. h)
  behind_found depth_left below tag.Float =
      whole tag.Float refl (judge_number bytes4) (number_bounded bytes4) (unsigned_value float) (λ x. x) (λ x node inside h. h)
  behind_found depth_left below tag.Double =
      whole tag.Double refl (judge_number bytes8) (number_bounded bytes8) (unsigned_value double) (λ x. x) (λ x node inside h. h)
  behind_found depth_left below tag.Timestamp =
      whole tag.Timestamp refl (judge_number bytes8) (number_bounded bytes8) (unsigned_value timestamp) (λ x. x) (λ x node inside h. h)

  -- a tag and its value
  tagged_found : (depth_left : ℕ) → NestsAre depth_left → (o : Option FieldTag)
      → Finds IsTagged from to (suc (length bytes)) (behind_tag (nested depth_left) o bytes) (listed_after (listed_nested depth_left) to label o bytes)
  tagged_found depth_left below None = agree_fault
  tagged_found depth_left below (Some t) =
      agree_then (judge_behind (nested depth_left) t bytes) (listed_behind (listed_nested depth_left) to (tagged t) t bytes) _ _
      (behind_found depth_left below t) (λ v nodes n few group. agree_took v nodes (1 + n) (omega arith) group)

-- the nodes that are listed of a value mean the value
pub value_found : (depth_left : ℕ) → ValueIsFound depth_left
unfolding judge_value judge_tagged listed_value listed_tagged SaysAt
value_found depth_left payload from to [] label at fresh = agree_past
value_found zero payload from to (byte ∷ bytes) label at fresh =
    tagged_found (at_drop (byte ∷ bytes) 1 at (omega arith)) fresh (λ node inside vs. ⊥) (λ node inside es. ⊥) zero tt (tag_at byte)
value_found (suc depth_left) payload from to (byte ∷ bytes) label at fresh =
    let here : IsAt payload from to bytes = at_drop (byte ∷ bytes) 1 at (omega arith) in
    let deeper = value_found depth_left in
    let key : (kind : ℕ) → IsLabel from to (of_kind label kind) = λ kind. record { fresh = search; key = fresh.key } in
    tagged_found here fresh (IsArrayOf depth_left payload) (IsTableOf depth_left payload) (suc depth_left)
    (array_found depth_left deeper here (key _), table_found depth_left deeper here (key _)) (tag_at byte)
