-- Values that were read, and what fills tables and arrays, are made, and are read again as the same nodes.
use Rattle.amqp_fields_laws.proofs
use Rattle.amqp_types.specs as types
use Rattle.amqp_fields.specs as reading
use Rattle.std.proofs.Common.{◌≡◌, ℕ, zero, suc, ◌-◌, ◌<◌, ◌≤◌, ◌^◌, false, List, [], ◌∷◌, ◌++◌, length, drop, Result, Ok, refl, sym, ap, ap₂, subst, ◌∙◌}
use Rattle.std.proofs.Common.{arith, ◌+◌, Option, Some, None, inl, inr, append_assoc}
use Rattle.std.proofs.lemmas.List.{drop_at, length-append, nil_from_length, length-drop}
use types.Judging.{Judged, Judge, Fault, IsBytes, took, past, fault}
use types.Strings.{judge_long_string, with_length, judge_short_string, short_string_bytes}
use types.ValueJudging.{filled, next_item, read_map, behind_tag, judge_array, judge_behind, judge_decimal, judge_entry, judge_table, judge_tagged, judge_value}
use types.ValueJudging.{nested}
use Rattle.amqp_types.proofs.Texts.{long_string_exact, short_string_exact}
use Rattle.amqp_laws.proofs.Filling.{filled_next}
use reading.declared.node.Node.{Node}
use reading.Listed.{holding, joined, listed_items, listed_after, listed_behind, listed_entry, listed_nested, listed_value, listed_tagged, of_kind}
use Rattle.amqp_fields_write.specs.Made.{Maker, after, closed, made_each, made_given, made_items, own_index, made_behind, made_entry, made_leaf, made_long}
use Rattle.amqp_fields_write.specs.Made.{made_nested, made_text, made_value}
use reading.Meaning.{IsSpan}
use reading.Nodes.{StandsFirst, held, spanned, blank, keyed}
use Rattle.amqp_fields_laws.specs.SameNodes.{HasInside, SameNodes}
use Rattle.amqp_fields_write.proofs.ValuesMade.{each_next, each_none, value_parts}
use proofs.SameNodes.{each_append, each_length}
use Rattle.amqp_fields.proofs.Agreeing.{next_took}
use types.Sequences.{judge_map}
use Rattle.amqp_fields.proofs.Spans.{Stands, long_part, part_stands, span_of, stands_drop, short_part}
use Rattle.amqp_fields.proofs.ValuesFound.{IsFresh, Keeps, map_read, all_took, keeps_itself, map_took}
use proofs.Twins.{long_made, span_made, IsMade, IsRound, stands_fit, decimal_round, eight_round, long_round, number_round, signed_round, text_made, truth_round}
use proofs.Twins.{AreAlike, as_made, no_bytes, one_same, same_span, stands_behind, then_took}
use types.Numbers.{bytes1, bytes2, bytes4, bytes8, judge_number}
use types.Signed.{judge_signed}
use types.Booleans.{judge_boolean}
use types.Values.{FieldValue, Entry, short_short_int, short_int, long_int, long_long_int, short_short_uint, short_uint, long_uint, float, double, timestamp}
use types.Values.{long_string, byte_array, boolean_value, signed_value, unsigned_value, decimal_value, bytes_value, array_value, table_value, void_value}
use types.Values.{values_of, entries_of}
use types.Settling.{settled}
use types.Tags.{tag_at, tag_byte}
use types.declared.tag.FieldTag.{FieldTag}
use types.declared.tag.FieldTag.TheVariants as tag
use Rattle.amqp_types.proofs.Took.{bind_took, count_took}
use Rattle.amqp_laws.proofs.Tags.{tag_read}

-- groups that were listed again, as many and with the same nodes
pub record AreTwins (pool other : List ℕ) (groups : List (List Node)) (listed : Result (List (List Node)) Fault) : Type 0 where
  pub more : List (List Node)
  pub is : listed ≡ Ok more
  pub number : length more ≡ length groups
  pub same : SameNodes pool other (joined groups) (joined more)

-- Groups that were listed of some bytes: they make no more bytes than these, which are listed again as twins.
pub record AreItems (pool : List ℕ) (make : Maker) (listed : Result (List (List Node)) Fault) (list : ℕ → Judge (List Node)) (size : ℕ) : Type 0 where
  pub groups : List (List Node)
  pub is : listed ≡ Ok groups
  pub made : List ℕ
  pub made_is : (end : ℕ) → made_each make end 0 (joined groups) ≡ Ok made
  pub made_size : length made ≤ size
  pub none : joined groups ≡ [] → size ≡ 0
  pub again : (other : List ℕ) (end : ℕ) → Stands other end made → AreTwins pool other groups (filled (list end) 0 made)

-- a node with those inside it makes at least one byte
pub record MakesItem (make : Maker) (nodes : List Node) (made : List ℕ) : Type 0 where
  pub node : Node
  pub inside : List Node
  pub nodes_are : nodes ≡ node ∷ inside
  pub inside_is : node.inside ≡ length inside
  pub is : (end : ℕ) → make end node inside ≡ Ok made
  pub some : 1 ≤ length made

-- a thing that fills a part of a table or an array
abbrev pub IsItem : List ℕ → Maker → (ℕ → Judge (List Node)) → ℕ → List ℕ → ℕ → Type 0
IsItem pool make list end bytes used = IsMade false pool (MakesItem make) list end bytes used

module _ {A : Type 0} (judge : Judge A) (list : ℕ → Judge (List Node)) (make : Maker) (pool : List ℕ) (end : ℕ)
    (each : (bytes : List ℕ) (x : A) (n : ℕ) → Stands pool end bytes → judge bytes ≡ took x n → IsItem pool make list end bytes n)
  where
    -- the things that fill some bytes are made, and listed again
    filled_round : (k : ℕ) (bytes : List ℕ) (xs : List A) (size : ℕ) → Stands pool end bytes → filled judge k bytes ≡ Ok xs → size ≡ length bytes - k
        → AreItems pool make (filled (list end) k bytes) list size
    unfolding filled
    filled_round k [] xs size stands h left = record {
      groups = [];
      is = refl;
      made = [];
      made_is = λ e. each_none make e;
      made_size = omega arith;
      none = λ empty. omega arith;
      again = λ other e stands. record { more = []; is = refl; number = refl; same = tt };
    }
    filled_round (suc k) (byte ∷ bytes) xs size stands h left = filled_round k bytes xs size (stands_behind (byte ∷ []) stands) h (omega arith)
    filled_round zero (byte ∷ bytes) xs size stands h left =
        let j = next_took (judge (byte ∷ bytes)) (λ n. filled judge (n - 1) bytes) xs h in
        let one = each (byte ∷ bytes) j.0 j.1 stands j.3 in
        let others = filled_round (j.1 - 1) bytes j.2 _ (stands_behind (byte ∷ []) stands) j.4 refl in
        let group = one.nodes in
        let item = one.makes in
        let sizes = length-append one.made others.made in
        let first : StandsFirst (group ++ joined others.groups) item.node item.inside (joined others.groups) =
        record { nodes_are = ap (λ ns. ns ++ joined others.groups) item.nodes_are; inside_is = item.inside_is } in
        record {
          groups = group ∷ others.groups;
          is = rw (one.is, others.is);
          made = one.made ++ others.made;
          made_is = λ e.
              each_next make e first ∙ ap₂ (λ a b. after a b) (item.is (e - length (joined others.groups))) (others.made_is e);
          made_size = omega arith;
          none = λ empty. absurd (let e = sym first.nodes_are ∙ empty in cc);
          again = λ other e stands.
              let one_twin = one.again other others.made e stands in
              let twins = others.again other e (stands_behind one.made stands) in
              record {
                more = one_twin.nodes ∷ twins.more;
                is =
                    filled_next (list e) (one.made ++ others.made) one_twin.nodes (length one.made) (omega arith) one_twin.is item.some (omega arith)
                    ∙ rw (drop_at one.made others.made (length one.made) refl, twins.is);
                number = ap suc twins.number;
                same = each_append _ group one_twin.nodes (joined others.groups) (joined twins.more) one_twin.same.same twins.same;
              };
        }

-- ---- content

-- content that was read, and what fills it
pub record HasContent {A : Type 0} (judge : Judge A) (bytes : List ℕ) (n : ℕ) : Type 0 where
  pub content : List ℕ
  pub things : List A
  pub is : judge_long_string bytes ≡ took content n
  pub fills : filled judge 0 content ≡ Ok things

-- the content of an array
array_content : {B : Type 0} {y : B} (value : Judge FieldValue) (wrap : List FieldValue → B) (bytes : List ℕ) (n : ℕ)
    → judge_map wrap (judge_array value) bytes ≡ took y n → HasContent value bytes n
unfolding judge_array
array_content value wrap bytes n h =
    let array = map_took (judge_array value) wrap bytes _ n h in
    let one = bind_took (judge_long_string bytes) _ _ n array.1 in
    let all = all_took one.1 n (filled value 0 one.0) array.0 one.3 in
    record { content = one.0; things = array.0; is = one.2 ∙ ap (took one.0) all.1; fills = all.0 }

-- the content of a table
pub table_content : {B : Type 0} {y : B} (value : Judge FieldValue) (wrap : List Entry → B) (bytes : List ℕ) (n : ℕ)
    → judge_map wrap (judge_table value) bytes ≡ took y n → HasContent (judge_entry value) bytes n
unfolding judge_table
table_content value wrap bytes n h =
    let table = map_took (judge_table value) wrap bytes _ n h in
    let one = bind_took (judge_long_string bytes) _ _ n table.1 in
    let all = all_took one.1 n (read_map settled (filled (judge_entry value) 0 one.0)) table.0 one.3 in
    let entries = map_read settled (filled (judge_entry value) 0 one.0) table.0 all.0 in
    record { content = one.0; things = entries.0; is = one.2 ∙ ap (took one.0) all.1; fills = entries.1 }

-- ---- arrays and tables

-- content that was read is made again with its length: as it stands in the pool where nothing lies inside
items_made : {A : Type 0} (judge : Judge A) (make : Maker) (pool : List ℕ) (end : ℕ) (node : Node) (inside : List Node) (content made : List ℕ)
    (xs : List A) → IsSpan pool node.start node.length content → filled judge 0 content ≡ Ok xs → length content < 2 ^ 32
    → made_each make end 0 inside ≡ Ok made → length made ≤ length content → (inside ≡ [] → length content ≡ 0)
    → made_items judge make pool end node inside ≡ Ok (with_length made)
unfolding made_items
items_made judge make pool end node [] content made xs span fills few is size none =
    let index = own_index end [] in
    let empty : content ≡ [] = nil_from_length content (none refl) in
    let same : content ≡ made = empty ∙ sym (nil_from_length made (omega (arith, none refl))) in
    span_made (λ bs. made_given index bs (filled judge 0 bs)) index span
    ∙ ap (made_given index content) fills ∙ long_made index content few ∙ ap (λ bs. Ok (with_length bs)) same
items_made judge make pool end node (first ∷ others) content made xs span fills few is size none =
    let index = own_index end (first ∷ others) in
    ap (closed index) is ∙ long_made index made (omega arith)

module _ {A : Type 0} {pool : List ℕ} (fits : IsBytes pool) (judge : Judge A) (list : ℕ → Judge (List Node)) (make : Maker)
    (each : (end : ℕ) (bytes : List ℕ) (x : A) (n : ℕ) → Stands pool end bytes → judge bytes ≡ took x n → IsItem pool make list end bytes n)
  where
    -- a table or an array, whose content some things fill
    pub items_round : {bytes : List ℕ} {end n : ℕ} {label : Node} (has : HasContent judge bytes n) → IsFresh label → HasInside label.kind
        → Stands pool end bytes → IsRound false pool (Keeps label) (made_items judge make pool) (listed_items list) label end bytes n
    unfolding listed_items
    items_round {bytes = bytes} {end = end} {n = n} {label = label} has fresh has_inside stands =
        let content = has.content in
        let part = long_part bytes content n has.is in
        let few = (long_string_exact.spelled bytes content n (stands_fit fits stands) has.is).0.fits in
        let inner = end - length (drop n bytes) in
        let there = part_stands pool bytes content end 4 n stands part in
        let items = filled_round judge list make pool inner (each inner) 0 content has.things _ there has.fills refl in
        let group = joined items.groups in
        let top = held (spanned label inner content) (length group) (length items.groups) in
        let made = with_length items.made in
        record {
          node = top;
          inside = group;
          is = simp (has.is, items.is);
          inside_is = refl;
          keeps = search;
          made = made;
          made_is = λ e.
              items_made judge make pool e top group content items.made has.things (span_of pool content inner there) has.fills few (items.made_is e)
              (omega arith) (λ empty. let zero_is = items.none empty in omega arith);
          made_size = omega arith;
          bound = part.within;
          again = λ other rest e twin alike standing.
              let whole = made ++ rest in
              let read : judge_long_string whole ≡ took items.made (length made) =
              long_string_exact.taken made rest items.made (record { fits = omega arith; bytes_are = refl }) in
              let within = e - length (drop (length made) whole) in
              let begins = part_stands other whole items.made e 4 (length made) standing (long_part whole items.made (length made) read) in
              let twins = items.again other within begins in
              record {
                nodes = holding (spanned twin within items.made) twins.more;
                is = simp (read, twins.is);
                same = record {
                  same = (
                    record {
                      kind_is = alike.kind;
                      place_is = alike.place;
                      number_is = cc;
                      scale_is = cc;
                      inside_is = each_length _ group (joined twins.more) twins.same;
                      items_are = sym twins.number;
                      key_is = alike.key;
                      span_is = λ no. absurd (no has_inside);
                    },
                    twins.same,
                  );
                  spans = λ alone. absurd cc;
                };
              };
        }

-- a node whose kind alone is known is fresh
as_kind : {a : Node} (kind : ℕ) → IsFresh a → IsFresh (of_kind a kind)
as_kind kind fresh = search

-- the key of a node stays
abbrev pub KeepsKey : Node → Node → Type 0
KeepsKey label node = (node.key_start ≡ label.key_start) × (node.key_length ≡ label.key_length)

-- ---- what holds of values at a depth

module _ (pool : List ℕ) where
  -- a value with its tag is made, and is read again
  pub record IsValue (depth_left : ℕ) (label : Node) (end : ℕ) (bytes : List ℕ) (used : ℕ) : Type 0 where
    pub round : IsRound false pool (KeepsKey label) (made_value pool depth_left) (listed_value depth_left) label end bytes used
    pub some : 1 ≤ length round.made

  -- each value that was read
  abbrev pub AreValues : ℕ → Type 0
  AreValues depth_left =
      (bytes : List ℕ) (end n : ℕ) (label : Node) (v : FieldValue) → IsFresh label → Stands pool end bytes → judge_value depth_left bytes ≡ took v n
      → IsValue depth_left label end bytes n

  -- of values one level deeper
  abbrev AreBelow : ℕ → Type 0
  AreBelow zero = Unit {0}
  AreBelow (suc depth_left) = AreValues depth_left

module _ {pool : List ℕ} (fits : IsBytes pool) where
  -- a value that stands in an array
  element_round : (depth_left : ℕ) → AreValues pool depth_left → (end : ℕ) (bytes : List ℕ) (v : FieldValue) (n : ℕ) → Stands pool end bytes
      → judge_value depth_left bytes ≡ took v n → IsItem pool (made_value pool depth_left) (λ e. listed_value depth_left e blank) end bytes n
  element_round depth_left values end bytes v n stands h =
      let value = values bytes end n blank v (search) stands h in
      let round = value.round in
      as_made round (search) refl
      (record { node = round.node; inside = round.inside; nodes_are = refl; inside_is = round.inside_is; is = round.made_is; some = value.some })

  -- an entry: its key, and its value
  pub entry_round : (depth_left : ℕ) → AreValues pool depth_left → (end : ℕ) (bytes : List ℕ) (entry : Entry) (n : ℕ) → Stands pool end bytes
      → judge_entry (judge_value depth_left) bytes ≡ took entry n
      → IsItem pool (made_entry pool (made_value pool depth_left)) (listed_entry (listed_value depth_left)) end bytes n
  unfolding judge_entry listed_entry made_entry
  entry_round depth_left values end bytes entry n stands h =
      let one = bind_took (judge_short_string bytes) _ entry n h in
      let part = short_part bytes one.0 one.1 one.2 in
      let two = bind_took (judge_value depth_left (drop one.1 bytes)) _ entry n one.3 in
      let count : one.1 + two.1 ≡ n = count_took (one.0, two.0) entry (one.1 + two.1) n two.3 in
      let key = one.0 in
      let at = end - length (drop one.1 bytes) in
      let label = keyed at key in
      let value = values (drop one.1 bytes) end two.1 label two.0 (search) (stands_drop pool bytes end one.1 stands part.within) two.2 in
      let v = value.round in
      let node = v.node in
      let span = span_of pool key at (part_stands pool bytes key end 1 one.1 stands part) in
      let key_span : IsSpan pool node.key_start node.key_length key = rw (v.keeps.0, v.keeps.1) span in
      let text = (short_string_exact.spelled bytes key one.1 (stands_fit fits stands) one.2).0 in
      let front = short_string_bytes key in
      let size = length-append front v.made in
      record {
        nodes = node ∷ v.inside;
        is = then_took _ _ one.2 (then_took _ _ v.is (ap (took (node ∷ v.inside)) count));
        made = front ++ v.made;
        makes = record {
          node = node;
          inside = v.inside;
          nodes_are = refl;
          inside_is = v.inside_is;
          is = λ e.
              let index = own_index e v.inside in
              ap₂ (λ a b. after a b) (span_made (made_text index) index key_span ∙ text_made index key text.fits text.utf8) (v.made_is e);
          some = omega arith;
        };
        made_size = omega arith;
        bound = omega (arith, length-drop one.1 bytes);
        again = λ other rest e stands_there.
            let behind = v.made ++ rest in
            let whole = front ++ behind in
            let standing : Stands other e whole = rw append_assoc at stands_there in
            let read : judge_short_string whole ≡ took key (length front) =
            short_string_exact.taken front behind key (record { fits = text.fits; utf8 = text.utf8; bytes_are = refl }) in
            let there = e - length (drop (length front) whole) in
            let twin_span = span_of other key there (part_stands other whole key e 1 (length front) standing (short_part whole key (length front) read)) in
            let alike : AreAlike pool other label (keyed there key) =
            record { kind = refl; place = refl; key = same_span span twin_span; left = search; right = search } in
            let again = v.again other rest e (keyed there key) alike (stands_behind front standing) in
            record {
              nodes = again.nodes;
              is =
                  ap (listed_entry (listed_value depth_left) e) (append_assoc front v.made rest) ∙ then_took _ _ read (then_took _ _
                  (ap (listed_value depth_left e (keyed there key)) (drop_at front behind (length front) refl) ∙ again.is) (ap (took again.nodes) (sym size)));
              same = again.same;
            };
      }

  -- ---- the value after a tag

  module _ {end : ℕ} {label : Node} (fresh : IsFresh label) {bytes : List ℕ} (stands : Stands pool end bytes) {v : FieldValue} {n : ℕ} where
    -- it is made and read again behind its tag
    behind_round : (depth_left : ℕ) → AreBelow pool depth_left → (t : FieldTag) → label.kind ≡ tag_byte t → judge_behind (nested depth_left) t bytes ≡ took v n
        → IsRound false pool (Keeps label) (made_behind pool (made_nested pool depth_left) t) (λ e a. listed_behind (listed_nested depth_left) e a t) label
        end bytes n
    unfolding judge_behind listed_behind made_behind made_leaf nested listed_nested made_nested judge_value listed_value made_value
    behind_round depth_left below tag.Boolean kind h = truth_round fits stands fresh boolean_value h (λ e x. refl)
    behind_round depth_left below tag.ShortShortInt kind h = signed_round fits stands fresh bytes1 (signed_value short_short_int) h (λ e x. refl)
    behind_round depth_left below tag.ShortShortUInt kind h = number_round fits stands fresh bytes1 (unsigned_value short_short_uint) h (λ e x. refl)
    behind_round depth_left below tag.ShortInt kind h = signed_round fits stands fresh bytes2 (signed_value short_int) h (λ e x. refl)
    behind_round depth_left below tag.ShortUInt kind h = number_round fits stands fresh bytes2 (unsigned_value short_uint) h (λ e x. refl)
    behind_round depth_left below tag.LongInt kind h = signed_round fits stands fresh bytes4 (signed_value long_int) h (λ e x. refl)
    behind_round depth_left below tag.LongUInt kind h = number_round fits stands fresh bytes4 (unsigned_value long_uint) h (λ e x. refl)
    behind_round depth_left below tag.LongLongInt kind h = eight_round fits stands fresh (signed_value long_long_int) h (λ e x. refl)
    behind_round depth_left below tag.Float kind h = number_round fits stands fresh bytes4 (unsigned_value float) h (λ e x. refl)
    behind_round depth_left below tag.Double kind h = number_round fits stands fresh bytes8 (unsigned_value double) h (λ e x. refl)
    behind_round depth_left below tag.DecimalValue kind h = decimal_round fits stands fresh (λ d. decimal_value d.0 d.1) h (λ e d. refl)
    behind_round depth_left below tag.Timestamp kind h = number_round fits stands fresh bytes8 (unsigned_value timestamp) h (λ e x. refl)
    behind_round depth_left below tag.LongString kind h =
        let one = map_took judge_long_string (bytes_value long_string) bytes v n h in
        long_round fits stands fresh one.1 (λ e. made_long (own_index e [])) (λ at e. refl) (λ e. refl)
    behind_round depth_left below tag.ByteArray kind h =
        let one = map_took judge_long_string (bytes_value byte_array) bytes v n h in
        long_round fits stands fresh one.1 (λ e. made_long (own_index e [])) (λ at e. refl) (λ e. refl)
    behind_round depth_left below tag.Void kind h =
        let count : 0 ≡ n = count_took void_value v 0 n h in
        record {
          node = label;
          inside = [];
          is = ap (took (label ∷ [])) count;
          inside_is = fresh.inside;
          keeps = keeps_itself label;
          made = [];
          made_is = λ e. refl;
          made_size = omega arith;
          bound = omega arith;
          again = λ other rest e twin alike standing. record {
            nodes = twin ∷ [];
            is = refl;
            same = one_same alike (no_bytes alike) (keeps_itself label) (keeps_itself twin) (cc) (cc) (cc) (cc);
          };
        }
    behind_round zero below tag.FieldArray kind h = absurd cc
    behind_round (suc depth_left) below tag.FieldArray kind h =
        items_round fits (judge_value depth_left) (λ e. listed_value depth_left e blank) _ (element_round depth_left below)
        (array_content (judge_value depth_left) (λ vs. array_value (values_of vs)) bytes n h) fresh (inr kind) stands
    behind_round zero below tag.FieldTable kind h = absurd cc
    behind_round (suc depth_left) below tag.FieldTable kind h =
        items_round fits (judge_entry (judge_value depth_left)) (listed_entry (listed_value depth_left)) _ (entry_round depth_left below)
        (table_content (judge_value depth_left) (λ es. table_value (entries_of es)) bytes n h) fresh (inl (inr kind)) stands

  -- ---- a tag and its value

  value_by : (depth_left : ℕ) → AreBelow pool depth_left → AreValues pool depth_left
  unfolding judge_value judge_tagged listed_value listed_tagged
  value_by depth_left below [] end n label v fresh stands h = absurd cc
  value_by depth_left below (byte ∷ bytes) end n label v fresh stands h = by (tag_at byte) refl h
    where
      by : (o : Option FieldTag) → tag_at byte ≡ o → behind_tag (nested depth_left) o bytes ≡ took v n → IsValue pool depth_left label end (byte ∷ bytes) n
      by None at h = absurd cc
      by (Some t) at h =
          let one = bind_took (judge_behind (nested depth_left) t bytes) _ v n h in
          let count : 1 + one.1 ≡ n = count_took one.0 v (1 + one.1) n one.3 in
          let kind = tag_byte t in
          let b = behind_round {label = of_kind label kind} (as_kind kind fresh) (stands_behind (byte ∷ []) stands) depth_left below t refl one.2 in
          record {
            round = record {
              node = b.node;
              inside = b.inside;
              is = rw (at, b.is, count);
              inside_is = b.inside_is;
              keeps = (b.keeps.key_start, b.keeps.key_length);
              made = kind ∷ b.made;
              made_is = λ e.
                  value_parts pool depth_left e b.node b.inside t (tag_read b.node.kind t (inl b.keeps.kind)) (sym b.keeps.kind)
                  ∙ ap₂ (λ k made. after (Ok (k ∷ [])) made) b.keeps.kind (b.made_is e);
              made_size = omega arith;
              bound = omega arith;
              again = λ other rest e twin alike standing.
                  let alike_marked : AreAlike pool other (of_kind label kind) (of_kind twin kind) =
                  record { kind = refl; place = alike.place; key = alike.key; left = as_kind kind fresh; right = as_kind kind alike.right } in
                  let again = b.again other rest e (of_kind twin kind) alike_marked (stands_behind (kind ∷ []) standing) in
                  record {
                    nodes = again.nodes;
                    is = simp (tag_read kind t (inl refl), again.is) (ap (took again.nodes) {x = 1 + length b.made} {y = suc (length b.made)} (omega arith));
                    same = again.same;
                  };
            };
            some = omega arith;
          }

  -- each value that was read is made, and is read again as the same nodes
  pub value_round : (depth_left : ℕ) → AreValues pool depth_left
  value_round zero = value_by zero tt
  value_round (suc depth_left) = value_by (suc depth_left) (value_round depth_left)
