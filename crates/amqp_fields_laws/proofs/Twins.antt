-- Nodes that were read, what they make, and the nodes that are read of it again: parts of them, and single nodes.
use Rattle.amqp_fields_laws.specs
use Rattle.amqp_types.specs as types
use Rattle.amqp_fields.specs as reading
use Rattle.std.proofs.Common.{◌≡◌, ℕ, ◌+◌, ◌-◌, ◌≤◌, Bool, true, List, [], ◌∷◌, ◌++◌, length, take, drop, Ok, refl, sym, ap, ◌∙◌, append_assoc, arith, ℤ}
use Rattle.std.proofs.Common.{◌<◌, ◌^◌, false, ap₂, nat_lt, nat_le}
use Rattle.std.proofs.lemmas.List.{drop_at, length-append, length-drop, length-take-le}
use types.Judging.{Judged, Judge, IsBytes, IsExact, took, ◌>>=◌}
use types.Sequences.{judge_both, judge_map}
use reading.declared.node.Node.{Node}
use reading.Listed.{Lister, listed_span, listed_boolean, listed_decimal, listed_number, listed_signed, scaled}
use Rattle.amqp_fields_write.specs.Made.{Maker, Made, after, made_long, made_number, made_signed, made_span, made_text, made_truth, own_index, span_in}
use reading.Meaning.{IsSpan}
use reading.Nodes.{spanned, numbered}
use specs.SameNodes.{IsSameNode, IsSameSpan, SameNodes}
use Rattle.amqp_fields_laws.proofs.SameNodes.{each_append}
use Rattle.amqp_fields.proofs.Spans.{IsPart, Stands, part_stands, span_of, stands_drop, long_part, short_part}
use Rattle.amqp_fields.proofs.ValuesFound.{IsFresh, Keeps, map_took}
use Rattle.amqp_fields_write.proofs.Ordered.{span_fits, truth_at}
use specs.RoundTrips.{SameSpans}
use Rattle.std.proofs.lemmas.Bool.Decides.{nat_tests}
use Rattle.std.proofs.lemmas.Int.{of_z-to_z}
use Rattle.std.proofs.lemmas.Str.{is_utf8-from_IsUtf8}
use Rattle.std.specs.Int.{w64, cast_signed, cast_unsigned}
use Rattle.std.specs.Str.{IsUtf8}
use types.Levels.{plain}
use types.Numbers.{NumberWidth, bytes1, bytes4, bytes8, judge_number, number_bytes, number_limit, width_of, SpellsNumber}
use types.Signed.{judge_signed, SpellsSigned}
use types.Booleans.{judge_boolean, SpellsBoolean}
use types.Flags.{bit_of}
use types.Strings.{is_too_long, judge_long_string, judge_short_string, short_string_bytes, with_length, SpellsLongString, SpellsShortString}
use types.ValueJudging.{judge_decimal}
use types.ValueSpelling.{SpellsDecimal}
use Rattle.amqp_types.proofs.Booleans.{boolean_laws}
use Rattle.amqp_types.proofs.Numbers.{number_exact}
use Rattle.amqp_types.proofs.Texts.{long_string_exact, short_string_exact, signed_exact}
use Rattle.amqp_laws.proofs.Exactly.{decimal_exact}
use Rattle.amqp_fields_write.proofs.SignedNumbers.{signed_bits}
use Rattle.amqp_fields_write.proofs.MadeOfParts.{mod_small}

-- bytes that stand in a pool of bytes are bytes
pub stands_fit : {pool bytes : List ℕ} {end : ℕ} → IsBytes pool → Stands pool end bytes → IsBytes bytes
stands_fit {pool} {bytes} {end} fits stands = span_fits pool bytes (end - length bytes) (length bytes) fits (span_of pool bytes end stands)

-- what comes behind other bytes stands too
pub stands_behind : {pool rest : List ℕ} {end : ℕ} (front : List ℕ) → Stands pool end (front ++ rest) → Stands pool end rest
stands_behind {pool} {rest} {end} front stands =
    rw (drop_at front rest (length front) refl) at
    (stands_drop pool (front ++ rest) end (length front) stands (omega (arith, length-append front rest)))

-- what comes after a thing that is taken
pub then_took : {A B : Type 0} (j : Judged A) (next : A × ℕ → Judged B) {x : A} {n : ℕ} {r : Judged B} → j ≡ took x n → next (x, n) ≡ r
    → (j >>= next) ≡ r
then_took j next is h = ap (λ k. k >>= next) is ∙ h

-- ---- what is read twice

-- The labels with which two readings of one thing begin: of one kind and place, with keys of the same bytes, and nothing read yet.
pub record AreAlike (pool other : List ℕ) (a b : Node) : Type 0 where
  pub kind : a.kind ≡ b.kind
  pub place : a.place ≡ b.place
  pub key : IsSameSpan pool a.key_start a.key_length other b.key_start b.key_length
  pub left : IsFresh a
  pub right : IsFresh b

-- a node without a key is alike itself, whatever the pools
pub alike_itself : {pool other : List ℕ} {label : Node} → IsFresh label → label.key_length ≡ 0 → AreAlike pool other label label
alike_itself fresh none = record { kind = refl; place = refl; key = (refl, rw none); left = fresh; right = fresh }

-- nodes for which nothing was read yet have no bytes
pub no_bytes : {pool other : List ℕ} {a b : Node} → AreAlike pool other a b → IsSameSpan pool a.start a.length other b.start b.length
no_bytes alike = rw (alike.left.count, alike.right.count) (refl, refl)

-- Nodes say the same. Where tables stand alone, without their entries, the spans of all nodes are of the same bytes too.
pub record AreSame (alone : Bool) (pool other : List ℕ) (nodes more : List Node) : Type 0 where
  pub same : SameNodes pool other nodes more
  pub spans : alone ≡ true → SameSpans pool other nodes more

-- what was listed again says the same as a group of nodes
pub record IsTwin (alone : Bool) (pool other : List ℕ) (group : List Node) (listed : Judged (List Node)) (used : ℕ) : Type 0 where
  pub nodes : List Node
  pub is : listed ≡ took nodes used
  pub same : AreSame alone pool other group nodes

-- What was listed is a node and those inside it. They make no more bytes than were read, and these are listed again, wherever they stand
-- and behind any node that is alike, as nodes that say the same.
pub record IsRound (alone : Bool) (pool : List ℕ) (Kept : Node → Type 0) (make : Maker) (list : Lister) (label : Node) (end : ℕ) (bytes : List ℕ)
    (used : ℕ) : Type 0 where
  pub node : Node
  pub inside : List Node
  pub is : list end label bytes ≡ took (node ∷ inside) used
  pub inside_is : node.inside ≡ length inside
  pub keeps : Kept node
  pub made : List ℕ
  pub made_is : (at : ℕ) → make at node inside ≡ Ok made
  pub made_size : length made ≤ used
  pub bound : used ≤ length bytes
  pub again : (other rest : List ℕ) (at : ℕ) (twin : Node) → AreAlike pool other label twin → Stands other at (made ++ rest)
      → IsTwin alone pool other (node ∷ inside) (list at twin (made ++ rest)) (length made)

-- Nodes that were listed make no more bytes than were read, and these are listed again, wherever they stand, as nodes that say the same.
pub record IsMade (alone : Bool) (pool : List ℕ) (Makes : List Node → List ℕ → Type 0) (list : ℕ → Judge (List Node)) (end : ℕ) (bytes : List ℕ)
    (used : ℕ) : Type 0 where
  pub nodes : List Node
  pub is : list end bytes ≡ took nodes used
  pub made : List ℕ
  pub makes : Makes nodes made
  pub made_size : length made ≤ used
  pub bound : used ≤ length bytes
  pub again : (other rest : List ℕ) (at : ℕ) → Stands other at (made ++ rest) → IsTwin alone pool other nodes (list at (made ++ rest)) (length made)

-- a node with those inside it, behind a node that has no key
pub as_made : {alone : Bool} {pool bytes : List ℕ} {Kept : Node → Type 0} {make : Maker} {list : Lister} {label : Node} {end used : ℕ}
    {Makes : List Node → List ℕ → Type 0} → (round : IsRound alone pool Kept make list label end bytes used) → IsFresh label → label.key_length ≡ 0
    → Makes (round.node ∷ round.inside) round.made → IsMade alone pool Makes (λ at. list at label) end bytes used
as_made {label = label} round fresh none makes = record {
  nodes = round.node ∷ round.inside;
  is = round.is;
  made = round.made;
  makes = makes;
  made_size = round.made_size;
  bound = round.bound;
  again = λ other rest at stands. round.again other rest at label (alike_itself fresh none) stands;
}

-- ---- lists

module _ {pool other : List ℕ} {alone : Bool} where
  -- nodes that say the same, and then others that do
  pub both_same : {ns ms more rest : List Node} → AreSame alone pool other ns ms → AreSame alone pool other more rest
      → AreSame alone pool other (ns ++ more) (ms ++ rest)
  both_same {ns} {ms} {more} {rest} one two = record {
    same = each_append _ ns ms more rest one.same two.same;
    spans = λ alone. each_append _ ns ms more rest (one.spans alone) (two.spans alone);
  }

  -- no nodes say the same as none
  pub none_same : AreSame alone pool other [] []
  none_same = record { same = tt; spans = λ alone. tt }

  -- one node, whose labels are alike, with spans of the same bytes
  pub one_same : {a b c d : Node} → AreAlike pool other a b → IsSameSpan pool c.start c.length other d.start d.length → Keeps a c → Keeps b d
      → c.inside ≡ d.inside → c.items ≡ d.items → c.number ≡ d.number → c.scale ≡ d.scale → AreSame alone pool other (c ∷ []) (d ∷ [])
  one_same alike span one two inside items number scale = record {
    same = (
      record {
        kind_is = cc;
        place_is = cc;
        number_is = number;
        scale_is = scale;
        inside_is = inside;
        items_are = items;
        key_is = rw (one.key_start, one.key_length, two.key_start, two.key_length) alike.key;
        span_is = λ no. span;
      },
      tt,
    );
    spans = λ alone. (span, tt);
  }

-- where nothing is listed, whatever the bytes, nothing is made
pub none_made : {alone : Bool} {pool bytes : List ℕ} {Makes : List Node → List ℕ → Type 0} {list : ℕ → Judge (List Node)} {end used : ℕ} → 0 ≡ used
    → Makes [] [] → ((at : ℕ) (bs : List ℕ) → list at bs ≡ took [] 0) → IsMade alone pool Makes list end bytes used
none_made {bytes = bytes} {end = end} none makes nothing = record {
  nodes = [];
  is = nothing end bytes ∙ ap (took []) none;
  made = [];
  makes = makes;
  made_size = omega arith;
  bound = omega arith;
  again = λ other rest at stands. record { nodes = []; is = nothing at rest; same = none_same };
}

-- nodes of two parts, one after the other
pub both_made : {alone : Bool} {pool bytes : List ℕ} {M N O : List Node → List ℕ → Type 0} {a b end : ℕ} {first second : ℕ → Judge (List Node)}
    → ((ns ms : List Node) (x y : List ℕ) → M ns x → N ms y → O (ns ++ ms) (x ++ y)) → IsMade alone pool M first end bytes a
    → IsMade alone pool N second end (drop a bytes) b
    → IsMade alone pool O (λ at bs. judge_both (first at) (second at) (λ x y. x ++ y) bs) end bytes (a + b)
both_made {bytes = bytes} {a = a} {first = first} {second = second} into one two =
    let size = length-append one.made two.made in
    record {
      nodes = one.nodes ++ two.nodes;
      is = rw (one.is, two.is);
      made = one.made ++ two.made;
      makes = into one.nodes two.nodes one.made two.made one.makes two.makes;
      made_size = omega arith;
      bound = omega (arith, length-drop a bytes);
      again = λ other rest at stands.
          let behind = two.made ++ rest in
          let standing = rw append_assoc at stands in
          let front = one.again other behind at standing in
          let left = two.again other rest at (stands_behind one.made standing) in
          record {
            nodes = front.nodes ++ left.nodes;
            is = rw (append_assoc one.made two.made rest, front.is, drop_at one.made behind (length one.made) refl, left.is, size);
            same = both_same front.same left.same;
          };
    }

-- ---- what is made

-- a number within its width makes its bytes
number_made : (width : NumberWidth) (index n : ℕ) → n < number_limit width → made_number width index n ≡ Ok (number_bytes width n)
number_made width index n few =
    let less : nat_lt n (number_limit width) ≡ true = grind (arith, nat_tests) in
    rw (less, mod_small width n few)

signed_made : (width : NumberWidth) (index : ℕ) (x : ℤ) (bits : ℕ) → bits < number_limit width → x ≡ cast_signed (width_of width) bits
    → made_signed width index (cast_unsigned w64 x) ≡ Ok (number_bytes width bits)
signed_made width index x bits few means =
    let both = signed_bits width bits (cast_unsigned w64 x) few (ap (cast_unsigned w64) means) in
    rw (both.0, both.1)

eight_made : (index : ℕ) (x : ℤ) (bits : ℕ) → bits < number_limit bytes8 → x ≡ cast_signed w64 bits
    → made_number bytes8 index (cast_unsigned w64 x) ≡ Ok (number_bytes bytes8 bits)
eight_made index x bits few means = rw (means, of_z-to_z w64 bits few) (number_made bytes8 index bits few)

truth_made : (index : ℕ) (b : Bool) → made_truth index (bit_of b) ≡ Ok (bit_of b ∷ [])
truth_made index true = refl
truth_made index false = refl

-- a content whose length four bytes hold is made with its length
pub long_made : (index : ℕ) (content : List ℕ) → length content < 2 ^ 32 → made_long index content ≡ Ok (with_length content)
long_made index content few = let short : is_too_long content ≡ false = grind (arith, nat_tests) in rw short

-- a text of at most 255 bytes is made with its length
pub text_made : (index : ℕ) (text : List ℕ) → length text < 256 → IsUtf8 text → made_text index text ≡ Ok (short_string_bytes text)
text_made index text few valid =
    let short : nat_lt 255 (length text) ≡ false = grind (arith, nat_tests) in
    rw (short, is_utf8-from_IsUtf8 text valid)

-- what is made of the bytes of a span that lies in the pool
pub span_made : {pool content : List ℕ} {start count : ℕ} (make : List ℕ → Made) (index : ℕ) → IsSpan pool start count content
    → made_span make index (span_in pool start count) ≡ make content
span_made {pool = pool} {start = start} {count = count} make index span =
    let within : nat_le (start + count) (length pool) ≡ true = grind (arith, nat_tests) in
    rw (within, span.bytes_are)

-- ---- one node each

-- two spans of the same bytes
pub same_span : {pool other content : List ℕ} {start begin : ℕ} → IsSpan pool start (length content) content
    → IsSpan other begin (length content) content → IsSameSpan pool start (length content) other begin (length content)
same_span h g = (refl, h.bytes_are ∙ sym g.bytes_are)

taken_size : (bytes made : List ℕ) (n : ℕ) → take n bytes ≡ made → n ≤ length bytes → length made ≤ n
taken_size bytes made n is le = omega (arith, ap length is, length-take-le n bytes le)

module _ {alone : Bool} {pool bytes : List ℕ} {end : ℕ} {make : Maker} {label : Node} {n : ℕ} (fits : IsBytes pool) (stands : Stands pool end bytes)
    (fresh : IsFresh label) where
  -- what has a number and a scale
  leaf : {A : Type 0} (judge : Judge A) (Spells : List ℕ → A → Type 0) → IsExact judge Spells → (scale : Node → A → ℕ) (number : A → ℕ)
      → ((a b : Node) (x : A) → IsFresh a → IsFresh b → scale a x ≡ scale b x) → (x : A) (made : List ℕ) → judge bytes ≡ took x n
      → (n ≤ length bytes → length made ≤ n) → Spells made x → ((at : ℕ) → make at (scaled label (scale label x, number x)) [] ≡ Ok made)
      → IsRound alone pool (Keeps label) make (λ at a. judge_map (λ y. scaled a (scale a y, number y) ∷ []) judge) label end bytes n
  leaf judge Spells exact scale number scales x made h size spelled makes =
      let within = (exact.spelled bytes x n (stands_fit fits stands) h).1 in
      record {
        node = scaled label (scale label x, number x);
        inside = [];
        is = rw h;
        inside_is = fresh.inside;
        keeps = search;
        made = made;
        made_is = makes;
        made_size = size within;
        bound = within;
        again = λ other rest at twin alike standing. record {
          nodes = scaled twin (scale twin x, number x) ∷ [];
          is = rw (exact.taken made rest x spelled);
          same = one_same alike (no_bytes alike) (search) (search) (cc) (cc) refl (scales label twin x fresh alike.right);
        };
      }

  -- an unsigned number
  pub number_round : {B : Type 0} {y : B} (width : NumberWidth) (wrap : ℕ → B) → judge_map wrap (judge_number width) bytes ≡ took y n
      → ((at x : ℕ) → make at (numbered label x) [] ≡ made_number width (own_index at []) x)
      → IsRound alone pool (Keeps label) make (λ at a. listed_number width a) label end bytes n
  number_round width wrap h makes =
      let got = map_took (judge_number width) wrap bytes _ n h in
      let x = got.0 in
      let read = (number_exact width).spelled bytes x n (stands_fit fits stands) got.1 in
      leaf (judge_number width) (SpellsNumber width) (number_exact width) (λ a k. a.scale) (λ k. k) (λ a b k one two. cc) x (number_bytes width x) got.1
      (taken_size bytes _ n read.0.bytes_are) (record { fits = read.0.fits; bytes_are = refl })
      (λ at. makes at x ∙ number_made width (own_index at []) x read.0.fits)

  -- a signed number of any width
  signed_by : {B : Type 0} {y : B} (width : NumberWidth) (wrap : ℤ → B) → judge_map wrap (judge_signed width) bytes ≡ took y n
      → ((at bits : ℕ) (x : ℤ) → bits < number_limit width → x ≡ cast_signed (width_of width) bits
      → make at (numbered label (cast_unsigned w64 x)) [] ≡ Ok (number_bytes width bits))
      → IsRound alone pool (Keeps label) make (λ at a. listed_signed width a) label end bytes n
  signed_by width wrap h makes =
      let got = map_took (judge_signed width) wrap bytes _ n h in
      let x = got.0 in
      let read = ((signed_exact width).spelled bytes x n (stands_fit fits stands) got.1).0 in
      leaf (judge_signed width) (SpellsSigned width) (signed_exact width) (λ a k. a.scale) (cast_unsigned w64) (λ a b k one two. cc) x
      (number_bytes width read.bits) got.1 (taken_size bytes _ n read.spelled.bytes_are)
      (record { bits = read.bits; spelled = record { fits = read.spelled.fits; bytes_are = refl }; means = read.means })
      (λ at. makes at read.bits x read.spelled.fits read.means)

  -- a signed number that is shorter than 8 bytes
  pub signed_round : {B : Type 0} {y : B} (width : NumberWidth) (wrap : ℤ → B) → judge_map wrap (judge_signed width) bytes ≡ took y n
      → ((at x : ℕ) → make at (numbered label x) [] ≡ made_signed width (own_index at []) x)
      → IsRound alone pool (Keeps label) make (λ at a. listed_signed width a) label end bytes n
  signed_round width wrap h makes =
      signed_by width wrap h (λ at bits x few means. makes at (cast_unsigned w64 x) ∙ signed_made width (own_index at []) x bits few means)

  -- a signed number of 8 bytes
  pub eight_round : {B : Type 0} {y : B} (wrap : ℤ → B) → judge_map wrap (judge_signed bytes8) bytes ≡ took y n
      → ((at x : ℕ) → make at (numbered label x) [] ≡ made_number bytes8 (own_index at []) x)
      → IsRound alone pool (Keeps label) make (λ at a. listed_signed bytes8 a) label end bytes n
  eight_round wrap h makes =
      signed_by bytes8 wrap h (λ at bits x few means. makes at (cast_unsigned w64 x) ∙ eight_made (own_index at []) x bits few means)

  -- a truth value, of which one byte of 0 or 1 is made
  pub truth_round : {B : Type 0} {y : B} (wrap : Bool → B) → judge_map wrap judge_boolean bytes ≡ took y n
      → ((at x : ℕ) → make at (numbered label x) [] ≡ made_truth (own_index at []) x)
      → IsRound alone pool (Keeps label) make (λ at a. listed_boolean a) label end bytes n
  truth_round wrap h makes =
      let got = map_took judge_boolean wrap bytes _ n h in
      let b = got.0 in
      leaf judge_boolean (SpellsBoolean plain) boolean_laws.exact (λ a x. a.scale) bit_of (λ a c x one two. cc) b (bit_of b ∷ []) got.1
      (λ within. one_byte bytes got.1) (truth_at plain b (bit_of b ∷ []) refl) (λ at. makes at (bit_of b) ∙ truth_made (own_index at []) b)
    where
      one_byte : {b : Bool} (bs : List ℕ) → judge_boolean bs ≡ took b n → 1 ≤ n
      one_byte [] e = absurd cc
      one_byte (byte ∷ bs) e = let count : 1 ≡ n = cc in omega arith

  -- a decimal
  pub decimal_round : {B : Type 0} {y : B} (wrap : ℕ × ℕ → B) → judge_map wrap judge_decimal bytes ≡ took y n
      → ((at : ℕ) (d : ℕ × ℕ) → make at (scaled label d) [] ≡ after (made_number bytes1 (own_index at []) d.0) (made_number bytes4 (own_index at []) d.1))
      → IsRound alone pool (Keeps label) make (λ at a. listed_decimal a) label end bytes n
  decimal_round wrap h makes =
      let got = map_took judge_decimal wrap bytes _ n h in
      let d = got.0 in
      let s = (decimal_exact.spelled bytes d n (stands_fit fits stands) got.1).0 in
      let first = s.first_is in
      let second = s.second_is in
      leaf judge_decimal SpellsDecimal decimal_exact (λ a k. k.0) (λ k. k.1) (λ a b k one two. refl) d
      (number_bytes bytes1 s.one ++ number_bytes bytes4 s.two) got.1
      (taken_size bytes _ n (s.bytes_are ∙ ap₂ (λ x y. x ++ y) first.bytes_are second.bytes_are))
      (record {
        front = number_bytes bytes1 s.one;
        behind = number_bytes bytes4 s.two;
        one = s.one;
        two = s.two;
        bytes_are = refl;
        first_is = record { fits = first.fits; bytes_are = refl };
        second_is = record { fits = second.fits; bytes_are = refl };
        joined = s.joined;
      })
      (λ at.
      makes at d ∙ ap (λ (p : ℕ × ℕ). after (made_number bytes1 (own_index at []) p.0) (made_number bytes4 (own_index at []) p.1)) s.joined
      ∙ ap₂ after (number_made bytes1 (own_index at []) s.one first.fits) (number_made bytes4 (own_index at []) s.two second.fits))

  -- what is read as a span, of which bytes are made that are read as the same
  span_round : (judge : Judge (List ℕ)) (Spells : List ℕ → List ℕ → Type 0) → IsExact judge Spells → (front : ℕ)
      → ((bs content : List ℕ) (k : ℕ) → judge bs ≡ took content k → IsPart bs content front k) → (content made : List ℕ) → judge bytes ≡ took content n
      → Spells made content → take n bytes ≡ made → (item : ℕ → List ℕ → Made)
      → ((begin at : ℕ) → make at (spanned label begin content) []
      ≡ made_span (item at) (own_index at []) (span_in pool (begin - length content) (length content)))
      → ((at : ℕ) → item at content ≡ Ok made) → IsRound alone pool (Keeps label) make (listed_span judge) label end bytes n
  unfolding listed_span
  span_round judge Spells exact front parts content made h spelled taken item makes fills =
      let part = parts bytes content n h in
      let span = span_of pool content _ (part_stands pool bytes content end front n stands part) in
      let begin = end - length (drop n bytes) in
      record {
        node = spanned label begin content;
        inside = [];
        is = rw h;
        inside_is = fresh.inside;
        keeps = search;
        made = made;
        made_is = λ at. makes begin at ∙ span_made (item at) (own_index at []) span ∙ fills at;
        made_size = taken_size bytes made n taken part.within;
        bound = part.within;
        again = λ other rest at twin alike standing.
            let read = exact.taken made rest content spelled in
            let there = at - length (drop (length made) (made ++ rest)) in
            let stands = part_stands other (made ++ rest) content at front (length made) standing (parts (made ++ rest) content _ read) in
            let twin_span = span_of other content there stands in
            record {
              nodes = spanned twin there content ∷ [];
              is = rw read;
              same = one_same alike (same_span span twin_span) (search) (search) (cc) (cc) (cc) (cc);
            };
      }

  -- a string or content behind a length of 4 bytes
  pub long_round : {content : List ℕ} → judge_long_string bytes ≡ took content n → (item : ℕ → List ℕ → Made)
      → ((begin at : ℕ) → make at (spanned label begin content) []
      ≡ made_span (item at) (own_index at []) (span_in pool (begin - length content) (length content)))
      → ((at : ℕ) → item at content ≡ made_long (own_index at []) content)
      → IsRound alone pool (Keeps label) make (listed_span judge_long_string) label end bytes n
  long_round {content = content} h item makes fills =
      let read = (long_string_exact.spelled bytes content n (stands_fit fits stands) h).0 in
      span_round judge_long_string SpellsLongString long_string_exact 4 long_part content (with_length content) h
      (record { fits = read.fits; bytes_are = refl }) read.bytes_are item makes (λ at. fills at ∙ long_made (own_index at []) content read.fits)

  -- a text behind a length of 1 byte
  pub short_round : {B : Type 0} {y : B} (wrap : List ℕ → B) → judge_map wrap judge_short_string bytes ≡ took y n
      → ((begin at : ℕ) (content : List ℕ) → make at (spanned label begin content) []
      ≡ made_span (made_text (own_index at [])) (own_index at []) (span_in pool (begin - length content) (length content)))
      → IsRound alone pool (Keeps label) make (listed_span judge_short_string) label end bytes n
  short_round wrap h makes =
      let got = map_took judge_short_string wrap bytes _ n h in
      let content = got.0 in
      let read = (short_string_exact.spelled bytes content n (stands_fit fits stands) got.1).0 in
      span_round judge_short_string SpellsShortString short_string_exact 1 short_part content (short_string_bytes content) got.1
      (record { fits = read.fits; utf8 = read.utf8; bytes_are = refl }) read.bytes_are (λ at. made_text (own_index at []))
      (λ begin at. makes begin at content) (λ at. text_made (own_index at []) content read.fits read.utf8)
