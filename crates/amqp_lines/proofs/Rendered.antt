-- What calls write of the canonical bytes of values, step by step.
use Rattle.amqp_lines.proofs
use proofs.Names.{◌≡◌, ℕ, zero, suc, ◌+◌, ◌-◌, ◌<◌, List, [], ◌∷◌, ◌++◌, length, get_or, drop, map, Some, None, Result, Ok, Err, refl, sym, ap, ◌∙◌}
use proofs.Names.{append_assoc, append-nil, arith, inl, codes, decimal, signed_decimal, take_at, drop_at, strict, Judged, took, bytes1, SpellsShortString}
use proofs.Names.{SpellsLongString, FieldValue, Entry, short_short_int, short_short_uint, long_string, byte_array, boolean_value, signed_value, unsigned_value}
use proofs.Names.{decimal_value, bytes_value, array_value, table_value, void_value, SpellsEach, SpellsEntry, SpellsArray, SpellsTable, SpellsBehind}
use proofs.Names.{SpellsTagged, SpellsValue, tag_at, tag_of, FieldTag, NoMemory, number_exact, long_string_exact, value_took, entries_of-pairs}
use proofs.Names.{pairs-entries_of, value_some, IsRead, hex, quoted, parted, tag_text, truth_text, content_text, value_text, table_text, WritesText, array_text}
use proofs.Names.{entry_text, lengths}
use Rattle.amqp_types.specs.Judging.{Judge, IsExact, ◌>>=◌}
use Rattle.amqp_types.specs.Sequences.{judge_map}
use Rattle.amqp_types.specs.Strings.{judge_long_string}
use Rattle.amqp_types.proofs.Booleans.{boolean_laws}
use Rattle.amqp_types.proofs.Texts.{signed_exact}
use Rattle.amqp_types.proofs.Sequences.{map_taken}
use Rattle.amqp_types.proofs.Took.{count_took}
use Rattle.amqp_laws.proofs.Filled.{HasBytes}
use Rattle.amqp_laws.proofs.Exactly.{decimal_exact}
use Rattle.amqp_laws.proofs.Tags.{tag_read}
use Rattle.amqp_canonical.specs.Writes.{key_in, after_key}
use Rattle.amqp_lines.specs.Rendering.{Renders, WritesEach, WritesAfter, comma_before, decimal_text}
use proofs.ReadBack.{values_are, entries_are}

-- where nothing was read, nothing needs to be rendered
pub unrendered : {A : Type 0} (j : Judged A) (f : A × ℕ → Judged (List ℕ)) (old new : List ℕ) (r : Result ℕ NoMemory)
    → (IsRead j → ⊥) → Renders (j >>= f) old new r
unrendered (took x n) f old new r h = absurd (h tt)
unrendered j f old new r h = tt

-- What is appended after a value was decoded is what is appended for the rest.
pub rendered_next : {A : Type 0} (j : Judged A) (f : A × ℕ → Judged (List ℕ)) (old new : List ℕ) (r : Result ℕ NoMemory) (x : A) (n : ℕ)
    → j ≡ took x n → Renders (f (x, n)) old new r → Renders (j >>= f) old new r
rendered_next j f old new r x n e h = rw e h

-- what is rendered of what decodes exactly is its text
pub exactly : {A : Type 0} {judge : Judge A} {Spells : List ℕ → A → Type 0} (text : A → List ℕ) → IsExact judge Spells
    → (i old new : List ℕ) (r : Result ℕ NoMemory) → Renders (judge_map text judge i) old new r → WritesText Spells text i old new r
exactly text exact i old new (Err error) h = tt
exactly {judge = judge} {Spells = Spells} text exact i old new _ h = λ bytes rest x is spelled.
    rw (is, map_taken text judge Spells exact bytes rest x spelled) at h

-- ---- what follows a tag

module _ (room : ℕ) (bytes rest old new : List ℕ) (n : ℕ) where
  -- the text of what decodes exactly is written in the place of these bytes
  in_place : {A : Type 0} {judge : Judge A} {Spells : List ℕ → A → Type 0} (text : A → List ℕ) → IsExact judge Spells → (x : A)
      → Renders (judge_map text judge (bytes ++ rest)) old new (Ok n) → Spells bytes x → (n ≡ length bytes) × (new ≡ old ++ text x)
  in_place text exact x h s = exactly text exact _ old new _ h bytes rest x refl s

  after_tag : (v : FieldValue) → WritesAfter room (tag_of v) (bytes ++ rest) old new (Ok n)
      → SpellsBehind strict room (SpellsValue strict (room - 1)) bytes v → (n ≡ length bytes) × (new ≡ old ++ content_text v)
  unfolding WritesAfter array_text table_text
  after_tag (boolean_value b) h s =
      in_place truth_text boolean_laws.exact b h (boolean_laws.tidy_is_plain bytes b (boolean_laws.strict_is_tidy bytes b s))
  after_tag (signed_value short_short_int k) h s = in_place signed_decimal (signed_exact bytes1) k h s
  after_tag (signed_value kind k) h s = in_place signed_decimal (signed_exact _) k h s
  after_tag (unsigned_value short_short_uint k) h s = in_place decimal (number_exact bytes1) k h s
  after_tag (unsigned_value kind k) h s = in_place decimal (number_exact _) k h s
  after_tag (decimal_value scale k) h s = in_place decimal_text decimal_exact (scale, k) h s
  after_tag (bytes_value long_string content) h s = in_place quoted long_string_exact content h s
  after_tag (bytes_value byte_array content) h s = in_place hex long_string_exact content h s
  after_tag (array_value vs) h s = let w = h s.0 bytes rest _ refl s.1 in (w.0, cc (w.1, values_are vs))
  after_tag (table_value es) h s = let w = h s.0 bytes rest _ refl s.1 in (w.0, cc (w.1, entries_of-pairs es))
  after_tag void_value h s = (cc (h.0, s), h.1)

-- ---- a tag and its value

-- where nothing may be nested, nothing is
none_nested : (bytes : List ℕ) (v : FieldValue) → SpellsBehind strict 0 (λ _ _. ⊥) bytes v → SpellsBehind strict 0 (SpellsValue strict (0 - 1)) bytes v
none_nested bytes (array_value vs) h = absurd (omega (arith, h.0))
none_nested bytes (table_value es) h = absurd (omega (arith, h.0))
none_nested bytes v h = h

tagged : (room : ℕ) {bytes : List ℕ} (v : FieldValue) → SpellsValue strict room bytes v
    → SpellsTagged strict (SpellsBehind strict room (SpellsValue strict (room - 1))) bytes v
unfolding SpellsValue
tagged zero v h = record { byte = h.byte; behind = h.behind; bytes_are = h.bytes_are; tag_is = h.tag_is; value_is = none_nested h.behind v h.value_is }
tagged (suc room) v h = let same : suc room - 1 ≡ room = omega arith in rw same h

-- the tag that is read of the bytes of a value in front
record IsTagged (room : ℕ) (i rest : List ℕ) (bytes : List ℕ) (v : FieldValue) : Type 0 where
  behind : List ℕ
  count : length bytes ≡ 1 + length behind
  rest_is : drop 1 i ≡ behind ++ rest
  tag_is : tag_at (get_or i 0 0) ≡ Some (tag_of v)
  value_is : SpellsBehind strict room (SpellsValue strict (room - 1)) behind v

tag_in : {room : ℕ} {i bytes rest : List ℕ} (v : FieldValue) → i ≡ bytes ++ rest → SpellsValue strict room bytes v → IsTagged room i rest bytes v
tag_in {room = room} {rest = rest} v is h =
    let t = tagged room v h in
    let at = is ∙ ap (λ bs. bs ++ rest) t.bytes_are in
    record {
      behind = t.behind;
      count = ap length t.bytes_are ∙ omega arith;
      rest_is = ap (drop 1) at;
      tag_is = ap (λ bs. tag_at (get_or bs 0 0)) at ∙ tag_read t.byte (tag_of v) (inl t.tag_is);
      value_is = t.value_is;
    }

-- Where no byte is left, nothing is said of what is written for a value.
pub value_none : (room n : ℕ) (i old new : List ℕ) → length i < 1 → WritesText (SpellsValue strict room) value_text i old new (Ok n)
value_none room n i old new none = λ bytes rest v is h. absurd (omega (lengths, none, value_some strict room bytes v h, ap length is))

-- Where the first byte is no tag, nothing is said of what is written for a value.
pub value_unknown : (room n : ℕ) (i old new : List ℕ) → tag_at (get_or i 0 0) ≡ None → WritesText (SpellsValue strict room) value_text i old new (Ok n)
value_unknown room n i old new none = λ bytes rest v is h. absurd (let e = sym none ∙ (tag_in v is h).tag_is in cc)

-- The text of a tag and then that of what stands after it are the text of a value, which takes one byte more.
pub value_rendered : (room used : ℕ) (i : List ℕ) (t : FieldTag) (old mid new : List ℕ) → tag_at (get_or i 0 0) ≡ Some t → mid ≡ old ++ tag_text t
    → WritesAfter room t (drop 1 i) mid new (Ok used) → WritesText (SpellsValue strict room) value_text i old new (Ok (1 + used))
unfolding value_text
value_rendered room used i t old mid new is e w = λ bytes rest v at h.
    let g = tag_in v at h in
    let same : t ≡ tag_of v = let x = sym is ∙ g.tag_is in cc in
    let one = after_tag room g.behind rest mid new used v (rw (same, g.rest_is) at w) g.value_is in
    (omega (arith, one.0, g.count), rw (one.1, e, same) (append_assoc old _ _))

-- ---- a length and what it covers

-- where things fill what a long string covers, their texts between brackets are written in its place
between : {A : Type 0} {Spells : List ℕ → A → Type 0} (text : A → List ℕ) (i content old a b new before after : List ℕ) (used : ℕ)
    → judge_long_string i ≡ took content used → a ≡ old ++ before → WritesEach Spells text content a b (Ok tt) → new ≡ b ++ after
    → (bytes rest inner : List ℕ) (xs : List A) → i ≡ bytes ++ rest → SpellsLongString bytes inner → SpellsEach Spells inner xs
    → (used ≡ length bytes) × (new ≡ old ++ (before ++ (parted (map text xs) ++ after)))
between text i content old a b new before after used found first each last bytes rest inner xs is framed filled =
    let same = sym (long_string_exact.taken bytes rest inner framed) ∙ sym (ap judge_long_string is) ∙ found in
    let written = each xs (rw (value_took inner content (length bytes) used same) at filled) in
    (sym (count_took inner content _ used same), rw (last, written, first) (simp append_assoc))

no_content : (i bytes rest inner : List ℕ) → i ≡ bytes ++ rest → SpellsLongString bytes inner → (IsRead (judge_long_string i) → ⊥) → ⊥
no_content i bytes rest inner is framed none = (rw (is, long_string_exact.taken bytes rest inner framed) at none) tt

-- The texts of the values between brackets are the text of an array, which takes what its long string takes.
pub array_written : (room : ℕ) (i content old a b new : List ℕ) (used : ℕ) → judge_long_string i ≡ took content used
    → a ≡ old ++ codes "[" → WritesEach (SpellsValue strict room) value_text content a b (Ok tt)
    → new ≡ b ++ codes "]" → WritesText (SpellsArray (SpellsValue strict room)) array_text i old new (Ok used)
unfolding array_text
array_written room i content old a b new used found first each last = λ bytes rest vs is h.
    between value_text i content old a b new (codes "[") (codes "]") used found first each last bytes rest h.inner vs is h.framed h.each

-- Where no long string stands in front, nothing is said of what is written for an array.
pub array_unwritten : (room n : ℕ) (i old new : List ℕ) → (IsRead (judge_long_string i) → ⊥)
    → WritesText (SpellsArray (SpellsValue strict room)) array_text i old new (Ok n)
array_unwritten room n i old new none = λ bytes rest vs is h. absurd (no_content i bytes rest h.inner is h.framed none)

table_is : (es : List Entry) → codes "{" ++ (parted (map entry_text es) ++ codes "}") ≡ table_text es
unfolding table_text
table_is es = ap (λ ts. codes "{" ++ (parted ts ++ codes "}")) (ap (map entry_text) (sym (pairs-entries_of es)) ∙ entries_are _)

-- The texts of the entries between brackets are the text of a table, which takes what its long string takes.
pub table_written : (room : ℕ) (i content old a b new : List ℕ) (used : ℕ) → judge_long_string i ≡ took content used
    → a ≡ old ++ codes "{" → WritesEach (SpellsEntry (SpellsValue strict room)) entry_text content a b (Ok tt)
    → new ≡ b ++ codes "}" → WritesText (SpellsTable strict (SpellsValue strict room)) table_text i old new (Ok used)
table_written room i content old a b new used found first each last = λ bytes rest es is h.
    let w =
    between entry_text i content old a b new (codes "{") (codes "}") used found first each last bytes rest h.inner es is h.framed (rw h.once at h.each) in
    (w.0, cc (w.1, table_is es))

-- Where no long string stands in front, nothing is said of what is written for a table.
pub table_unwritten : (room n : ℕ) (i old new : List ℕ) → (IsRead (judge_long_string i) → ⊥)
    → WritesText (SpellsTable strict (SpellsValue strict room)) table_text i old new (Ok n)
table_unwritten room n i old new none = λ bytes rest es is h. absurd (no_content i bytes rest h.inner is h.framed none)

-- ---- a short string, and a key and its value

key_is : {i bytes rest text : List ℕ} → i ≡ bytes ++ rest → SpellsShortString bytes text → (key_in i ≡ text) × (after_key i ≡ rest)
key_is {i = i} {rest = rest} {text = text} is h =
    let at : i ≡ length text ∷ (text ++ rest) = cc (is, h.bytes_are) in
    (ap key_in at ∙ take_at text rest _ refl, ap after_key at ∙ drop_at text rest _ refl)

-- The quoted key of some bytes is the text of their short string, which takes one byte and the key.
pub short_written : (i text old new : List ℕ) → text ≡ key_in i → new ≡ old ++ quoted text
    → WritesText SpellsShortString quoted i old new (Ok (1 + length text))
short_written i text old new is e = λ bytes rest x at h.
    let same = is ∙ (key_is at h).0 in
    (omega (arith, ap length same, ap length h.bytes_are), rw (e, same))

-- The quoted key, an equals sign and the text of the value are the text of an entry, which takes both.
pub entry_written : (room : ℕ) (i key after : List ℕ) (used : ℕ) (old a b new : List ℕ) → key ≡ key_in i → after ≡ after_key i
    → a ≡ old ++ quoted key → b ≡ a ++ codes "=" → WritesText (SpellsValue strict room) value_text after b new (Ok used)
    → WritesText (SpellsEntry (SpellsValue strict room)) entry_text i old new (Ok (1 + length key + used))
unfolding entry_text
entry_written room i key after used old a b new is behind first second value = λ bytes rest e at h.
    let k = key_is (cc (at, h.bytes_are, append_assoc h.front h.behind rest)) h.first_is in
    let same = is ∙ k.0 in
    let w = value h.behind rest h.two (behind ∙ k.1) h.second_is in (
      omega (lengths, w.0, ap length same, ap length h.bytes_are, ap length h.first_is.bytes_are),
      rw (w.1, second, first, same) (simp append_assoc) ∙ ap (λ x. old ++ entry_text x) (sym h.joined),
    )

-- ---- things that fill some bytes, one after another

-- where things fill all of the content, others fill the rest, whose texts after what is written so far complete the whole
pub record GoesOn {A : Type 0} (Spells : List ℕ → A → Type 0) (text : A → List ℕ) (content old rest now : List ℕ) : Type 0 where
  pub left : (xs : List A) → SpellsEach Spells content xs
      → (ys : List A) × SpellsEach Spells rest ys × (now ++ parted (map text ys) ≡ old ++ parted (map text xs))

-- At the start nothing is written, and all of the content is left.
pub begins : {A : Type 0} {Spells : List ℕ → A → Type 0} {text : A → List ℕ} {content old : List ℕ} → GoesOn Spells text content old content old
begins = record { left = λ xs h. (xs, h, refl) }

module _ {A : Type 0} (Spells : List ℕ → A → Type 0) (text : A → List ℕ) (some : HasBytes Spells) where
  -- a comma comes before others
  comma_parts : (rest : List ℕ) (y : A) (ys : List A) → SpellsEach Spells rest ys
      → parted (text y ∷ map text ys) ≡ text y ++ (comma_before rest ++ parted (map text ys))
  unfolding parted
  comma_parts [] y [] h = sym (append-nil _)
  comma_parts (byte ∷ rest) y [] h = absurd cc
  comma_parts [] y (z ∷ zs) h = absurd (omega (lengths, some h.0 z h.3, ap length h.2))
  comma_parts (byte ∷ rest) y (z ∷ zs) h = refl

  -- With the text of one thing more, and a comma where more comes, what is written goes on with the others.
  pub goes_on : {content old rest now : List ℕ} (mid next new : List ℕ) (used : ℕ) → GoesOn Spells text content old rest now → 0 < length rest
      → WritesText Spells text rest now mid (Ok used) → next ≡ drop used rest → new ≡ mid ++ comma_before next → GoesOn Spells text content old next new
  goes_on {content = content} {old = old} {rest = rest} {now = now} mid next new used g up w is comma =
      record { left = λ xs h. let l = g.left xs h in on xs l.0 l.1 l.2 }
    where
      on : (xs ys : List A) → SpellsEach Spells rest ys → now ++ parted (map text ys) ≡ old ++ parted (map text xs)
          → (zs : List A) × SpellsEach Spells next zs × (new ++ parted (map text zs) ≡ old ++ parted (map text xs))
      on xs [] h joins = absurd (omega (arith, up, ap length h))
      on xs (y ∷ ys) h joins =
          let one = w h.0 h.1 y h.2 h.3 in
          let next_is : next ≡ h.1 = cc (is, h.2, drop_at h.0 h.1 used (sym one.0)) in
          let others : SpellsEach Spells next ys = rw next_is h.4 in
          let more = parted (map text ys) in (
            ys,
            others,
            cc (
              comma,
              one.1,
              append_assoc (now ++ text y) (comma_before next) more,
              append_assoc now (text y) (comma_before next ++ more),
              comma_parts next y ys others,
              joins,
            ),
          )

  -- Where nothing is left, the texts of all things are written, with commas between them.
  pub done : {content old rest now : List ℕ} (unit : Unit {0}) → GoesOn Spells text content old rest now
      → length rest ≡ 0 → WritesEach Spells text content old now (Ok unit)
  unfolding parted
  done {old = old} {rest = rest} {now = now} unit g none = λ xs h. let l = g.left xs h in on xs l.0 l.1 l.2
    where
      on : (xs ys : List A) → SpellsEach Spells rest ys → now ++ parted (map text ys) ≡ old ++ parted (map text xs) → now ≡ old ++ parted (map text xs)
      on xs [] h joins = sym (append-nil now) ∙ joins
      on xs (y ∷ ys) h joins = absurd (omega (lengths, none, some h.0 y h.3, ap length h.2))
