-- Properties, decoded by the table, and content headers.
use Rattle.std.proofs.Common.{◌≡◌, ℕ, ◌+◌, ◌^◌, ◌<◌, ◌≤◌, ◌↔◌, ◌&&◌, Bool, true, false, true≢false, IsTrue, List, [], ◌∷◌, ◌++◌, length, get_or, take, drop}
use Rattle.std.proofs.Common.{map, Option, None, Result, Ok, Err, refl, sym, ap, ap₂, subst, ◌∙◌, arith, append_assoc}
use Rattle.std.proofs.lemmas.Bool.{ne_eqb}
use Rattle.std.proofs.lemmas.List.{take-append-drop}
use Rattle.std.proofs.lemmas.Nat.Bits.{bit_at_above}
use Rattle.std.proofs.Math.Seq.{take-add}
use Rattle.std.specs.Int.{bit_at}
use Rattle.amqp_types.specs.Levels.{Level, plain, tidy, strict}
use Rattle.amqp_types.specs.Judging.{took, IsBytes}
use Rattle.amqp_types.specs.Sequences.{SpellsBoth, SpellsMapped}
use Rattle.amqp_types.specs.Numbers.{bytes2, number_bytes, judge_number, SpellsNumber}
use Rattle.amqp_types.specs.Flags.{flag_at, FromTidy}
use Rattle.amqp_types.specs.Slots.{Item, Slot}
use Rattle.amqp_types.specs.Slots as meant
use Rattle.amqp_types.specs.SlotJudging.{judge_form, judge_slots}
use Rattle.amqp_types.specs.SlotSpelling.{SpellsForm, SpellsSlots}
use Rattle.amqp_types.specs.Properties.{Property, properties}
use Rattle.amqp_types.specs.PropertyJudging.{first_item, judge_optional, judge_set, judge_properties}
use Rattle.amqp_types.specs.PropertySpelling.{SpellsOptional, SpellsSet, SpellsProperties}
use Rattle.amqp_types.specs.ContentHeaders.{header_slots, header_of_parts, judge_content_header, SpellsContentHeader}
use Rattle.amqp_types.specs.declared.errors.ParserError.{ParserError}
use Rattle.amqp_types.proofs.Bytes.{IsBytes-drop}
use Rattle.amqp_types.proofs.FormLaws.{numbers_lawful}
use Rattle.amqp_types.proofs.Sequences.{map_taken}
use Rattle.amqp_types.proofs.Took.{value_took}
use Rattle.amqp_laws.proofs.SlotForms.{forms_lawful}
use Rattle.amqp_laws.proofs.SlotLaws.{form_is_plain}
use Rattle.amqp_laws.proofs.PropertyLaws.{properties_lawful}
use Rattle.amqp_laws.proofs.HeaderLaws.{content_headers_lawful}
use Rattle.amqp_canonical.specs.declared.shapes.Form.{Form}
use Rattle.amqp_canonical.specs.declared.slots.Judgement.{Judgement}
use Rattle.amqp_canonical.specs.Shapes.{form_of, property_of}
use Rattle.amqp_canonical.specs.SlotJudgements.{TakesTidily, JudgesTidily, JudgesLevels, after_others, IsCanonicalContentHeader}
use Rattle.amqp_canonical.proofs.Refusing.{Fails, fails_next}
use Rattle.amqp_canonical.proofs.Children.{decided_as, both_decided}
use Rattle.amqp_canonical.proofs.Joining.{IsRead, law_read, both_read, both_judged, split_at, judgement, and_true, IsWalk}
use Rattle.amqp_canonical.proofs.Joining.{IsReached, reached_more, reached_fails}
use Rattle.amqp_canonical.proofs.Forms.{slots_read, canonical_of_levels}

-- ---- one property

optional_read : (present : Bool) (form : meant.Form) → IsRead (judge_optional present form) (λ level. SpellsOptional level present form)
unfolding judge_optional
optional_read true form = record {
  read = λ level bytes rest option h.
      map_taken first_item (judge_form form) (SpellsForm plain form)
      (forms_lawful form).exact bytes rest h.thing (form_is_plain level form bytes h.thing h.spelled)
      ∙ ap (λ o. took o (length bytes)) (sym h.made);
}
optional_read false form = record { read = λ level bytes rest option h. ap₂ (λ o n. took o n) (sym h.1) (sym (ap length h.0)) }

mapped_at : (level : Level) (form : meant.Form) (bytes : List ℕ) (items : List Item) → SpellsForm plain form bytes items
    → SpellsForm level form bytes items ↔ SpellsMapped (SpellsForm level form) first_item bytes (first_item items)
mapped_at level form bytes items h = (
  λ s. record { thing = items; spelled = s; made = refl },
  λ s. subst (SpellsForm level form bytes)
      ((forms_lawful form).one_meaning plain bytes s.thing items (form_is_plain level form bytes s.thing s.spelled) h) s.spelled,
)

-- A property that is set is decoded as its form is.
pub optional_there : (present : Bool) (form : meant.Form) (bytes : List ℕ) (r : Result Judgement ParserError)
    → IsBytes bytes → present ≡ true → JudgesLevels (λ level. SpellsForm level form) bytes r (judge_form form bytes)
    → JudgesLevels (λ level. SpellsOptional level present form) bytes r (judge_optional present form bytes)
unfolding judge_optional
optional_there true form bytes (Ok j) fits there h =
    let one = (forms_lawful form).exact.spelled bytes h.thing j.used fits h.is in
    let front = take j.used bytes in
    let up = mapped_at strict form front h.thing one.0 in
    let neat = mapped_at tidy form front h.thing one.0 in
    record {
      thing = first_item h.thing;
      is = rw h.is;
      canonical = decided_as _ _ _ h.canonical up.0 up.1;
      tidy = decided_as _ _ _ h.tidy neat.0 neat.1;
    }
optional_there true form bytes (Err e) fits there h = fails_next _ _ _ h
optional_there false form bytes r fits there h = absurd (true≢false (sym there))

-- A property that is not set takes no bytes, and is canonical and tidy.
pub optional_none : (present : Bool) (form : meant.Form) (bytes : List ℕ) → present ≡ false
    → JudgesLevels (λ level. SpellsOptional level present form) bytes (judgement 0 true true) (judge_optional present form bytes)
unfolding judge_optional
optional_none true form bytes none = absurd (true≢false none)
optional_none false form bytes none = record { thing = None; is = refl; canonical = (λ t. (refl, refl), λ h. refl); tidy = (λ t. (refl, refl), λ h. refl) }

-- ---- properties one after another

-- The properties that bytes encode at any level are decoded from them, whatever follows.
pub set_read : (mask : ℕ) (ps : List Property) → IsRead (judge_set mask ps) (λ level. SpellsSet level mask ps)
unfolding judge_set
set_read mask [] = record { read = λ level bytes rest options h. ap₂ (λ a b. took a b) (sym h.1) (sym (ap length h.0)) }
set_read mask (p ∷ ps) = both_read (λ option options. option ∷ options) (optional_read (flag_at mask p.bit) p.form) (set_read mask ps)

module _ (mask : ℕ) where
  -- Properties that shapes stand for are decoded one after another.
  pub properties_walk : IsWalk (λ (p : ℕ × Form). judge_optional (flag_at mask p.0) (form_of p.1))
      (λ p level. SpellsOptional level (flag_at mask p.0) (form_of p.1))
      (λ ps. judge_set mask (map property_of ps)) (λ ps level. SpellsSet level mask (map property_of ps))
  unfolding judge_set
  properties_walk = record {
    step = λ p ps bytes j r one others.
        both_judged (λ option options. option ∷ options) (optional_read (flag_at mask p.0) (form_of p.1))
        (set_read mask (map property_of ps)) bytes j r one others;
    stop = λ p ps bytes e h. fails_next _ _ _ h;
    none = λ bytes. record { thing = []; is = refl; canonical = (λ t. (refl, refl), λ h. refl); tidy = (λ t. (refl, refl), λ h. refl) };
  }

  module _ {ps : List (ℕ × Form)} {bytes : List ℕ} {k at : ℕ} {canonical so_far : Bool} (other : ℕ × Form)
      (before : IsReached properties_walk ps bytes k at canonical so_far) (more : k < length ps) where
    abbrev bit : ℕ
    bit = let p = get_or ps k other in p.0

    abbrev form : meant.Form
    form = let p = get_or ps k other in form_of p.1

    -- the next one is not present
    pub property_absent : flag_at mask bit ≡ false → IsReached properties_walk ps bytes (k + 1) at canonical so_far
    property_absent absent =
        let next =
        reached_more properties_walk before (record { used = 0; canonical = true; tidy = true }) other more
        (optional_none (flag_at mask bit) form (drop at bytes) absent) in
        let none : at + 0 ≡ at = omega arith in
        rw (← none, ← and_true canonical, ← and_true so_far) next

    -- it is, and was decoded
    pub property_there : (j : Judgement) → IsBytes bytes → flag_at mask bit ≡ true
        → TakesTidily (SpellsForm strict form) (SpellsForm tidy form) j (drop at bytes) (judge_form form (drop at bytes))
        → IsReached properties_walk ps bytes (k + 1) (at + j.used) (canonical && j.canonical) (so_far && j.tidy)
    property_there j fits there h =
        reached_more properties_walk before j other more
        (optional_there (flag_at mask bit) form (drop at bytes) (Ok j) (IsBytes-drop at bytes fits) there h)

    -- it is, and was not decoded
    pub property_fails : (e : ParserError) → IsBytes bytes → flag_at mask bit ≡ true
        → Fails e (judge_form form (drop at bytes)) → Fails e (judge_set mask (map property_of ps) bytes)
    property_fails e fits there h =
        reached_fails properties_walk before e other more
        (optional_there (flag_at mask bit) form (drop at bytes) (Err e) (IsBytes-drop at bytes fits) there h)

-- ---- the mask

abbrev NoUnused : ℕ → Type 0
NoUnused mask = (flag_at mask 1 ≡ false) × (flag_at mask 0 ≡ false)

module _ (bytes : List ℕ) (mask n used : ℕ) (options : List (Option Item)) (fits : IsBytes bytes)
    (is : judge_number bytes2 bytes ≡ took mask n) (set_is : judge_set mask properties (drop n bytes) ≡ took options used) where
  number : SpellsNumber bytes2 (take n bytes) mask × (n ≤ length bytes)
  number = (numbers_lawful bytes2).exact.spelled bytes mask n fits is

  properties_at : (level : Level) → (NoUnused mask → FromTidy level (NoUnused mask))
      → SpellsSet level mask properties (take used (drop n bytes)) options × NoUnused mask → SpellsProperties level (take (n + used) bytes) options
  properties_at level from h = record {
    mask = mask;
    behind = take used (drop n bytes);
    fits = number.0.fits;
    bytes_are = take-add n used bytes ∙ ap (λ bs. bs ++ take used (drop n bytes)) number.0.bytes_are;
    set = h.0;
    unused = from h.1;
  }

  -- the mask that is encoded is the one that was read
  same_mask : (level : Level) (s : SpellsProperties level (take (n + used) bytes) options) → s.mask ≡ mask
  same_mask level s =
      let tail = s.behind ++ drop (n + used) bytes in
      let front = number_bytes bytes2 s.mask in
      let all : bytes ≡ front ++ tail =
      sym (take-append-drop (n + used) bytes) ∙ ap (λ bs. bs ++ drop (n + used) bytes) s.bytes_are ∙ append_assoc front s.behind (drop (n + used) bytes) in
      value_took s.mask mask (length front) n
      (sym ((numbers_lawful bytes2).exact.taken front tail s.mask (record { fits = s.fits; bytes_are = refl })) ∙ sym (ap (judge_number bytes2) all) ∙ is)

  set_at : (level : Level) → ((s : SpellsProperties level (take (n + used) bytes) options) → NoUnused s.mask)
      → SpellsProperties level (take (n + used) bytes) options → SpellsSet level mask properties (take used (drop n bytes)) options × NoUnused mask
  set_at level to s =
      let same = same_mask level s in
      let both : SpellsBoth (SpellsNumber bytes2) (SpellsSet level mask properties) (λ m o. o) (take (n + used) bytes) options =
      record {
        front = number_bytes bytes2 s.mask;
        behind = s.behind;
        one = s.mask;
        two = options;
        bytes_are = s.bytes_are;
        first_is = record { fits = s.fits; bytes_are = refl };
        second_is = subst (λ m. SpellsSet level m properties s.behind options) same s.set;
        joined = refl;
      } in
      let split = split_at (λ m o. o) (law_read (numbers_lawful bytes2)) (set_read mask properties) level bytes mask options n used is set_is in
      let parts = split.1 both in
      (parts.1, subst (λ m. NoUnused m) same (to s))

-- Properties take the mask and those that it sets, and are canonical, or tidy, exactly where these are and no unused bit is set.
pub properties_took : (bytes : List ℕ) (mask n : ℕ) (unused : Bool) (j : Judgement)
    → IsBytes bytes → judge_number bytes2 bytes ≡ took mask n → IsTrue unused ↔ NoUnused mask
    → TakesTidily (SpellsSet strict mask properties) (SpellsSet tidy mask properties) j (drop n bytes) (judge_set mask properties (drop n bytes))
    → TakesTidily (SpellsProperties strict) (SpellsProperties tidy)
    (record { used = n + j.used; canonical = j.canonical && unused; tidy = j.tidy && unused }) bytes (judge_properties bytes)
unfolding judge_properties
properties_took bytes mask n unused j fits is none h =
    let up = λ (level : Level). properties_at bytes mask n j.used h.thing fits is h.is level in
    let down = λ (level : Level). set_at bytes mask n j.used h.thing fits is h.is level in
    record {
      thing = h.thing;
      is = rw (is, h.is);
      canonical = both_decided h.canonical none (up strict (λ x. x), down strict (λ s. s.unused));
      tidy = both_decided h.tidy none (up tidy (λ x. x), down tidy (λ s. s.unused));
    }

-- a bit beyond the mask
pub bit_beyond : (mask bit : ℕ) → mask < 2 ^ 16 → 16 ≤ bit → flag_at mask bit ≡ false
bit_beyond mask bit fits far = let none = bit_at_above mask 16 bit fits far in ne_eqb (bit_at mask bit) 1 (omega (arith, none))

-- ---- content headers

-- Where the front of a content header is taken, the header is decoded as its properties are, after the front.
pub header_judged : (bytes : List ℕ) (j : Judgement) (r : Result Judgement ParserError) → IsBytes bytes
    → JudgesLevels (λ level. SpellsSlots level header_slots) bytes (Ok j) (judge_slots header_slots bytes)
    → JudgesLevels SpellsProperties (drop j.used bytes) r (judge_properties (drop j.used bytes))
    → JudgesTidily IsCanonicalContentHeader (SpellsContentHeader tidy) bytes (after_others j.used j.canonical j.tidy r) (judge_content_header bytes)
unfolding judge_content_header
header_judged bytes j r fits front behind =
    canonical_of_levels content_headers_lawful bytes (after_others j.used j.canonical j.tidy r) fits
    (both_judged header_of_parts (slots_read header_slots) (law_read properties_lawful) bytes j r front behind)
