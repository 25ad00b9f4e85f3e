-- The laws of lists of fields.
use Rattle.std.proofs.Common.{◌≡◌, ℕ, zero, suc, ◌+◌, ◌<◌, ◌≤◌, ◌^◌, nat_lt, nat_le, ◌&&◌, ◌||◌, Bool, true, false, List, [], ◌∷◌, ◌++◌, length, take, drop}
use Rattle.std.proofs.Common.{map, refl, sym, ap, ap₂, subst, ◌∙◌, arith}
use Rattle.std.proofs.lemmas.Bool.Decides.{nat_tests}
use Rattle.std.proofs.Math.Nat.{pow-le-pow_right}
use Rattle.std.proofs.lemmas.Str.{IsUtf8-nil}
use Rattle.std.proofs.lemmas.List.{take_at, drop_at}
use Rattle.amqp_types.specs.Levels.{Level, plain, tidy, strict}
use Rattle.amqp_types.specs.Judging.{took, ◌>>=◌, IsExact}
use Rattle.amqp_types.specs.Numbers.{NumberWidth, number_limit}
use Rattle.amqp_types.specs.Flags.{flags_from, flags_byte}
use Rattle.amqp_types.specs.FormLaws.{IsLawful}
use Rattle.amqp_types.specs.Slots.{Item, number_item, flag_item, text_item, bytes_item, Form, number_form, flags_form, short_string_form, long_string_form}
use Rattle.amqp_types.specs.Slots.{Slot, kept_slot, reserved_slot}
use Rattle.amqp_types.specs.SlotJudging.{judge_form, judge_dropped, judge_slot, judge_slots}
use Rattle.amqp_types.specs.SlotBytes.{item_count, flags_of, form_bytes, slots_bytes, is_deep_item, is_long_item, any_deep, any_long}
use Rattle.amqp_types.specs.SlotSpelling.{SpellsForm, SpellsReserved, SpellsSlots}
use Rattle.amqp_types.specs.SlotLaws.{are_flags, is_least, are_least, SlotsAreLawful, SpelledSlotsAreBounded}
use Rattle.amqp_types.proofs.FormLaws.{is_plain, flags_back, flags_byte_below}
use Rattle.amqp_types.proofs.Lawful.{both_lawful}
use Rattle.amqp_types.proofs.Numbers.{number_bytes-length}
use Rattle.amqp_types.proofs.Sequences.{map_spelled, map_taken}
use Rattle.amqp_laws.proofs.SlotForms.{forms_lawful, form_gives}
use Rattle.amqp_laws.proofs.Bounded.{neither}

-- ---- constants of reserved fields

-- Where a conjunction holds, both of its parts do.
pub both_true : (a b : Bool) → (a && b) ≡ true → (a ≡ true) × (b ≡ true)
both_true true b h = (refl, h)
both_true false b h = absurd cc

-- Items that are n flags are the items of the flags that they hold, which are n.
pub flags_are : (count : ℕ) (items : List Item) → are_flags count items ≡ true → (items ≡ map flag_item (flags_of items)) × (length (flags_of items) ≡ count)
flags_are zero [] h = (refl, refl)
flags_are (suc count) (flag_item flag ∷ items) h = let more = flags_are count items h in (ap (λ (xs : List Item). flag_item flag ∷ xs) more.0, ap suc more.1)
flags_are count items h = absurd cc

at_most : (count : ℕ) → nat_le count 8 ≡ true → count ≤ 8
at_most count h = grind (arith, nat_tests)

fits_byte : (flags : List Bool) (count : ℕ) → count ≤ 8 → length flags ≡ count → flags_byte flags < 256
fits_byte flags count few is =
    let at_most : length flags ≤ 8 = omega (arith, is, few) in
    let most : 2 ^ length flags ≤ 2 ^ 8 = pow-le-pow_right {n = 2} (omega arith) {i = length flags} {j = 8} at_most in
    omega (arith, flags_byte_below flags, most)

-- The canonical byte of at most eight flags encodes them strictly.
pub flags_strict : (count : ℕ) (items : List Item) → count ≤ 8 → are_flags count items ≡ true
    → SpellsForm strict (flags_form count) (form_bytes (flags_form count) items) items
unfolding form_bytes
flags_strict count items few all =
    let is = flags_are count items all in
    let P : ℕ → Type 0 = λ n. flags_byte (flags_of items) < 2 ^ n in
    record {
      thing = flags_of items;
      spelled = record {
        byte = flags_byte (flags_of items);
        fits = fits_byte (flags_of items) count few is.1;
        bytes_are = refl;
        flags_are = sym (ap (λ (n : ℕ). flags_from n 0 (flags_byte (flags_of items))) (sym is.1) ∙ flags_back (flags_of items));
        unused = subst P is.1 (flags_byte_below (flags_of items));
      };
      made = is.0;
    }

constant_number : (width : NumberWidth) (n : ℕ) → nat_lt n (number_limit width) ≡ true → n < number_limit width
constant_number width n h = grind (arith, nat_tests)

-- The canonical bytes of a least constant encode it strictly.
pub constant_strict : (form : Form) (constant : List Item) → is_least form constant ≡ true → SpellsForm strict form (form_bytes form constant) constant
unfolding form_bytes
constant_strict (number_form width) (number_item n ∷ []) h =
    record { thing = n; spelled = record { fits = constant_number width n h; bytes_are = refl }; made = refl }
constant_strict (flags_form count) items h = let b = both_true (nat_le count 8) (are_flags count items) h in flags_strict count items (at_most count b.0) b.1
constant_strict short_string_form (text_item [] ∷ []) h =
    record { thing = []; spelled = record { fits = omega arith; utf8 = IsUtf8-nil; bytes_are = refl }; made = refl }
constant_strict long_string_form (bytes_item [] ∷ []) h = record { thing = []; spelled = record { fits = omega arith; bytes_are = refl }; made = refl }
constant_strict form constant h = absurd cc

constant_shortest : (form : Form) (constant : List Item) (bytes : List ℕ) (items : List Item)
    → is_least form constant ≡ true → SpellsForm plain form bytes items → length (form_bytes form constant) ≤ length bytes
unfolding form_bytes
constant_shortest (number_form width) (number_item n ∷ []) bytes items l h =
    omega (arith, ap length h.spelled.bytes_are, number_bytes-length width h.thing, number_bytes-length width n)
constant_shortest (flags_form count) constant bytes items l h = omega (arith, ap length h.spelled.bytes_are)
constant_shortest short_string_form (text_item [] ∷ []) bytes items l h = omega (arith, ap length h.spelled.bytes_are)
constant_shortest long_string_form (bytes_item [] ∷ []) bytes items l h = omega (arith, ap length h.spelled.bytes_are)
constant_shortest form constant bytes items l h = absurd cc

-- ---- reserved fields

module _ (form : Form) (constant : List Item) (least : is_least form constant ≡ true) where
  abbrev Reserved : Level → List ℕ → List Item → Type 0
  Reserved level = SpellsReserved level form constant

  form_law : IsLawful (judge_form form) (λ level. SpellsForm level form) (form_bytes form)
  form_law = forms_lawful form

  reserved_taken : (bytes rest : List ℕ) (items : List Item) → Reserved plain bytes items → judge_dropped form (bytes ++ rest) ≡ took items (length bytes)
  unfolding judge_dropped
  reserved_taken bytes rest items h =
      map_taken (λ xs. []) (judge_form form) (SpellsForm plain form) (forms_lawful form).exact bytes rest h.dropped h.spelled
      ∙ ap (λ xs. took xs (length bytes)) (sym h.none)

  reserved_exact : IsExact (judge_dropped form) (Reserved plain)
  unfolding judge_dropped
  reserved_exact = record {
    spelled =
        map_spelled (λ xs. []) (judge_form form) (SpellsForm plain form) (Reserved plain)
        (forms_lawful form).exact (λ bytes xs h. record { dropped = xs; spelled = h; none = refl; unused = tt });
    taken = reserved_taken;
  }

  reserved_strict_is_tidy : (bytes : List ℕ) (items : List Item) → Reserved strict bytes items → Reserved tidy bytes items
  reserved_strict_is_tidy bytes items h =
      record { dropped = h.dropped; spelled = (forms_lawful form).strict_is_tidy bytes h.dropped h.spelled; none = h.none; unused = h.unused }

  reserved_tidy_is_plain : (bytes : List ℕ) (items : List Item) → Reserved tidy bytes items → Reserved plain bytes items
  reserved_tidy_is_plain bytes items h =
      record { dropped = h.dropped; spelled = (forms_lawful form).tidy_is_plain bytes h.dropped h.spelled; none = h.none; unused = tt }

  -- The laws of a form of bytes hold of a reserved field, of which the constant is written.
  pub reserved_lawful : IsLawful (judge_dropped form) Reserved (λ items. form_bytes form constant)
  reserved_lawful = record {
    exact = reserved_exact;
    strict_is_tidy = reserved_strict_is_tidy;
    tidy_is_plain = reserved_tidy_is_plain;
    one_meaning = λ level bytes xs ys p q. p.none ∙ sym q.none;
    strict_is_canonical = λ bytes items h. (forms_lawful form).strict_is_canonical bytes h.dropped h.spelled ∙ ap (form_bytes form) h.unused;
    canonical_is_strict = λ bytes items h. record { dropped = constant; spelled = constant_strict form constant least; none = h.none; unused = refl };
    shortest = λ bytes items h. constant_shortest form constant bytes h.dropped least h.spelled;
  }

-- ---- lists of fields

no_slots_lawful : IsLawful (judge_slots []) (λ level. SpellsSlots level []) (slots_bytes [])
unfolding judge_slots slots_bytes
no_slots_lawful = record {
  exact = record {
    spelled = λ bytes items n fits h.
        let none : [] ≡ items = cc in
        let count : 0 ≡ n = cc in
        ((ap (λ (m : ℕ). take m bytes) (sym count), sym none), omega (arith, count));
    taken = λ bytes rest items h. ap₂ (λ a b. took a b) (sym h.1) (sym (ap length h.0));
  };
  strict_is_tidy = λ bytes items h. h;
  tidy_is_plain = λ bytes items h. h;
  one_meaning = λ level bytes xs ys p q. p.1 ∙ sym q.1;
  strict_is_canonical = λ bytes items h. h.0;
  canonical_is_strict = λ bytes items h. (refl, h.1);
  shortest = λ bytes items h. omega arith;
}

-- a field that was read, and after it the others
pub slot_then : (slot : Slot) (slots : List Slot) (bytes : List ℕ) (xs ys : List Item) (n m : ℕ) → judge_slot slot bytes ≡ took xs n
    → judge_slots slots (drop n bytes) ≡ took ys m → judge_slots (slot ∷ slots) bytes ≡ took (xs ++ ys) (n + m)
unfolding judge_slots
slot_then slot slots bytes xs ys n m one others =
    ap (λ j. j >>= λ x. judge_slots slots (drop x.1 bytes) >>= λ y. took (x.0 ++ y.0) (x.1 + y.1)) one ∙ ap (λ j. j >>= λ y. took (xs ++ y.0) (n + y.1)) others

-- the bytes of a kept field, and those of the fields after it
pub kept_bytes : (form : Form) (slots : List Slot) (xs ys : List Item) → length xs ≡ item_count form
    → slots_bytes (kept_slot form ∷ slots) (xs ++ ys) ≡ form_bytes form xs ++ slots_bytes slots ys
unfolding slots_bytes
kept_bytes form slots xs ys count =
    ap₂ (λ a b. form_bytes form a ++ slots_bytes slots b) (take_at xs ys (item_count form) count) (drop_at xs ys (item_count form) count)

-- The laws of a form of bytes hold of fields one after another whose constants are least.
pub slots_lawful : SlotsAreLawful
unfolding judge_slots slots_bytes
slots_lawful [] least = no_slots_lawful
slots_lawful (kept_slot form ∷ slots) least =
    both_lawful (judge_form form) (judge_slots slots) (λ xs ys. xs ++ ys) (λ level. SpellsForm level form)
    (λ level. SpellsSlots level slots) (form_bytes form) (slots_bytes slots) (slots_bytes (kept_slot form ∷ slots))
    (forms_lawful form) (slots_lawful slots least) (λ bytes xs ys h. let g = form_gives form bytes xs h in kept_bytes form slots xs ys g.count)
slots_lawful (reserved_slot form constant ∷ slots) least =
    let b = both_true (is_least form constant) (are_least slots) least in
    both_lawful (judge_dropped form) (judge_slots slots) (λ xs ys. xs ++ ys) (λ level. SpellsReserved level form constant)
    (λ level. SpellsSlots level slots) (λ items. form_bytes form constant) (slots_bytes slots) (slots_bytes (reserved_slot form constant ∷ slots))
    (reserved_lawful form constant b.0) (slots_lawful slots b.1) (λ bytes xs ys h. ap (λ zs. form_bytes form constant ++ slots_bytes slots (zs ++ ys)) h.none)

-- ---- what is encoded is neither long nor too deep

-- Where a disjunction does not hold, neither of its parts does.
pub either : (a b : Bool) → (a || b) ≡ false → (a ≡ false) × (b ≡ false)
either true b h = absurd cc
either false b h = (refl, h)

any_deep-append : (xs ys : List Item) → any_deep xs ≡ false → any_deep ys ≡ false → any_deep (xs ++ ys) ≡ false
any_deep-append [] ys p q = q
any_deep-append (x ∷ xs) ys p q =
    let b = either (is_deep_item x) (any_deep xs) p in
    neither (is_deep_item x) (any_deep (xs ++ ys)) b.0 (any_deep-append xs ys b.1 q)

any_long-append : (xs ys : List Item) → any_long xs ≡ false → any_long ys ≡ false → any_long (xs ++ ys) ≡ false
any_long-append [] ys p q = q
any_long-append (x ∷ xs) ys p q =
    let b = either (is_long_item x) (any_long xs) p in
    neither (is_long_item x) (any_long (xs ++ ys)) b.0 (any_long-append xs ys b.1 q)

-- A form that is encoded at any level is encoded at level plain.
pub form_is_plain : (level : Level) (form : Form) (bytes : List ℕ) (items : List Item) → SpellsForm level form bytes items → SpellsForm plain form bytes items
form_is_plain level form = is_plain (λ l. SpellsForm l form) (forms_lawful form).strict_is_tidy (forms_lawful form).tidy_is_plain level

-- Fields that are encoded are neither long nor too deep.
pub slots_bounded : SpelledSlotsAreBounded
slots_bounded level [] bytes items h = (ap any_deep h.1, ap any_long h.1)
slots_bounded level (kept_slot form ∷ slots) bytes items h =
    let g = form_gives form h.front h.one (form_is_plain level form h.front h.one h.first_is) in
    let more = slots_bounded level slots h.behind h.two h.second_is in
    (ap any_deep h.joined ∙ any_deep-append h.one h.two g.not_deep more.0, ap any_long h.joined ∙ any_long-append h.one h.two g.not_long more.1)
slots_bounded level (reserved_slot form constant ∷ slots) bytes items h =
    let more = slots_bounded level slots h.behind h.two h.second_is in
    let same : items ≡ h.two = h.joined ∙ ap (λ xs. xs ++ h.two) h.first_is.none in
    (ap any_deep same ∙ more.0, ap any_long same ∙ more.1)
