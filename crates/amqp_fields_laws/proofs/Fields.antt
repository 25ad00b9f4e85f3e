-- Fields that were read are made, those that are reserved as their constants, and are read again as the same nodes.
use Rattle.amqp_fields_laws.proofs
use Rattle.amqp_types.specs as types
use Rattle.std.proofs.Common.{◌≡◌, ℕ, suc, ◌+◌, ◌-◌, ◌<◌, ◌≤◌, ◌==◌, nat_lt, nat_le, Bool, true, false, not, List, [], ◌∷◌, ◌++◌, length, map, take, drop, Ok}
use Rattle.std.proofs.Common.{inl, refl, sym, ap, subst, ◌∙◌, arith}
use Rattle.std.proofs.lemmas.Bool.Decides.{nat_tests}
use Rattle.std.proofs.lemmas.List.{drop_at, length-append, length-take-le, take_at}
use types.Levels.{plain, strict}
use types.Judging.{Judge, Judged, IsBytes, took, ◌>>=◌}
use types.FormLaws.{IsLawful}
use types.Numbers.{judge_number}
use types.Flags.{bit_of, flags_bytes, judge_flags, SpellsFlags}
use types.Strings.{judge_long_string, judge_short_string}
use types.ValueJudging.{filled, judge_entry, judge_field_table, judge_value}
use types.Constants.{inner_depth}
use types.Slots.{Item, number_item, flag_item, text_item, bytes_item, entries_item, Form, number_form, flags_form, short_string_form, long_string_form}
use types.Slots.{table_form, Slot, kept_slot, reserved_slot}
use types.SlotBytes.{form_bytes}
use types.SlotJudging.{judge_dropped, judge_form, judge_slot, judge_slots}
use types.SlotLaws.{are_least, is_least}
use types.SlotSpelling.{SpellsForm}
use Rattle.amqp_types.proofs.FormLaws.{flags_lawful}
use Rattle.amqp_types.proofs.Took.{bind_took, count_took}
use Rattle.amqp_laws.proofs.SlotForms.{forms_lawful}
use Rattle.amqp_laws.proofs.SlotLaws.{both_true, constant_strict, form_is_plain, reserved_lawful}
use Rattle.amqp_fields.specs.declared.node.Node.{Node}
use Rattle.amqp_fields.specs.Nodes.{numbered}
use Rattle.amqp_fields.specs.Listed.{Lister, kept_count, listed_bits, listed_entry, listed_form, listed_slot, listed_slots, listed_value, next_place, placed}
use Rattle.amqp_fields_write.specs.Made.{made_given, made_items, made_long, own_index}
use Rattle.amqp_fields_write.specs.MadeFields.{flags_in, is_next, flags_made, group_size, is_field, is_flag, made_field, made_form, made_kept, made_plain}
use Rattle.amqp_fields_write.specs.MadeFields.{made_slot, made_slots, node_count}
use Rattle.amqp_fields.proofs.FieldsFound.{flags_length, spare}
use Rattle.amqp_fields_write.proofs.MeantFieldsMade.{IsOne}
use Rattle.amqp_fields.proofs.Spans.{Stands, stands_drop}
use Rattle.amqp_fields.proofs.ValuesFound.{Keeps, both_took, map_took}
use proofs.Values.{items_round, entry_round, table_content, value_round}
use proofs.Twins.{long_round, number_round, short_round, stands_fit, AreSame, IsMade, IsRound, alike_itself, as_made, both_made, both_same, no_bytes}
use proofs.Twins.{none_made, none_same, one_same}

-- ---- one field

-- what a field that is no flags makes, which is the first of some nodes
pub field_made : (pool : List ℕ) (end place : ℕ) (form : Form) (node : Node) (inside more : List Node)
    → node.inside ≡ length inside → Keeps (placed place form) node
    → made_field pool end place form (node ∷ (inside ++ more)) ≡ made_form pool form (end - length more) node inside
unfolding made_field
field_made pool end place form node inside more inside_is keeps =
    let others = inside ++ more in
    let within : nat_lt (length others) node.inside ≡ false = grind (arith, nat_tests, length-append inside more) in
    let is : is_field place form node ≡ true = grind (arith, nat_tests) in
    rw (within, is, drop_at inside more node.inside (sym inside_is), take_at inside more node.inside (sym inside_is))

-- a field with those inside it is passed
pub group_passed : (node : Node) (inside more : List Node) → node.inside ≡ length inside
    → drop (group_size (node ∷ (inside ++ more))) (node ∷ (inside ++ more)) ≡ more
group_passed node inside more is =
    ap (λ k. drop k (node ∷ (inside ++ more))) {x = 1 + node.inside} {y = suc (length inside)} (omega (arith, is)) ∙ drop_at inside more (length inside) refl

-- The nodes of a field that is no flags make it, whatever nodes come after them.
pub record MakesField (pool : List ℕ) (place : ℕ) (form : Form) (nodes : List Node) (made : List ℕ) : Type 0 where
  pub is : (end : ℕ) (more : List Node) → made_field pool end place form (nodes ++ more) ≡ Ok made
  pub passed : (more : List Node) → drop (group_size (nodes ++ more)) (nodes ++ more) ≡ more
  pub next : (at : ℕ) (more : List Node) → is_next at (nodes ++ more) ≡ (place == at)

module _ {pool : List ℕ} (fits : IsBytes pool) where
  -- a field, by its node and those inside it
  of_round : {alone : Bool} {list : Lister} {end used : ℕ} {bytes : List ℕ} (place : ℕ) (form : Form)
      → IsRound alone pool (Keeps (placed place form)) (made_form pool form) list (placed place form) end bytes used
      → IsMade alone pool (MakesField pool place form) (λ e. list e (placed place form)) end bytes used
  of_round place form round = as_made round (search) refl (record {
    is = λ e more.
        field_made pool e place form round.node round.inside more round.inside_is round.keeps ∙ round.made_is (e - length more);
    passed = λ more. group_passed round.node round.inside more round.inside_is;
    next = λ at more. ap (λ k. k == at) round.keeps.place;
  })

  -- each form but flags
  pub form_round : (deep : Bool) (form : Form) → IsOne form → {end : ℕ} (place : ℕ) {bytes : List ℕ} {items : List Item} {n : ℕ} → Stands pool end bytes
      → judge_form form bytes ≡ took items n → IsMade (not deep) pool (MakesField pool place form) (λ e. listed_form deep e place form) end bytes n
  unfolding judge_form listed_form made_form made_plain made_items
  form_round deep (flags_form count) one place stands h = absurd one
  form_round deep (number_form width) one place stands h =
      of_round place (number_form width) (number_round fits stands (search) width (λ x. number_item x ∷ []) h (λ e x. refl))
  form_round deep short_string_form one place stands h =
      of_round place short_string_form (short_round fits stands (search) (λ x. text_item x ∷ []) h (λ at e x. refl))
  form_round deep long_string_form one place {bytes} {items} {n} stands h =
      let read = map_took judge_long_string (λ x. bytes_item x ∷ []) bytes items n h in
      of_round place long_string_form (long_round fits stands (search) read.1 (λ e. made_long (own_index e [])) (λ at e. refl) (λ e. refl))
  form_round true table_form one place {bytes} {items} {n} stands h =
      let has = table_content (judge_value inner_depth) (λ es. entries_item es ∷ []) bytes n h in
      of_round place table_form
      (items_round fits (judge_entry (judge_value inner_depth)) (listed_entry (listed_value inner_depth)) _
      (entry_round fits inner_depth (value_round fits inner_depth)) has (search) (inl (inl refl)) stands)
  form_round false table_form one place {bytes} {items} {n} stands h =
      let has = table_content (judge_value inner_depth) (λ es. entries_item es ∷ []) bytes n h in
      let judge = judge_entry (judge_value inner_depth) in
      of_round place table_form
      (long_round fits stands (search) has.is (λ e bs. made_given (own_index e []) bs (filled judge 0 bs)) (λ at e. refl)
      (λ e. ap (made_given (own_index e []) has.content) has.fills))

-- ---- flags

bit_back : (flag : Bool) → (bit_of flag == 1) ≡ flag
bit_back true = refl
bit_back false = refl

bit_small : (flag : Bool) → bit_of flag < 2
bit_small true = omega arith
bit_small false = omega arith

-- flags that were listed are found among their nodes
flags_found : (end place : ℕ) (flags : List Bool) (more : List Node) → flags_in end place (length flags) (listed_bits place flags ++ more) ≡ Ok flags
unfolding flags_in
flags_found end place [] more = refl
flags_found end place (flag ∷ flags) more =
    let node = numbered (placed place (flags_form 1)) (bit_of flag) in
    let is : is_flag place node ≡ true = grind (arith, nat_tests, bit_small flag) in
    rw (is, flags_found end (next_place place 1) flags more) (ap (λ b. Ok (b ∷ flags)) (bit_back flag))

bits_passed : (place : ℕ) (flags : List Bool) (more : List Node) → drop (length flags) (listed_bits place flags ++ more) ≡ more
bits_passed place [] more = refl
bits_passed place (flag ∷ flags) more = bits_passed (next_place place 1) flags more

same_bits : {alone : Bool} {pool other : List ℕ} (place : ℕ) (flags : List Bool) → AreSame alone pool other (listed_bits place flags) (listed_bits place flags)
same_bits place [] = none_same
same_bits place (flag ∷ flags) =
    let label = placed place (flags_form 1) in
    let alike = alike_itself {label = label} (search) refl in
    both_same {ns = numbered label (bit_of flag) ∷ []} (one_same alike (no_bytes alike) (search) (search) refl refl refl refl)
    (same_bits (next_place place 1) flags)

-- ---- fields that are kept, and reserved ones

-- the nodes of a field make it, whatever nodes come after them
pub record MakesSlot (pool : List ℕ) (place : ℕ) (slot : Slot) (nodes : List Node) (made : List ℕ) : Type 0 where
  pub is : (end : ℕ) (more : List Node) → made_slot pool end place slot (nodes ++ more) ≡ Ok made
  pub passed : (more : List Node) → drop (node_count slot (nodes ++ more)) (nodes ++ more) ≡ more

module _ (pool : List ℕ) (deep : Bool) where
  -- the nodes of a field are made, and read again
  abbrev pub IsSlot : ℕ → Slot → ℕ → List ℕ → ℕ → Type 0
  IsSlot place slot end bytes used = IsMade (not deep) pool (MakesSlot pool place slot) (λ e. listed_slot deep e place slot) end bytes used

  -- the nodes of fields are made, and read again
  abbrev pub AreSlots : ℕ → List Slot → ℕ → List ℕ → ℕ → Type 0
  AreSlots place slots end bytes used =
      IsMade (not deep) pool (λ nodes made. (end : ℕ) → made_slots pool end place slots nodes ≡ Ok made) (λ e. listed_slots deep e place slots) end bytes used

-- a field that is kept and no flags is made and passed as its form says
kept_is : (pool : List ℕ) (form : Form) → IsOne form → (end place : ℕ) (nodes : List Node)
    → (made_kept pool end place form nodes ≡ made_field pool end place form nodes) × (node_count (kept_slot form) nodes ≡ group_size nodes)
unfolding made_kept
kept_is pool (flags_form count) one end place nodes = absurd one
kept_is pool form one end place nodes = (refl, refl)

least_left : (slot : Slot) (slots : List Slot) → are_least (slot ∷ slots) ≡ true → are_least slots ≡ true
least_left (kept_slot form) slots least = least
least_left (reserved_slot form constant) slots least = (both_true (is_least form constant) (are_least slots) least).1

module _ {pool : List ℕ} (fits : IsBytes pool) (deep : Bool) where
  one_round : (form : Form) → IsOne form → {end : ℕ} (place : ℕ) {bytes : List ℕ} {items : List Item} {n : ℕ} → Stands pool end bytes
      → judge_form form bytes ≡ took items n → IsSlot pool deep place (kept_slot form) end bytes n
  unfolding listed_slot
  one_round form one place stands h =
      let field = form_round fits deep form one place stands h in
      record {
        nodes = field.nodes;
        is = field.is;
        made = field.made;
        makes = record {
          is = λ e more. (kept_is pool form one e place (field.nodes ++ more)).0 ∙ field.makes.is e more;
          passed = λ more. rw ((kept_is pool form one 0 place (field.nodes ++ more)).1) (field.makes.passed more);
        };
        made_size = field.made_size;
        bound = field.bound;
        again = field.again;
      }

  flags_round : (count : ℕ) → count ≤ 8 → {end : ℕ} (place : ℕ) {bytes : List ℕ} {items : List Item} {n : ℕ} → Stands pool end bytes
      → judge_form (flags_form count) bytes ≡ took items n → IsSlot pool deep place (kept_slot (flags_form count)) end bytes n
  unfolding judge_form listed_slot listed_form made_kept
  flags_round count few place {bytes} {items} {n} stands h =
      let one = map_took (judge_flags count) (map flag_item) bytes items n h in
      let flags = one.0 in
      let law : IsLawful (judge_flags count) (λ level. SpellsFlags level count) flags_bytes = flags_lawful count in
      let read = law.exact.spelled bytes flags n (stands_fit fits stands) one.1 in
      let number : length flags ≡ count = ap length read.0.flags_are ∙ flags_length count 0 read.0.byte in
      let spelled : SpellsFlags plain count (flags_bytes flags) flags =
      law.tidy_is_plain (flags_bytes flags) flags (law.strict_is_tidy (flags_bytes flags) flags (law.canonical_is_strict (take n bytes) flags read.0)) in
      let less : nat_le count 8 ≡ true = grind (arith, nat_tests) in
      let nodes = listed_bits place flags in
      record {
        nodes = nodes;
        is = rw one.1;
        made = flags_bytes flags;
        makes = record {
          is = λ e more. rw less (ap (λ k. flags_made (flags_in e place k (nodes ++ more))) (sym number) ∙ ap flags_made (flags_found e place flags more));
          passed = λ more. ap (λ k. drop k (nodes ++ more)) (sym number) ∙ bits_passed place flags more;
        };
        made_size = omega (arith, ap length read.0.bytes_are, length-take-le n bytes read.1);
        bound = read.1;
        again = λ other rest e standing.
            record { nodes = nodes; is = rw (law.exact.taken (flags_bytes flags) rest flags spelled); same = same_bits place flags };
      }

  reserved_round : (form : Form) (constant : List Item) → is_least form constant ≡ true → {end : ℕ} (place : ℕ) {bytes : List ℕ} {items : List Item} {n : ℕ}
      → Stands pool end bytes → judge_form form bytes ≡ took items n → IsSlot pool deep place (reserved_slot form constant) end bytes n
  unfolding listed_slot
  reserved_round form constant least place {bytes} {items} {n} stands h =
      let law = forms_lawful form in
      let read = law.exact.spelled bytes items n (stands_fit fits stands) h in
      let made = form_bytes form constant in
      let spelled : SpellsForm plain form made constant = form_is_plain strict form made constant (constant_strict form constant least) in
      let shortest =
      (reserved_lawful form constant least).shortest (take n bytes) [] (record { dropped = items; spelled = read.0; none = refl; unused = tt }) in
      record {
        nodes = [];
        is = rw h;
        made = made;
        makes = record { is = λ e more. refl; passed = λ more. refl };
        made_size = omega (arith, length-take-le n bytes read.1);
        bound = read.1;
        again = λ other rest e standing. record { nodes = []; is = rw (law.exact.taken made rest constant spelled); same = none_same };
      }

  -- a field, where flags are at most eight and the constant of a reserved one is least
  slot_round : (slot : Slot) (slots : List Slot) → spare (slot ∷ slots) ≤ 4 → are_least (slot ∷ slots) ≡ true → {end : ℕ} (place : ℕ) {bytes : List ℕ}
      {items : List Item} {n : ℕ} → Stands pool end bytes → judge_slot slot bytes ≡ took items n → IsSlot pool deep place slot end bytes n
  unfolding judge_dropped
  slot_round (kept_slot (flags_form count)) slots few least place stands h = flags_round count (omega arith) place stands h
  slot_round (kept_slot form) slots few least place stands h = one_round form tt place stands h
  slot_round (reserved_slot form constant) slots few least place stands h =
      reserved_round form constant (both_true (is_least form constant) (are_least slots) least).0 place stands (map_took (judge_form form) (λ xs. []) _ _ _ h).1

  -- ---- fields one after another

  -- fields that were read, with their reserved ones
  pub slots_round : (slots : List Slot) → spare slots ≤ 4 → are_least slots ≡ true → {end : ℕ} (place : ℕ) {bytes : List ℕ} {items : List Item} {n : ℕ}
      → Stands pool end bytes → judge_slots slots bytes ≡ took items n → AreSlots pool deep place slots end bytes n
  unfolding judge_slots listed_slots made_slots
  slots_round [] few least place {items = items} {n = n} stands h = none_made (count_took [] items 0 n h) (λ e. refl) (λ e bs. refl)
  slots_round (slot ∷ slots) few least {end} place {bytes} {items} {n} stands h =
      let two = both_took (judge_slot slot) (judge_slots slots) (λ xs ys. xs ++ ys) bytes items n h in
      let next = next_place place (kept_count slot) in
      let first = slot_round slot slots few least place stands two.4 in
      let rest =
      slots_round slots (omega arith) (least_left slot slots least) next (stands_drop pool bytes end two.1 stands first.bound) two.5 in
      let both : AreSlots pool deep place (slot ∷ slots) end bytes (two.1 + two.3) =
      both_made (λ ns ms x y field more e. rw (field.is e ms, field.passed ms, more e)) first rest in
      rw two.7 at both
