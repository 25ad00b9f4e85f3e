-- The canonical bytes of the items that programs hold are read back.
use Rattle.std.proofs.Common.{◌≡◌, ℕ, zero, suc, ◌||◌, Bool, true, false, List, [], ◌∷◌, length, take, drop, refl, sym, ap₂, subst, arith}
use Rattle.std.proofs.lemmas.List.{take-append-drop}
use Rattle.amqp_types.specs.Levels.{strict}
use Rattle.amqp_types.specs.Values.{Entry, entries_of, table_value, depth}
use Rattle.amqp_types.specs.Settling.{IsRising}
use Rattle.amqp_types.specs.ValueBytes.{table_bytes, is_deep_table, is_long_table}
use Rattle.amqp_types.specs.ValueSpelling.{SpellsValue, SpellsFieldTable}
use Rattle.amqp_types.specs.Slots.{Item, number_item, text_item, bytes_item, entries_item, Form, number_form, flags_form, short_string_form, long_string_form}
use Rattle.amqp_types.specs.Slots.{table_form, Slot, kept_slot, reserved_slot}
use Rattle.amqp_types.specs.SlotBytes.{item_count, form_bytes, slots_bytes, is_deep_item, is_long_item, any_deep, any_long, items_size}
use Rattle.amqp_types.specs.SlotSpelling.{SpellsForm, SpellsSlots}
use Rattle.amqp_types.specs.SlotLaws.{is_least, are_least, IsFormHeld, AreSlotsHeld, HeldSlotsAreReadBack}
use Rattle.amqp_laws.proofs.Conversions.{pairs-entries_of}
use Rattle.amqp_laws.proofs.Held.{value_held, table_held}
use Rattle.amqp_laws.proofs.Strictly.{fits_four}
use Rattle.amqp_laws.proofs.ValueLaws.{sized, low}
use Rattle.amqp_laws.proofs.SlotLaws.{both_true, either, constant_strict, flags_strict, slots_lawful}

-- an item alone
alone : (a : Bool) → (a || false) ≡ false → a ≡ false
alone a h = let e = either a false h in e.0

-- The canonical bytes of a form whose items are neither long nor too deep encode it strictly.
pub form_held : (form : Form) (items : List Item) → IsFormHeld form items → any_deep items ≡ false
    → any_long items ≡ false → SpellsForm strict form (form_bytes form items) items
unfolding form_bytes table_bytes is_deep_table is_long_table
form_held (number_form width) (number_item n ∷ []) h deep long = record { thing = n; spelled = record { fits = h; bytes_are = refl }; made = refl }
form_held (flags_form count) items h deep long = flags_strict count items h.0 h.1
form_held short_string_form (text_item text ∷ []) h deep long =
    record { thing = text; spelled = record { fits = h.0; utf8 = h.1; bytes_are = refl }; made = refl }
form_held long_string_form (bytes_item bytes ∷ []) h deep long =
    record { thing = bytes; spelled = record { fits = fits_four false (length bytes) (alone _ long); bytes_are = refl }; made = refl }
form_held table_form (entries_item es ∷ []) h deep long =
    let few = low (depth (table_value (entries_of es))) (alone _ deep) in
    let P : List Entry → Type 0 = λ fs. SpellsFieldTable strict (table_bytes es) fs in
    let R : List Entry → Type 0 = λ fs. IsRising fs in
    let spelled =
    subst P (pairs-entries_of es)
    (table_held 63 (SpellsValue strict 63) (value_held 63) (entries_of es) (subst R (sym (pairs-entries_of es)) h.0) h.1 (alone _ long) (omega (arith, few))) in
    record { thing = es; spelled = spelled; made = refl }
form_held form items h deep long = absurd h

-- what holds of none of the items holds of none of their parts
any_deep-take : (n : ℕ) (items : List Item) → any_deep items ≡ false → any_deep (take n items) ≡ false
any_deep-take zero items h = refl
any_deep-take (suc n) [] h = refl
any_deep-take (suc n) (x ∷ items) h = let b = either (is_deep_item x) (any_deep items) h in ap₂ (λ a c. a || c) b.0 (any_deep-take n items b.1)

any_long-take : (n : ℕ) (items : List Item) → any_long items ≡ false → any_long (take n items) ≡ false
any_long-take zero items h = refl
any_long-take (suc n) [] h = refl
any_long-take (suc n) (x ∷ items) h = let b = either (is_long_item x) (any_long items) h in ap₂ (λ a c. a || c) b.0 (any_long-take n items b.1)

any_deep-drop : (n : ℕ) (items : List Item) → any_deep items ≡ false → any_deep (drop n items) ≡ false
any_deep-drop zero items h = h
any_deep-drop (suc n) [] h = refl
any_deep-drop (suc n) (x ∷ items) h = let b = either (is_deep_item x) (any_deep items) h in any_deep-drop n items b.1

any_long-drop : (n : ℕ) (items : List Item) → any_long items ≡ false → any_long (drop n items) ≡ false
any_long-drop zero items h = h
any_long-drop (suc n) [] h = refl
any_long-drop (suc n) (x ∷ items) h = let b = either (is_long_item x) (any_long items) h in any_long-drop n items b.1

-- The canonical bytes of fields whose items are neither long nor too deep encode them strictly.
pub slots_held : (slots : List Slot) (items : List Item) → are_least slots ≡ true → AreSlotsHeld slots items
    → any_deep items ≡ false → any_long items ≡ false → SpellsSlots strict slots (slots_bytes slots items) items
unfolding slots_bytes
slots_held [] items least h deep long = (refl, h)
slots_held (kept_slot form ∷ slots) items least h deep long =
    let n = item_count form in
    record {
      front = form_bytes form (take n items);
      behind = slots_bytes slots (drop n items);
      one = take n items;
      two = drop n items;
      bytes_are = refl;
      first_is = form_held form (take n items) h.0 (any_deep-take n items deep) (any_long-take n items long);
      second_is = slots_held slots (drop n items) least h.1 (any_deep-drop n items deep) (any_long-drop n items long);
      joined = sym (take-append-drop n items);
    }
slots_held (reserved_slot form constant ∷ slots) items least h deep long =
    let b = both_true (is_least form constant) (are_least slots) least in
    record {
      front = form_bytes form constant;
      behind = slots_bytes slots items;
      one = [];
      two = items;
      bytes_are = refl;
      first_is = record { dropped = constant; spelled = constant_strict form constant b.0; none = refl; unused = refl };
      second_is = slots_held slots items b.1 h deep long;
      joined = refl;
    }

-- Canonical bytes of fields that are neither long nor too deep are read back, whatever follows.
pub slots_read_back : HeldSlotsAreReadBack
unfolding items_size
slots_read_back slots items rest least h size =
    let ok = sized (any_deep items) (any_long items) (slots_bytes slots items) size in
    let law = slots_lawful slots least in
    let bytes = slots_bytes slots items in
    law.exact.taken bytes rest items (law.tidy_is_plain bytes items (law.strict_is_tidy bytes items (slots_held slots items least h ok.0 ok.1)))
