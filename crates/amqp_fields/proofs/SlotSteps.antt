-- What fields and properties are listed as, one after another.
use Rattle.std.proofs.Common.{get_or-drop, length-drop, Bor, ◌≡◌, ℕ, zero, suc, ◌+◌, ◌-◌, ◌/◌, ◌<◌, ◌≤◌, eqb, Bool, List, [], ◌∷◌, ◌++◌, length, get_or, drop}
use Rattle.std.proofs.Common.{refl, ap, ap₂, ◌∙◌, arith}
use Rattle.std.specs.Int.{bit_at}
use Rattle.std.proofs.lemmas.Nat.Bits.{bit_at-suc}
use Rattle.amqp_fields.proofs.Names.{nat_tests, Judged, Judge, took, ◌>>=◌, bit_of, flag_at, flags_from, judge_flags, bytes2, bytes8, judge_number, properties}
use Rattle.amqp_fields.proofs.Names.{judge_map, judge_form, Form, Slot, form_of, slot_of, slots_of, IsRead, Node, Step, numbered, Grows, listing, kept_count}
use Rattle.amqp_fields.proofs.Names.{listed_bits, listed_form, listed_number, listed_properties, listed_set, listed_slot, listed_slots, next_place, placed}
use Rattle.amqp_fields.proofs.Names.{Counts, Lists}
use Rattle.amqp_types.specs.Slots.{flags_form, number_form}
use Rattle.amqp_types.specs.Tidiness.{used_by}
use Rattle.amqp_canonical.specs.declared.shapes.Form.TheVariants as forms
use Rattle.amqp_canonical.specs.declared.shapes.Slot.TheVariants as slots
use Rattle.amqp_fields.proofs.Pushing.{grows_more, grows_none}

-- ---- flags

-- where no flags are left, nothing more is put
pub no_bits : (place flags k byte count : ℕ) (old : List Node) → flags ≡ 0
    → Grows (listing old count) (listing old count) (listed_bits place (flags_from flags k byte))
no_bits place zero k byte count old h = grows_none _
no_bits place (suc flags) k byte count old h = absurd (omega arith)

-- from a bit on, and by the half from the bit before it on
shifted : (count k byte : ℕ) → flags_from count (k + 1) byte ≡ flags_from count k (byte / 2)
shifted zero k byte = refl
shifted (suc count) k byte =
    let bit : bit_at byte (k + 1) ≡ bit_at (byte / 2) k = ap (bit_at byte) {x = k + 1} {y = suc k} (omega arith) ∙ bit_at-suc byte k in
    ap₂ (λ (f : Bool) (fs : List Bool). f ∷ fs) (ap (λ n. eqb n 1) bit) (shifted count (k + 1) byte)

-- a node for the lowest bit, and then those for half the byte, are the nodes of all flags of the byte
pub bits_more : (place next flags byte half count more total : ℕ) (node : Node) (old mid new : List Node)
    → 0 < flags → node ≡ numbered (placed place (flags_form 1)) (bit_of (flag_at byte 0))
    → next ≡ next_place place 1 → half ≡ byte / 2 → Grows (listing old count) (listing mid more) (node ∷ [])
    → Grows (listing mid more) (listing new total) (listed_bits next (flags_from (flags - 1) 0 half))
    → Grows (listing old count) (listing new total) (listed_bits place (flags_from flags 0 byte))
bits_more place next zero byte half count more total node old mid new some is e by one h = absurd (omega arith)
bits_more place next (suc flags) byte half count more total node old mid new some is e by one h =
    let less : suc flags - 1 ≡ flags = omega arith in
    let others = rw (e, by, less, ← shifted flags 0 byte) at h in
    grows_more (listing old count) (listing mid more) (listing new total) (numbered (placed place (flags_form 1)) (bit_of (flag_at byte 0)) ∷ [])
    (listed_bits (next_place place 1) (flags_from flags (0 + 1) byte)) (rw is at one) others

-- ---- one field

dropped : {A : Type 0} (j : Judged A) (old : List Node) (count n : ℕ) → (IsRead j → n ≡ used_by j)
    → Lists (j >>= λ x. took [] x.1) old count old (record { used = n; count = count })
dropped (took x used) old count n h = (h tt, grows_none _)
dropped j old count n h = tt

-- ---- fields, one after another

second : (j : Judged (List Node)) (added : List Node) (used : ℕ) (old mid new : List Node) (count more total : ℕ)
    → Grows (listing old count) (listing mid more) added → Counts j mid more new total
    → Counts (j >>= λ y. took (added ++ y.0) (used + y.1)) old count new total
second (took others n) added used old mid new count more total one h = grows_more _ _ _ _ _ one h
second j added used old mid new count more total one h = tt

-- what is listed of the front, and then of the rest, is listed of both
pub first : (j : Judged (List Node)) (others : Judge (List Node)) (i rest : List ℕ) (old mid new : List Node) (count total : ℕ) (step : Step)
    → Lists j old count mid step → rest ≡ drop step.used i → Counts (others rest) mid step.count new total
    → Counts (j >>= λ x. others (drop x.1 i) >>= λ y. took (x.0 ++ y.0) (x.1 + y.1)) old count new total
first (took added n) others i rest old mid new count total step one e h =
    second (others (drop n i)) added n old mid new count step.count total one.1 (rw (e, one.0) at h)
first j others i rest old mid new count total step one e h = tt

-- where no fields are left, nothing more is put
pub no_slots : (deep : Bool) (end place : ℕ) (shapes : List Slot) (i : List ℕ) (old : List Node) (count : ℕ)
    → length shapes < 1 → Counts (listed_slots deep end place (slots_of shapes) i) old count old count
unfolding listed_slots
no_slots deep end place [] i old count h = grows_none _
no_slots deep end place (shape ∷ shapes) i old count h = absurd (omega arith)

-- the first field is listed, and then those after it
pub slots_listed : (deep : Bool) (end place next : ℕ) (shapes : List Slot) (other slot : Slot) (i rest : List ℕ) (old mid new : List Node) (count total : ℕ)
    (step : Step) → 1 ≤ length shapes → get_or shapes 0 other ≡ slot → Lists (listed_slot deep end place (slot_of slot) i) old count mid step
    → next ≡ next_place place (kept_count (slot_of slot)) → rest ≡ drop step.used i
    → Counts (listed_slots deep end next (slots_of (drop 1 shapes)) rest) mid step.count new total
    → Counts (listed_slots deep end place (slots_of shapes) i) old count new total
unfolding listed_slots
slots_listed deep end place next [] other slot i rest old mid new count total step some is one e behind h = absurd (omega arith)
slots_listed deep end place next (shape ∷ shapes) other slot i rest old mid new count total step some is one e behind h =
    rw is
    (first (listed_slot deep end place (slot_of slot) i) (listed_slots deep end (next_place place (kept_count (slot_of slot))) (slots_of shapes))
    i rest old mid new count total step one behind (rw e at h))

-- where the first field is reserved, the nodes are those of the fields after it
pub reserved_first : (deep : Bool) (end place : ℕ) (shapes : List Slot) (other : Slot) (form : Form)
    (constant : Bor (List ℕ)) (i rest : List ℕ) (old new : List Node) (count total n : ℕ)
    → 1 ≤ length shapes → get_or shapes 0 other ≡ slots.Reserved form constant → place < 256
    → (IsRead (judge_form (form_of form) i) → n ≡ used_by (judge_form (form_of form) i))
    → rest ≡ drop n i → Counts (listed_slots deep end place (slots_of (drop 1 shapes)) rest) old count new total
    → Counts (listed_slots deep end place (slots_of shapes) i) old count new total
unfolding listed_slot
reserved_first deep end place shapes other form constant i rest old new count total n some is small size e h =
    slots_listed deep end place place shapes other (slots.Reserved form constant) i rest old old new count total (record { used = n; count = count })
    some is (dropped (judge_form (form_of form) i) old count n size) (grind (arith, nat_tests)) e h

-- a number of 8 bytes and flags after it, as in an acknowledgement
pub number_and_flags : (deep : Bool) (end place next flags count : ℕ) (shapes : List Slot)
    (other : Slot) (label : Node) (i rest : List ℕ) (old mid new : List Node) (number step : Step)
    → 2 ≤ length shapes → length shapes < 3 → get_or shapes 0 other ≡ slots.Kept forms.LongLong → get_or shapes 1 other ≡ slots.Kept (forms.Flags flags)
    → label ≡ placed place (number_form bytes8) → Lists (listed_number bytes8 label i) old count mid number → next ≡ next_place place 1
    → rest ≡ drop number.used i → Lists (judge_map (listed_bits next) (judge_flags flags) rest) mid number.count new step
    → Counts (listed_slots deep end place (slots_of shapes) i) old count new step.count
unfolding listed_form listed_slot
number_and_flags deep end place next flags count shapes other label i rest old mid new number step some few one two is listed after e last =
    let none =
    no_slots deep end (next_place next flags) (drop 1 (drop 1 shapes)) (drop step.used rest) new step.count
    (omega (arith, length-drop 1 shapes, length-drop 1 (drop 1 shapes))) in
    let second_slot : get_or (drop 1 shapes) 0 other ≡ slots.Kept (forms.Flags flags) = get_or-drop 1 shapes 0 other ∙ two in
    let others =
    slots_listed deep end next (next_place next flags) (drop 1 shapes) other (slots.Kept (forms.Flags flags)) rest
    (drop step.used rest) mid new new number.count step.count step (omega (arith, length-drop 1 shapes)) second_slot last refl refl none in
    slots_listed deep end place next shapes other (slots.Kept forms.LongLong) i rest old mid new count step.count number
    (omega arith) one (rw is at listed) after e others

-- ---- properties

counted : (j : Judged (List Node)) (old new : List Node) (n count total : ℕ)
    → Counts j old count new total → Counts (j >>= λ y. took y.0 (n + y.1)) old count new total
counted (took added k) old new n count total h = h
counted j old new n count total h = tt

-- the nodes that are listed of the bytes behind a mask are those of the properties
pub properties_listed : (deep : Bool) (end : ℕ) (bytes rest : List ℕ) (old new : List Node) (mask count total : ℕ)
    → judge_number bytes2 bytes ≡ took mask 2 → rest ≡ drop 2 bytes
    → Counts (listed_set mask deep end 0 properties rest) old count new total → Counts (listed_properties deep end bytes) old count new total
unfolding listed_properties
properties_listed deep end bytes rest old new mask count total e is h =
    rw e (counted (listed_set mask deep end 0 properties (drop 2 bytes)) old new 2 count total (rw is at h))
