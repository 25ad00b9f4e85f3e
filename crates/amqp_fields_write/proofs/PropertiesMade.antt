-- Fields and properties of messages, one after another.
use Rattle.amqp_fields_write.proofs
use Rattle.amqp_fields_write.specs
use proofs.Names.{◌≡◌, ℕ, zero, suc, ◌+◌, ◌-◌, ◌<◌, ◌≤◌, ◌^◌, Bool, true, false, List, [], ◌∷◌, length, map, get_or, drop, Option, Some, None, Ok, refl, sym}
use proofs.Names.{ap, ap₂, ◌∙◌, arith, if◌then◌else◌, numbers, at_drop_all, at_drop_more, drop-map, drop_more, length-drop, mask_of, worth_of, Slot}
use proofs.Names.{property_of, slot_of, slots_of, Node, kept_count, next_place, flags_in, group_size, is_next, made_field, made_none, made_set, made_slot}
use proofs.Names.{made_slots, node_count, set_at, worths, IsFlagsByte}
use Rattle.amqp_types.specs.Properties.{Property, later_properties, properties}
use Rattle.amqp_types.specs.Slots.{Item, number_item, table_form}
use Rattle.amqp_canonical.specs.declared.shapes.Form.{Form}
use specs.Made.{Made, after, misfit}
use specs.Quick.{IsFirst, NoneFirst}
use proofs.FieldsMade.{flags_none, worths_few}
use Rattle.amqp_fields.proofs.PayloadsFound.{fourteen}

-- ---- what is left

-- where no nodes are left, nothing more is made
pub none_made : (end : ℕ) (nodes : List Node) → length nodes ≡ 0 → made_none end nodes ≡ Ok []
none_made end [] none = refl
none_made end (node ∷ nodes) none = absurd (omega (arith, none))

-- else the first of them is refused
pub some_refused : (end : ℕ) (nodes : List Node) → 0 < length nodes → made_none end nodes ≡ misfit (end - length nodes)
some_refused end [] some = absurd (omega (arith, some))
some_refused end (node ∷ nodes) some = refl

-- ---- fields of methods

module _ (pool : List ℕ) (end place : ℕ) (shapes : List Slot) (k : ℕ) (nodes : List Node) where
  -- the field of a shape, and those after it
  pub slots_next : (other : Slot) {next : ℕ} {rest : List Node} → k < length shapes → next ≡ next_place place (kept_count (slot_of (get_or shapes k other)))
      → rest ≡ drop (node_count (slot_of (get_or shapes k other)) nodes) nodes
      → made_slots pool end place (slots_of (drop k shapes)) nodes
      ≡ after (made_slot pool end place (slot_of (get_or shapes k other)) nodes) (made_slots pool end next (slots_of (drop (k + 1) shapes)) rest)
  unfolding made_slots
  slots_next other few at there =
      at_drop_more (λ (ss : List Slot). made_slots pool end place (slots_of ss) nodes) shapes k other few ∙ rw (at, there)

  pub no_slots : length shapes ≤ k → made_slots pool end place (slots_of (drop k shapes)) nodes ≡ made_none end nodes
  unfolding made_slots
  no_slots gone = at_drop_all (λ (ss : List Slot). made_slots pool end place (slots_of ss) nodes) shapes k gone

-- no flags are a byte of zero
pub no_flags : (end place count : ℕ) (nodes : List Node) → count ≡ 0 → IsFlagsByte (flags_in end place count nodes) count 0
no_flags end place count nodes none = record { flags = []; is = flags_none end place 0 count nodes none; byte_is = refl; fits = grind (arith, none) }

-- ---- properties

-- the properties from a place on, and what the bits of those are worth that are set
abbrev pub set_from : List ℕ → ℕ → ℕ → List Node → Made
set_from pool end place nodes = made_set pool end place (drop place properties) nodes

abbrev pub bits_from : ℕ → List Node → ℕ
bits_from place nodes = mask_of (drop place properties) (set_at place (drop place properties) nodes)

-- the place after one that is no last one
next_is : (k : ℕ) → k < 254 → next_place k 1 ≡ k + 1
next_is k few = grind (numbers, few)

-- a property stands at a place of the list
below : {k : ℕ} {p : Property} {later : List Property} → drop k properties ≡ p ∷ later → k < 14
below {k} {p} {later} is = let size : length (drop k properties) ≡ suc (length later) = ap length is in omega (arith, size, length-drop k properties, fourteen)

-- the shape at a place is that of the property there
pub property_found : (shapes : List (ℕ × Form)) (other : ℕ × Form) (k : ℕ) → map property_of shapes ≡ properties → k < length shapes
    → drop k properties ≡ property_of (get_or shapes k other) ∷ drop (k + 1) properties
property_found shapes other k all few =
    ap (drop k) (sym all) ∙ drop-map property_of k shapes ∙ ap (map property_of) (drop_more shapes k other few)
    ∙ ap (λ (ps : List Property). property_of (get_or shapes k other) ∷ ps) (sym (drop-map property_of (k + 1) shapes) ∙ ap (drop (k + 1)) all)

-- the first of some nodes is at its own place, and at no other one
pub is_at : (nodes : List Node) (blank : Node) → 1 ≤ length nodes → is_next (get_or nodes 0 blank).place nodes ≡ true
is_at [] blank some = absurd (omega (arith, some))
is_at (node ∷ nodes) blank some = grind numbers

pub not_at : (nodes : List Node) (blank : Node) (at : ℕ) → (0 < length nodes → (get_or nodes 0 blank).place ≡ at → ⊥) → is_next at nodes ≡ false
not_at [] blank at other = refl
not_at (node ∷ nodes) blank at other = let differs : node.place ≡ at → ⊥ = other (omega arith) in grind (numbers, differs)

-- what is made, and the bits, from one place on are those from another one on
record Passes (pool : List ℕ) (end place to : ℕ) (nodes : List Node) : Type 0 where
  set : set_from pool end place nodes ≡ set_from pool end to nodes
  bits : bits_from place nodes ≡ bits_from to nodes

module _ (pool : List ℕ) (end place : ℕ) (nodes : List Node) {p : Property} (there : drop place properties ≡ p ∷ drop (place + 1) properties) where
  abbrev by_set : Bool → ℕ → Made
  by_set test k =
      if test then after (made_field pool end place p.form nodes) (made_set pool end k (drop (place + 1) properties) (drop (group_size nodes) nodes))
      else made_set pool end k (drop (place + 1) properties) nodes

  abbrev by_bits : Bool → ℕ → ℕ
  by_bits test k =
      mask_of (p ∷ drop (place + 1) properties) (if test then Some (number_item 0) ∷ set_at k (drop (place + 1) properties) (drop (group_size nodes) nodes)
      else None ∷ set_at k (drop (place + 1) properties) nodes)

  next_one : next_place place 1 ≡ place + 1
  next_one = next_is place (omega (arith, below there))

  -- the property at a place, by whether the first node is at it
  set_by : {test : Bool} → is_next place nodes ≡ test → set_from pool end place nodes ≡ by_set test (place + 1)
  unfolding made_set
  set_by is = ap (λ ps. made_set pool end place ps nodes) there ∙ ap₂ by_set is next_one

  bits_by : {test : Bool} → is_next place nodes ≡ test → bits_from place nodes ≡ by_bits test (place + 1)
  unfolding set_at mask_of
  bits_by is = ap (λ ps. mask_of ps (set_at place ps nodes)) there ∙ ap₂ by_bits is next_one

module _ (pool : List ℕ) (end : ℕ) (nodes : List Node) where
  passes : (j place to : ℕ) → to ≡ place + j → to ≤ 14 → ((i : ℕ) → place ≤ i → i < to → is_next i nodes ≡ false) → Passes pool end place to nodes
  unfolding mask_of worth_of
  passes zero place to at few none = let same : place ≡ to = omega (arith, at) in rw same (record { set = refl; bits = refl })
  passes (suc j) place to at few none =
      let there = drop_more properties place (record { bit = 0; form = table_form }) (omega (arith, at, few, fourteen)) in
      let here = none place (omega arith) (omega (arith, at)) in
      let more = passes j (place + 1) to (omega (arith, at)) few (λ i from. none i (omega (arith, from))) in
      record { set = set_by pool end place nodes there here ∙ more.set; bits = omega (arith, bits_by pool end place nodes there here, more.bits) }

  only : {at i : ℕ} (nodes : List Node) → is_next at nodes ≡ true → i < at → is_next i nodes ≡ false
  only [] is less = absurd cc
  only (node ∷ nodes) is less = grind numbers

  module _ {place at next : ℕ} {p : Property} {rest : List Node} (h : IsFirst place nodes at p) (next_at : next ≡ next_place at 1)
      (rest_is : rest ≡ drop (group_size nodes) nodes) where
    before : Passes pool end place at nodes
    before = passes (at - place) place at (omega (arith, h.from)) (omega (arith, below h.stands)) (λ i from. only nodes h.is)

    one : at + 1 ≡ next
    one = sym (next_at ∙ next_is at (omega (arith, below h.stands)))

    -- the property of the first node is made, and those after it
    pub set_next : set_from pool end place nodes ≡ after (made_field pool end at p.form nodes) (set_from pool end next rest)
    set_next =
        before.set ∙ set_by pool end at nodes h.stands h.is ∙ rw (one, rest_is)

    -- its bit is added
    pub bits_next : bits_from place nodes ≡ 2 ^ p.bit + bits_from next rest
    unfolding mask_of worth_of
    bits_next = before.bits ∙ bits_by pool end at nodes h.stands h.is ∙ rw (one, rest_is)

    -- the places have not come to their end
    pub next_few : next ≤ 14
    next_few = omega (arith, one, below h.stands)

    -- and there are fewer nodes
    pub rest_falls : length rest < length nodes
    rest_falls = omega (arith, ap length rest_is, length-drop (group_size nodes) nodes, some nodes h.is)
      where
        some : (nodes : List Node) → is_next at nodes ≡ true → (0 < length nodes) × (0 < group_size nodes)
        some [] is = absurd cc
        some (node ∷ nodes) is = (omega arith, omega arith)

  module _ {place : ℕ} (few : place ≤ 14) (none : NoneFirst place nodes) where
    left : Passes pool end place 14 nodes
    left = passes (14 - place) place 14 (omega (arith, few)) (omega arith) none

    -- where the first node is no property, none is left
    pub no_set : set_from pool end place nodes ≡ made_none end nodes
    unfolding made_set properties later_properties
    no_set = left.set

    pub no_bits : bits_from place nodes ≡ 0
    unfolding mask_of set_at properties later_properties
    no_bits = left.bits

mask_most : (ps : List Property) (options : List (Option Item)) → mask_of ps options ≤ worths ps
unfolding mask_of worth_of
mask_most [] options = omega arith
mask_most (p ∷ ps) [] = omega arith
mask_most (p ∷ ps) (None ∷ options) = omega (arith, mask_most ps options)
mask_most (p ∷ ps) (Some item ∷ options) = omega (arith, mask_most ps options)

-- with the bit of one property more the mask fits two bytes
pub bits_fit : (mask : ℕ) (nodes all : List Node) {place at : ℕ} {p : Property} → mask + bits_from place nodes ≡ bits_from 0 all → IsFirst place nodes at p
    → mask + 2 ^ p.bit < 2 ^ 16
bits_fit mask nodes all is first =
    omega (arith, is, bits_next [] 0 nodes first refl refl, mask_most properties (set_at 0 properties all), worths_few)
