-- The properties that a mask has, from its highest bit on.
use Rattle.std.proofs.Common.{◌≡◌, ℕ, zero, suc, ◌+◌, ◌-◌, ◌*◌, ◌^◌, ◌<◌, ◌≤◌, eqb, Bool, true, false, List, [], ◌∷◌, ◌++◌, length, get_or, drop, map, refl}
use Rattle.std.proofs.Common.{sym, ap, subst, ◌∙◌, arith}
use Rattle.std.proofs.lemmas.Nat.Bits.{bit_at_above, bit_at_cat_high, bit_at_cat_low}
use Rattle.amqp_fields.proofs.Names.{get_or-map, Form, form_of, property_of, Judged, took, past, fault, ◌>>=◌, flag_at, Property, properties, later_properties}
use Rattle.amqp_fields.proofs.Names.{Node, Step, listed_form, listed_option, listed_set, next_place, Counts, Lists}
use Rattle.amqp_fields.proofs.Counted.{shapes_few}
use Rattle.amqp_fields.proofs.PayloadsFound.{fourteen}
use Rattle.amqp_fields.proofs.Pushing.{grows_none}
use Rattle.amqp_fields.proofs.SlotSteps.{first}
use Rattle.amqp_fields.proofs.Spans.{byte_below}

-- the highest bit of a mask, and the others
pub record HasTop (mask bit others : ℕ) : Type 0 where
  pub parts : mask ≡ 1 * 2 ^ bit + others
  pub below : others < 2 ^ bit

top_set : (mask bit others : ℕ) → HasTop mask bit others → flag_at mask bit ≡ true
top_set mask bit others h =
    ap (λ m. flag_at m bit) h.parts ∙ ap (λ n. eqb n 1) (bit_at_cat_high 1 bit others bit h.below (omega arith))
    ∙ ap (λ k. flag_at 1 k) {x = bit - bit} {y = 0} (omega arith)

above_top : (mask bit others k : ℕ) → HasTop mask bit others → bit < k → flag_at mask k ≡ false
above_top mask bit others k h up =
    ap (λ m. flag_at m k) h.parts ∙ ap (λ n. eqb n 1) (bit_at_cat_high 1 bit others k h.below (omega arith))
    ∙ ap (λ n. eqb n 1) (bit_at_above 1 1 (k - bit) (omega arith) (omega arith))

not_others : (mask bit others k : ℕ) → HasTop mask bit others → bit ≤ k → flag_at others k ≡ false
not_others mask bit others k h up = ap (λ n. eqb n 1) (bit_at_above others bit k h.below up)

same_below : (mask bit others k : ℕ) → HasTop mask bit others → k < bit → flag_at mask k ≡ flag_at others k
same_below mask bit others k h down = ap (λ m. flag_at m k) h.parts ∙ ap (λ n. eqb n 1) (bit_at_cat_low 1 bit others k down)

-- bits that fall by one from one property to the next, from below a bit
abbrev Falls : ℕ → List Property → Type 0
Falls top [] = Unit {0}
Falls top (p ∷ ps) = (p.bit + 1 ≡ top) × Falls p.bit ps

all_fall : Falls 16 properties
unfolding properties later_properties
all_fall = search

nothing_first : (j : Judged (List Node)) → (j >>= λ y. took ([] ++ y.0) (0 + y.1)) ≡ j
nothing_first (took added n) = ap (took added) {x = 0 + n} {y = n} (omega arith)
nothing_first past = refl
nothing_first (fault bad) = refl

-- a property that the mask does not have is passed
pass : (mask : ℕ) (deep : Bool) (end place : ℕ) (p : Property) (ps : List Property) (bytes : List ℕ) → place + 1 < 256 → flag_at mask p.bit ≡ false
    → listed_set mask deep end place (p ∷ ps) bytes ≡ listed_set mask deep end (place + 1) ps bytes
unfolding listed_set listed_option
pass mask deep end place p ps bytes room off =
    rw off
    (nothing_first (listed_set mask deep end (next_place place 1) ps bytes) ∙ ap (λ n. listed_set mask deep end n ps bytes) (byte_below (place + 1) room))

-- where the mask has none of them, nothing is listed
none_set : (mask : ℕ) (deep : Bool) (end place top : ℕ) (ps : List Property) (bytes : List ℕ) → Falls top ps → place + length ps < 256
    → ((b : ℕ) → top ≤ b + length ps → flag_at mask b ≡ false) → listed_set mask deep end place ps bytes ≡ took [] 0
unfolding listed_set
none_set mask deep end place top [] bytes falls room off = refl
none_set mask deep end place top (p ∷ ps) bytes falls room off =
    pass mask deep end place p ps bytes (omega arith) (off p.bit (omega arith))
    ∙ none_set mask deep end (place + 1) p.bit ps bytes falls.1 (omega arith) (λ b up. off b (omega arith))

module _ (mask bit others : ℕ) (h : HasTop mask bit others) (deep : Bool) (end : ℕ) where
  -- below the highest bit the others alone say which are set
  lower : (top place : ℕ) (ps : List Property) (bytes : List ℕ) → top ≤ bit → Falls top ps
      → listed_set others deep end place ps bytes ≡ listed_set mask deep end place ps bytes
  unfolding listed_set listed_option
  lower top place [] bytes down falls = refl
  lower top place (p ∷ ps) bytes down falls =
      let again : (xs : List ℕ) → listed_set others deep end (next_place place 1) ps xs ≡ listed_set mask deep end (next_place place 1) ps xs =
      λ xs. lower p.bit (next_place place 1) ps xs (omega arith) falls.1 in
      rw (← same_below mask bit others p.bit h (omega arith)) (simp again)

  -- the property of the highest bit is listed, and then those of the others
  top_first : (k place top : ℕ) (ps : List Property) (other : Property) (i rest : List ℕ) (old mid new : List Node) (count total : ℕ) (step : Step)
      → Falls top ps → top ≡ suc (bit + k) → k < length ps → place + length ps < 256
      → Lists (listed_form deep end (place + k) (get_or ps k other).form i) old count mid step → rest ≡ drop step.used i
      → Counts (listed_set others deep end place ps rest) mid step.count new total → Counts (listed_set mask deep end place ps i) old count new total
  unfolding listed_set listed_option
  top_first k place top [] other i rest old mid new count total step falls is some room one e all = absurd (omega arith)
  top_first zero place top (p ∷ ps) other i rest old mid new count total step falls is some room one e all =
      let at_top : p.bit ≡ bit = omega arith in
      let theirs =
      pass others deep end place p ps rest (omega arith) (not_others mask bit others p.bit h (omega arith))
      ∙ lower p.bit (place + 1) ps rest (omega arith) falls.1 in
      let here : place + 0 ≡ place = omega arith in
      rw (at_top, top_set mask bit others h)
      (first (listed_form deep end place p.form i) (listed_set mask deep end (next_place place 1) ps) i rest old mid new count total step (rw here at one) e
      (rw (theirs, ← byte_below (place + 1) (omega arith)) at all))
  top_first (suc k) place top (p ∷ ps) other i rest old mid new count total step falls is some room one e all =
      let mine = pass mask deep end place p ps i (omega arith) (above_top mask bit others p.bit h (omega arith)) in
      let theirs = pass others deep end place p ps rest (omega arith) (not_others mask bit others p.bit h (omega arith)) in
      let there : place + suc k ≡ place + 1 + k = omega arith in
      rw mine
      (top_first k (place + 1) p.bit ps other i rest old mid new count total step falls.1 (omega arith) (omega arith) (omega arith) (rw there at one) e
      (rw theirs at all))

-- ---- by their shapes

two_up : (mask bit : ℕ) → 4 ≤ mask → mask < 2 * 2 ^ bit → 2 ≤ bit
two_up mask zero some below = absurd (omega (arith, below))
two_up mask (suc zero) some below = absurd (omega (arith, below))
two_up mask (suc (suc bit)) some below = omega arith

-- a highest bit above bits 1 and 0 has the shape of a property
pub shape_there : (shapes : List (ℕ × Form)) (mask bit : ℕ) → map property_of shapes ≡ properties
    → 4 ≤ mask → mask < 2 * 2 ^ bit → bit < 16 → 15 - bit < length shapes
shape_there shapes mask bit h some below few = omega (arith, shapes_few shapes h, two_up mask bit some below)

-- the nodes of the property of the highest bit, and then of the other bits, are those of the mask
pub top_listed : (mask bit others : ℕ) (deep : Bool) (end : ℕ) (shapes : List (ℕ × Form))
    (other : ℕ × Form) (i rest : List ℕ) (old mid new : List Node) (count total : ℕ) (step : Step)
    → map property_of shapes ≡ properties → 4 ≤ mask → 2 ^ bit ≤ mask → mask < 2 * 2 ^ bit → bit < 16 → others ≡ mask - 2 ^ bit
    → Lists (listed_form deep end (15 - bit) (form_of (get_or shapes (15 - bit) other).1) i) old count mid step → rest ≡ drop step.used i
    → Counts (listed_set others deep end 0 properties rest) mid step.count new total → Counts (listed_set mask deep end 0 properties i) old count new total
top_listed mask bit others deep end shapes other i rest old mid new count total step are some low high few left one e all =
    let k = 15 - bit in
    let up = two_up mask bit some high in
    let top : HasTop mask bit others = record { parts = omega arith; below = omega arith } in
    let same : property_of (get_or shapes k other) ≡ get_or properties k (property_of other) =
    sym (get_or-map property_of shapes k other (property_of other) (omega (arith, shapes_few shapes are))) ∙ ap (λ ps. get_or ps k (property_of other)) are in
    let F : Property → Type 0 = λ q. Lists (listed_form deep end k q.form i) old count mid step in
    let here : k ≡ 0 + k = omega arith in
    top_first mask bit others top deep end k 0 16 properties (property_of other) i rest old mid new count total step all_fall (omega arith)
    (omega (arith, fourteen)) (omega (arith, fourteen))
    (subst (λ n. Lists (listed_form deep end n (get_or properties k (property_of other)).form i) old count mid step)
    here (subst F same one)) e all

-- no property has bit 1 or 0
pub none_listed : (mask : ℕ) (deep : Bool) (end : ℕ) (i : List ℕ) (old : List Node) (count : ℕ)
    → mask < 4 → Counts (listed_set mask deep end 0 properties i) old count old count
none_listed mask deep end i old count small =
    rw (none_set mask deep end 0 16 properties i all_fall (omega (arith, fourteen))
    (λ b far. ap (λ n. eqb n 1) (bit_at_above mask 2 b small (omega (arith, fourteen))))) (grows_none _)
