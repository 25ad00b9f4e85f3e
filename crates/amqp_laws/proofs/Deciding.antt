-- Tests joined: what two of them decide, what one decides said in another way, and what it says of each that neither, or both, hold.
use Rattle.std.proofs.Common.{◌≡◌, ◌↔◌, Bool, true, false, ◌&&◌, ◌||◌, true≢false, refl, rules}
use Rattle.std.specs.Bool.{Decides}

-- The conjunction of two tests decides that both of their facts hold.
pub both : (p q : Bool) {P Q : Type 0} → Decides p P → Decides q Q → Decides (p && q) (P × Q)
both p q d e = search rules

-- A test decides each fact that is equivalent to the one that it decides.
pub decides_same : (p : Bool) {P Q : Type 0} → Decides p P → (P ↔ Q) → Decides p Q
decides_same p d e = (λ h. e.0 (d.0 h), λ q. d.1 (e.1 q))

-- Where a disjunction does not hold, its first part does not.
pub or_left : (a b : Bool) → (a || b) ≡ false → a ≡ false
or_left true b h = h
or_left false b h = refl

-- Where a disjunction does not hold, its second part does not.
pub or_right : (a b : Bool) → (a || b) ≡ false → b ≡ false
or_right true b h = absurd (true≢false h)
or_right false b h = h
