-- Whether a key comes after another one, by the numbers of their first bytes where these differ.
use Rattle.std.proofs.Common.{◌≡◌, ◌<◌, inl, inr, ℕ, List, [], drop, nat_lt, refl, sym, ap, ◌∙◌, arith}
use Rattle.std.proofs.lemmas.Bool.{cases_lt}
use Rattle.std.proofs.lemmas.Bool.Decides.{nat_tests}
use Rattle.std.proofs.lemmas.Cmp.{nat_list_cmp_total}
use Rattle.std.specs.Ordering.{ordering_reverse}
use Rattle.std.specs.Prelude.{IsTrue, ◌↔◌}
use Rattle.std.specs.declared.cmp.Ordering.TheVariants.{Less, Greater}
use Rattle.amqp_types.specs.Judging.{IsBytes}
use Rattle.amqp_canonical.specs.Judgements.{IsBelow}
use Rattle.amqp_canonical.specs.Leads.{leading}
use Rattle.amqp_canonical.proofs.Leading.{leading-tells, next-tells}

-- no two keys each come before the other
not_both : (a b : List ℕ) → IsBelow a b → IsBelow b a → ⊥
not_both a b one two = let e : Less ≡ Greater = sym one ∙ nat_list_cmp_total.antisymm a b ∙ ap ordering_reverse two in absurd cc

-- numbers that differ decide, where the key of the lower one comes before
numbers_decide : (a b : List ℕ) (x y : ℕ) → (x ≡ y → ⊥) → (x < y → IsBelow a b) → (y < x → IsBelow b a) → IsTrue (nat_lt x y) ↔ IsBelow a b
numbers_decide a b x y differ up down = (
  λ t. up (grind (arith, nat_tests)),
  λ below. elim (cases_lt x y) [
    | inl less ↦ grind (arith, nat_tests)
    | inr other ↦ absurd (not_both a b below (down (omega (arith, other, differ))))
  ],
)

-- Keys whose first eight bytes differ as numbers stand in ascending order exactly where these numbers do.
pub lead_decides : (a b : List ℕ) (x y : ℕ) → IsBytes a → IsBytes b → x ≡ leading 8 a → y ≡ leading 8 b → (x ≡ y → ⊥) → IsTrue (nat_lt x y) ↔ IsBelow a b
lead_decides a b x y fa fb first second differ =
    numbers_decide a b x y differ (λ less. leading-tells 8 a b fa fb (omega (arith, first, second, less)))
    (λ more. leading-tells 8 b a fb fa (omega (arith, first, second, more)))

-- Keys with the same first eight bytes and different next two stand in ascending order exactly where the numbers of these two do.
pub next_decide : (a b : List ℕ) (x y : ℕ) → IsBytes a → IsBytes b → leading 8 a ≡ leading 8 b
    → x ≡ leading 2 (drop 8 a) → y ≡ leading 2 (drop 8 b) → (x ≡ y → ⊥) → IsTrue (nat_lt x y) ↔ IsBelow a b
next_decide a b x y fa fb same first second differ =
    numbers_decide a b x y differ (λ less. next-tells a b fa fb same (omega (arith, first, second, less)))
    (λ more. next-tells b a fb fa (sym same) (omega (arith, first, second, more)))

-- the first bytes of an empty key
pub none_leads : 0 ≡ leading 8 []
unfolding leading
none_leads = refl
