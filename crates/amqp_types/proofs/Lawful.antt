-- What is made of a lawful form, and two lawful forms one after the other, are lawful.
use Rattle.std.proofs.Common.{◌≡◌, ℕ, ◌+◌, ◌≤◌, List, ◌++◌, length, refl, sym, ap, ap₂, subst, ◌∙◌, arith}
use Rattle.std.proofs.lemmas.List.{length-append}
use Rattle.amqp_types.specs.Levels.{Level, plain, tidy, strict}
use Rattle.amqp_types.specs.Judging.{Judge, took, IsExact}
use Rattle.amqp_types.specs.Sequences.{judge_map, judge_both, SpellsMapped, SpellsBoth}
use Rattle.amqp_types.specs.FormLaws.{IsLawful}
use Rattle.amqp_types.proofs.FormLaws.{is_plain, one_at_each}
use Rattle.amqp_types.proofs.Sequences.{map_spelled, map_taken, both_exact}

map_exact : {A B : Type 0} (make : A → B) (judge : Judge A) (Spells : List ℕ → A → Type 0)
    → IsExact judge Spells → IsExact (judge_map make judge) (SpellsMapped Spells make)
map_exact make judge Spells exact = record {
  spelled = map_spelled make judge Spells (SpellsMapped Spells make) exact (λ bytes x h. record { thing = x; spelled = h; made = refl });
  taken = λ bytes rest y h. map_taken make judge Spells exact bytes rest h.thing h.spelled ∙ ap (λ z. took z (length bytes)) (sym h.made);
}

module _ {A B : Type 0} (make : A → B) (judge : Judge A) (Spells : Level → List ℕ → A → Type 0) (short : A → List ℕ)
    (canonical : B → List ℕ) (law : IsLawful judge Spells short) (same : (x : A) → canonical (make x) ≡ short x) where
  abbrev Mapped : Level → List ℕ → B → Type 0
  Mapped level = SpellsMapped (Spells level) make

  mapped_exact : IsExact (judge_map make judge) (Mapped plain)
  mapped_exact = map_exact make judge (Spells plain) law.exact

  mapped_strict_is_tidy : (bytes : List ℕ) (y : B) → Mapped strict bytes y → Mapped tidy bytes y
  mapped_strict_is_tidy bytes y h = record { thing = h.thing; spelled = law.strict_is_tidy bytes h.thing h.spelled; made = h.made }

  mapped_tidy_is_plain : (bytes : List ℕ) (y : B) → Mapped tidy bytes y → Mapped plain bytes y
  mapped_tidy_is_plain bytes y h = record { thing = h.thing; spelled = law.tidy_is_plain bytes h.thing h.spelled; made = h.made }

  bytes_of : (y : B) (x : A) → y ≡ make x → canonical y ≡ short x
  bytes_of y x made = ap canonical made ∙ same x

  -- What is made of a value whose form is lawful has a lawful form, encoded as that value.
  pub mapped_lawful : IsLawful (judge_map make judge) Mapped canonical
  mapped_lawful = record {
    exact = mapped_exact;
    strict_is_tidy = mapped_strict_is_tidy;
    tidy_is_plain = mapped_tidy_is_plain;
    one_meaning = one_at_each (judge_map make judge) Mapped mapped_exact (is_plain Mapped mapped_strict_is_tidy mapped_tidy_is_plain);
    strict_is_canonical = λ bytes y h. law.strict_is_canonical bytes h.thing h.spelled ∙ sym (bytes_of y h.thing h.made);
    canonical_is_strict = λ bytes y h.
        let P : List ℕ → Type 0 = λ bs. Spells strict bs h.thing in
        record { thing = h.thing; spelled = subst P (sym (bytes_of y h.thing h.made)) (law.canonical_is_strict bytes h.thing h.spelled); made = h.made };
    shortest = λ bytes y h. omega (arith, law.shortest bytes h.thing h.spelled, ap length (bytes_of y h.thing h.made));
  }

module _ {A B C : Type 0} (first : Judge A) (second : Judge B) (join : A → B → C) (First : Level → List ℕ → A → Type 0)
    (Second : Level → List ℕ → B → Type 0) (short : A → List ℕ) (long : B → List ℕ) (canonical : C → List ℕ)
    (first_law : IsLawful first First short) (second_law : IsLawful second Second long)
    (same : (bytes : List ℕ) (x : A) (y : B) → First plain bytes x → canonical (join x y) ≡ short x ++ long y) where
  abbrev Both : Level → List ℕ → C → Type 0
  Both level = SpellsBoth (First level) (Second level) join

  lawful_exact : IsExact (judge_both first second join) (Both plain)
  lawful_exact = both_exact first second join (First plain) (Second plain) first_law.exact second_law.exact

  both_strict_is_tidy : (bytes : List ℕ) (z : C) → Both strict bytes z → Both tidy bytes z
  both_strict_is_tidy bytes z h = record {
    front = h.front;
    behind = h.behind;
    one = h.one;
    two = h.two;
    bytes_are = h.bytes_are;
    first_is = first_law.strict_is_tidy h.front h.one h.first_is;
    second_is = second_law.strict_is_tidy h.behind h.two h.second_is;
    joined = h.joined;
  }

  both_tidy_is_plain : (bytes : List ℕ) (z : C) → Both tidy bytes z → Both plain bytes z
  both_tidy_is_plain bytes z h = record {
    front = h.front;
    behind = h.behind;
    one = h.one;
    two = h.two;
    bytes_are = h.bytes_are;
    first_is = first_law.tidy_is_plain h.front h.one h.first_is;
    second_is = second_law.tidy_is_plain h.behind h.two h.second_is;
    joined = h.joined;
  }

  both_only : (bytes : List ℕ) (z : C) → Both strict bytes z → bytes ≡ canonical z
  both_only bytes z h =
      let first_plain = first_law.tidy_is_plain h.front h.one (first_law.strict_is_tidy h.front h.one h.first_is) in
      h.bytes_are ∙ ap₂ (λ a b. a ++ b) (first_law.strict_is_canonical h.front h.one h.first_is) (second_law.strict_is_canonical h.behind h.two h.second_is)
      ∙ sym (ap canonical h.joined ∙ same h.front h.one h.two first_plain)

  both_again : (bytes : List ℕ) (z : C) → Both plain bytes z → Both strict (canonical z) z
  both_again bytes z h = record {
    front = short h.one;
    behind = long h.two;
    one = h.one;
    two = h.two;
    bytes_are = ap canonical h.joined ∙ same h.front h.one h.two h.first_is;
    first_is = first_law.canonical_is_strict h.front h.one h.first_is;
    second_is = second_law.canonical_is_strict h.behind h.two h.second_is;
    joined = h.joined;
  }

  both_shortest : (bytes : List ℕ) (z : C) → Both plain bytes z → length (canonical z) ≤ length bytes
  both_shortest bytes z h =
      let whole : length (canonical z) ≡ length (short h.one) + length (long h.two) =
      ap length (ap canonical h.joined ∙ same h.front h.one h.two h.first_is) ∙ length-append (short h.one) (long h.two) in
      omega (
        arith,
        whole,
        ap length h.bytes_are,
        length-append h.front h.behind,
        first_law.shortest h.front h.one h.first_is,
        second_law.shortest h.behind h.two h.second_is,
      )

  -- Two lawful forms one after the other, whose values are joined, are lawful.
  pub both_lawful : IsLawful (judge_both first second join) Both canonical
  both_lawful = record {
    exact = lawful_exact;
    strict_is_tidy = both_strict_is_tidy;
    tidy_is_plain = both_tidy_is_plain;
    one_meaning = one_at_each (judge_both first second join) Both lawful_exact (is_plain Both both_strict_is_tidy both_tidy_is_plain);
    strict_is_canonical = both_only;
    canonical_is_strict = both_again;
    shortest = both_shortest;
  }
