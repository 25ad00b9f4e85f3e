-- What is made of what was read, and what is read one after another, is exact where its parts are.
use Rattle.std.proofs.Common.{◌≡◌, ℕ, ◌+◌, ◌≤◌, List, ◌++◌, length, take, drop, refl, sym, ap, ap₂, subst, ◌∙◌, append_assoc, arith}
use Rattle.std.proofs.lemmas.List.{length-append, length-drop, drop_at}
use Rattle.std.proofs.Math.Seq.{take-add}
use Rattle.amqp_types.specs.Judging.{Judge, took, ◌>>=◌, IsBytes, IsExact}
use Rattle.amqp_types.specs.Sequences.{judge_map, judge_both, SpellsBoth}
use Rattle.amqp_types.proofs.Bytes.{IsBytes-drop}
use Rattle.amqp_types.proofs.Took.{bind_took, value_took, count_took}

-- what is made of what was read
module _ {A B : Type 0} (make : A → B) (judge : Judge A) (Spells : List ℕ → A → Type 0) (Mapped : List ℕ → B → Type 0)
    (exact : IsExact judge Spells) (into : (bytes : List ℕ) (x : A) → Spells bytes x → Mapped bytes (make x)) where
  -- Where decoding takes a value that is made of another, the bytes taken are an encoding of it, and were all there.
  pub map_spelled : (bytes : List ℕ) (y : B) (n : ℕ) → IsBytes bytes → judge_map make judge bytes ≡ took y n → Mapped (take n bytes) y × (n ≤ length bytes)
  map_spelled bytes y n fits h =
      let found = bind_took (judge bytes) _ y n h in
      let one = exact.spelled bytes found.0 found.1 fits found.2 in
      let is : make found.0 ≡ y = value_took _ y _ n found.3 in
      let count : found.1 ≡ n = count_took _ y _ n found.3 in
      let P : ℕ → Type 0 = λ m. Mapped (take m bytes) y in
      let Q : B → Type 0 = λ z. Mapped (take found.1 bytes) z in
      (subst P count (subst Q is (into (take found.1 bytes) found.0 one.0)), omega (arith, one.1, count))

-- Of the encoding of a value and whatever follows, decoding takes what is made of the value, and all of the encoding.
pub map_taken : {A B : Type 0} (make : A → B) (judge : Judge A) (Spells : List ℕ → A → Type 0) → IsExact judge Spells
    → (bytes rest : List ℕ) (x : A) → Spells bytes x → judge_map make judge (bytes ++ rest) ≡ took (make x) (length bytes)
map_taken make judge Spells exact bytes rest x h = ap (λ j. j >>= λ x. took (make x.0) x.1) (exact.taken bytes rest x h)

-- two things, one after the other
module _ {A B C : Type 0} (first : Judge A) (second : Judge B) (join : A → B → C) (First : List ℕ → A → Type 0)
    (Second : List ℕ → B → Type 0) (first_exact : IsExact first First) (second_exact : IsExact second Second) where
  both_spelled : (bytes : List ℕ) (z : C) (n : ℕ) → IsBytes bytes → judge_both first second join bytes ≡ took z n
      → SpellsBoth First Second join (take n bytes) z × (n ≤ length bytes)
  both_spelled bytes z n fits h =
      let one = bind_took (first bytes) _ z n h in
      let behind = drop one.1 bytes in
      let two = bind_took (second behind) _ z n one.3 in
      let front_is = first_exact.spelled bytes one.0 one.1 fits one.2 in
      let behind_is = second_exact.spelled behind two.0 two.1 (IsBytes-drop one.1 bytes fits) two.2 in
      let count : one.1 + two.1 ≡ n = count_took _ z _ n two.3 in (
        record {
          front = take one.1 bytes;
          behind = take two.1 behind;
          one = one.0;
          two = two.0;
          bytes_are = ap (λ m. take m bytes) (sym count) ∙ take-add one.1 two.1 bytes;
          first_is = front_is.0;
          second_is = behind_is.0;
          joined = sym (value_took _ z _ n two.3);
        },
        omega (arith, front_is.1, behind_is.1, length-drop one.1 bytes, count),
      )

  both_taken : (bytes rest : List ℕ) (z : C) → SpellsBoth First Second join bytes z → judge_both first second join (bytes ++ rest) ≡ took z (length bytes)
  both_taken bytes rest z h =
      let tail = h.behind ++ rest in
      let all : bytes ++ rest ≡ h.front ++ tail = ap (λ bs. bs ++ rest) h.bytes_are ∙ append_assoc h.front h.behind rest in
      let one : first (h.front ++ tail) ≡ took h.one (length h.front) = first_exact.taken h.front tail h.one h.first_is in
      let two : second (drop (length h.front) (h.front ++ tail)) ≡ took h.two (length h.behind) =
      ap second (drop_at h.front tail (length h.front) refl) ∙ second_exact.taken h.behind rest h.two h.second_is in
      let count : length h.front + length h.behind ≡ length bytes = sym (ap length h.bytes_are ∙ length-append h.front h.behind) in
      ap (judge_both first second join) all
      ∙ ap (λ j. j >>= λ x. second (drop x.1 (h.front ++ tail)) >>= λ y. took (join x.0 y.0) (x.1 + y.1)) one
      ∙ ap (λ j. j >>= λ y. took (join h.one y.0) (length h.front + y.1)) two ∙ ap₂ (λ y m. took y m) (sym h.joined) count

  -- Decoding two parts one after the other takes exactly what encodes both, where each part does.
  pub both_exact : IsExact (judge_both first second join) (SpellsBoth First Second join)
  both_exact = record { spelled = both_spelled; taken = both_taken }
