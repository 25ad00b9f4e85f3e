-- Keys whose first bytes differ stand as the numbers of those bytes do.
use Rattle.std.proofs.Common.{◌≡◌, ◌<◌, ◌≤◌, ◌⊎◌, inl, inr, ℕ, zero, suc, ◌+◌, ◌*◌, ◌^◌, Bool, true, false, List, [], ◌∷◌, length, get_or, drop, nat_eq}
use Rattle.std.proofs.Common.{nat_lt, refl, sym, ap, ap₂, subst, ◌∙◌, arith}
use Rattle.std.proofs.lemmas.Cmp.{nat_list_cmp_total, tied_itself}
use Rattle.std.proofs.lemmas.List.{get_or-drop, drop-drop, length-take}
use Rattle.std.proofs.lemmas.Map.Lookups.{exact_bytes}
use Rattle.std.proofs.lemmas.Map.Views.{tells_apart}
use Rattle.std.specs.Prelude.{IsTrue, ◌↔◌}
use Rattle.std.proofs.lemmas.Bool.{cases_lt, cases_eq, cases_Bool}
use Rattle.std.proofs.lemmas.Bool.Decides.{nat_tests}
use Rattle.std.proofs.Math.Nat.{mul-le-mul_right, pow-succ'}
use Rattle.std.specs.Cmp.Lexicographic.{slice_cmp}
use Rattle.std.specs.Ordering.{nat_cmp, is_eq}
use Rattle.amqp_types.specs.Judging.{IsBytes}
use Rattle.amqp_types.proofs.Bytes.{IsBytes-drop, IsBytes-take}
use Rattle.amqp_canonical.specs.Judgements.{IsBelow}
use Rattle.amqp_canonical.specs.Leads.{leading, key_at}
use Rattle.amqp_canonical.specs.Marks.{Ascends, IsMarkOf}
use Rattle.amqp_canonical.specs.Writes.{key_in}
use Rattle.amqp_canonical.specs.declared.marks.EntryMark.{EntryMark}

-- n bytes are below the n-th power
leading-below : (n : ℕ) (key : List ℕ) → IsBytes key → leading n key < 256 ^ n
unfolding leading
leading-below zero key fits = omega arith
leading-below (suc n) [] fits = let rest = leading-below n [] fits in let power : 256 ^ suc n ≡ 256 * 256 ^ n = pow-succ' 256 n in omega (arith, rest, power)
leading-below (suc n) (b ∷ key) fits =
    let rest = leading-below n key (λ k. fits (suc k)) in
    let first : b < 256 = fits 0 in
    let power : 256 ^ suc n ≡ 256 * 256 ^ n = pow-succ' 256 n in
    let product : (b + 1) * 256 ^ n ≤ 256 * 256 ^ n = mul-le-mul_right (256 ^ n) (omega (arith, first)) in
    omega (arith, rest, power, product)

-- of two numbers of a first digit and others, the first digits decide, and then the others
digits : (x y power r s : ℕ) → s < power → x * power + r ≤ y * power + s → (x < y) ⊎ ((x ≡ y) × (r ≤ s))
digits x y power r s fits up = elim (cases_lt x y) [
  | inl less ↦ inl less
  | inr higher ↦ elim (cases_eq x y) [
    | inl same ↦ inr (same, let h : x * power + r ≤ x * power + s = subst (λ z. x * power + r ≤ z * power + s) (sym same) up in omega (arith, h))
    | inr other ↦
        let product : (y + 1) * power ≤ x * power = mul-le-mul_right power (omega (arith, higher, other)) in
        absurd (omega (arith, up, product, fits))
  ]
]

-- the first byte that differs decides
below_first : (x y : ℕ) (xs ys : List ℕ) → x < y → IsBelow (x ∷ xs) (y ∷ ys)
below_first x y xs ys less = let e : nat_lt x y ≡ true = grind (arith, nat_tests) in rw e refl

below_rest : (x y : ℕ) (xs ys : List ℕ) → x ≡ y → IsBelow xs ys → IsBelow (x ∷ xs) (y ∷ ys)
below_rest x y xs ys same less =
    let not_below : nat_lt x y ≡ false = grind (arith, nat_tests) in
    let equal : nat_eq x y ≡ true = grind (arith, nat_tests) in
    rw (not_below, equal) less

-- a key whose first bytes make a lower number comes before
pub leading-tells : (n : ℕ) (a b : List ℕ) → IsBytes a → IsBytes b → leading n a < leading n b → IsBelow a b
unfolding leading
leading-tells (suc n) [] (y ∷ ys) fa fb less = refl
leading-tells (suc n) (x ∷ xs) (y ∷ ys) fa fb less =
    elim (digits x y (256 ^ n) (leading n xs + 1) (leading n ys) (leading-below n ys (λ k. fb (suc k))) (omega (arith, less))) [
      | inl lower ↦ below_first x y xs ys lower
      | inr h ↦ below_rest x y xs ys h.0 (leading-tells n xs ys (λ k. fa (suc k)) (λ k. fb (suc k)) (omega (arith, h.1)))
    ]
leading-tells n a b fa fb less = absurd (omega (arith, less))

leading-none : (n : ℕ) → leading n [] ≡ 0
unfolding leading
leading-none zero = refl
leading-none (suc n) = refl

-- where the first n + 1 bytes are the same, the first one is, and the next n are
same_first : (n x y : ℕ) (xs ys : List ℕ) → IsBytes (x ∷ xs) → IsBytes (y ∷ ys)
    → leading (suc n) (x ∷ xs) ≡ leading (suc n) (y ∷ ys) → (x ≡ y) × (leading n xs ≡ leading n ys)
unfolding leading
same_first n x y xs ys fx fy same =
    let up = digits x y (256 ^ n) (leading n xs) (leading n ys) (leading-below n ys (λ k. fy (suc k))) (omega (arith, same)) in
    let down = digits y x (256 ^ n) (leading n ys) (leading n xs) (leading-below n xs (λ k. fx (suc k))) (omega (arith, same)) in
    elim up [
      | inl less ↦ absurd (elim down [ inl more ↦ omega (arith, less, more) | inr h ↦ omega (arith, less, h.0) ])
      | inr h ↦ elim down [ inl more ↦ absurd (omega (arith, more, h.0)) | inr g ↦ (h.0, omega (arith, h.1, g.1)) ]
    ]

-- of two keys of one number of n bytes, one of no more bytes than these comes before a longer one, and is one of its length
short_keys : (n : ℕ) (a b : List ℕ) → IsBytes a → IsBytes b → leading n a ≡ leading n b → length a ≤ n
    → (length a < length b → IsBelow a b) × (length a ≡ length b → a ≡ b)
short_keys n [] [] fa fb same short = (λ less. absurd (omega (arith, less)), λ long. refl)
short_keys n [] (y ∷ ys) fa fb same short = (λ less. refl, λ long. absurd (omega (arith, long)))
short_keys n (x ∷ xs) [] fa fb same short = (λ less. absurd (omega (arith, less)), λ long. absurd (omega (arith, long)))
short_keys zero (x ∷ xs) (y ∷ ys) fa fb same short = absurd (omega (arith, short))
short_keys (suc n) (x ∷ xs) (y ∷ ys) fa fb same short =
    let first = same_first n x y xs ys fa fb same in
    let rest = short_keys n xs ys (λ k. fa (suc k)) (λ k. fb (suc k)) first.1 (omega (arith, short)) in (
      λ less. below_rest x y xs ys first.0 (rest.0 (omega (arith, less))),
      λ long. ap₂ (λ z zs. z ∷ zs) first.0 (rest.1 (omega (arith, long))),
    )

-- ---- the numbers of the bytes

-- Past the end of a key its bytes count as zero.
pub beyond : (key : List ℕ) (k : ℕ) → length key ≤ k → get_or key k 0 ≡ 0
beyond [] zero past = refl
beyond [] (suc k) past = refl
beyond (b ∷ key) zero past = absurd (omega (arith, past))
beyond (b ∷ key) (suc k) past = beyond key k (omega (arith, past))

leading-first : (n : ℕ) (key : List ℕ) → leading (suc n) key ≡ get_or key 0 0 * 256 ^ n + leading n (drop 1 key)
unfolding leading
leading-first n [] = omega (arith, leading-none n)
leading-first n (b ∷ key) = refl

leading-at : (n k : ℕ) (key : List ℕ) → leading (suc n) (drop k key) ≡ get_or key k 0 * 256 ^ n + leading n (drop (k + 1) key)
leading-at n k key =
    leading-first n (drop k key)
    ∙ ap₂ (λ a b. a * 256 ^ n + leading n b) (rw get_or-drop (ap (λ m. get_or key m 0) (let e : k + 0 ≡ k = omega arith in e))) (drop-drop 1 k key)

leading-zero : (key : List ℕ) → leading 0 key ≡ 0
unfolding leading
leading-zero key = refl

-- The number of the two bytes after the first eight of a key is the ninth byte times 256, and the tenth.
pub two_are : (key : List ℕ) → leading 2 (drop 8 key) ≡ get_or key 8 0 * 256 + get_or key 9 0
two_are key = omega (arith, leading-at 1 8 key, leading-at 0 9 key, leading-zero (drop 10 key))

-- The number of the first eight bytes of a key is the sum of each byte times its power of 256, the first byte the highest.
pub eight_are : (key : List ℕ)
    → leading 8 key
    ≡ get_or key 0 0 * 72057594037927936 + get_or key 1 0 * 281474976710656 + get_or key 2 0 * 1099511627776
    + get_or key 3 0 * 4294967296 + get_or key 4 0 * 16777216 + get_or key 5 0 * 65536 + get_or key 6 0 * 256 + get_or key 7 0
eight_are key = omega (
  arith,
  leading-at 7 0 key,
  leading-at 6 1 key,
  leading-at 5 2 key,
  leading-at 4 3 key,
  leading-at 3 4 key,
  leading-at 2 5 key,
  leading-at 1 6 key,
  leading-at 0 7 key,
  leading-zero (drop 8 key),
)

-- and that of the first ten is that of the first eight and of the next two
ten_are : (key : List ℕ) → leading 10 key ≡ leading 8 key * 65536 + leading 2 (drop 8 key)
ten_are key = omega (
  arith,
  eight_are key,
  leading-at 9 0 key,
  leading-at 8 1 key,
  leading-at 7 2 key,
  leading-at 6 3 key,
  leading-at 5 4 key,
  leading-at 4 5 key,
  leading-at 3 6 key,
  leading-at 2 7 key,
)

-- where the first eight bytes are the same, and the next two make a lower number, the key comes before
pub next-tells : (a b : List ℕ) → IsBytes a → IsBytes b → leading 8 a ≡ leading 8 b → leading 2 (drop 8 a) < leading 2 (drop 8 b) → IsBelow a b
next-tells a b fa fb same less = leading-tells 10 a b fa fb (omega (arith, ten_are a, ten_are b, same, less))

-- ---- marks

key_fits : (bytes : List ℕ) → IsBytes bytes → IsBytes (key_in bytes)
key_fits [] fits = fits
key_fits (n ∷ bytes) fits = IsBytes-take n bytes (λ k. fits (suc k))

-- a key has at most 255 bytes
pub key_is_short : (bytes : List ℕ) → IsBytes bytes → length (key_in bytes) < 256
key_is_short [] fits = omega arith
key_is_short (n ∷ bytes) fits = let few : n < 256 = fits 0 in omega (arith, few, length-take n bytes)

module _ (content : List ℕ) (a b : EntryMark) (p : IsMarkOf content a) (q : IsMarkOf content b) where
  abbrev one : List ℕ
  one = key_at content a

  abbrev two : List ℕ
  two = key_at content b

  -- marks of one key have the same numbers
  pub same_lead : one ≡ two → (a.lead ≡ b.lead) × (a.more ≡ b.more) × (a.key_size ≡ b.key_size)
  same_lead same = (
    p.first ∙ ap (leading 8) same ∙ sym q.first,
    p.next ∙ ap (λ k. leading 2 (drop 8 k)) same ∙ sym q.next,
    p.key_length ∙ ap length same ∙ sym q.key_length,
  )

  module _ (fits : IsBytes content) where
    fits_at : (at : ℕ) → IsBytes (key_in (drop at content))
    fits_at at = key_fits (drop at content) (IsBytes-drop at content fits)

    -- A key whose mark has a greater number of its first eight bytes comes after one whose mark has a less.
    pub lead_tells : a.lead < b.lead → Ascends content a b
    lead_tells less = leading-tells 8 one two (fits_at a.place) (fits_at b.place) (omega (arith, p.first, q.first, less))

    -- Of two keys whose first eight bytes are the same, the one with the greater number of the next two comes after the other.
    pub more_tells : a.lead ≡ b.lead → a.more < b.more → Ascends content a b
    more_tells same less =
        next-tells one two (fits_at a.place) (fits_at b.place) (omega (arith, p.first, q.first, same)) (omega (arith, p.next, q.next, less))

    -- Where the numbers are the same, a key of no more bytes than these comes before a longer one, and is one of its length.
    pub size_tells : a.lead ≡ b.lead → a.more ≡ b.more → a.key_size ≤ 10
        → (a.key_size < b.key_size → Ascends content a b) × (a.key_size ≡ b.key_size → one ≡ two)
    size_tells same next short =
        let ten : leading 10 one ≡ leading 10 two = omega (arith, ten_are one, ten_are two, p.first, q.first, p.next, q.next, same, next) in
        let tells = short_keys 10 one two (fits_at a.place) (fits_at b.place) ten (omega (arith, p.key_length, short)) in (
          λ less. tells.0 (omega (arith, p.key_length, q.key_length, less)),
          λ long. tells.1 (omega (arith, p.key_length, q.key_length, long)),
        )

-- keys that differ
pub never : (a b : List ℕ) → (a ≡ b → ⊥) → IsTrue false ↔ (a ≡ b)
never a b differ = (λ t. absurd cc, λ same. absurd (differ same))

-- keys that are the same
pub always : (a b : List ℕ) → a ≡ b → IsTrue true ↔ (a ≡ b)
always a b same = (λ t. same, λ e. refl)

-- a test that holds exactly where two keys are the same
pub same_test : (a b : List ℕ) (r : Bool) → IsTrue r ↔ (a ≡ b) → r ≡ is_eq (slice_cmp nat_cmp a b)
same_test a b true h =
    sym (subst (λ k. is_eq (slice_cmp nat_cmp a k) ≡ true) (h.0 refl) (ap is_eq (tied_itself nat_list_cmp_total a)))
same_test a b false h = elim (cases_Bool (is_eq (slice_cmp nat_cmp a b))) [
  | inl tied ↦ h.1 (tells_apart exact_bytes a b tied) ∙ sym tied
  | inr apart ↦ sym apart
]
