-- Values at the front of some bytes whose canonical bytes these are, and keys in order.
use Rattle.std.proofs.Common.{◌≡◌, ◌<◌, ◌≤◌, ◌+◌, ◌-◌, ◌^◌, ◌⊎◌, inl, inr, ℕ, zero, suc, Bool, true, false, nat_eq, Option}
use Rattle.std.proofs.Common.{Some, if◌then◌else◌, List, [], ◌∷◌, length, take, drop, get_or, Ok, refl, sym, ap, subst, ◌∙◌, arith}
use Rattle.std.proofs.lemmas.Bool.{le-ltb}
use Rattle.std.proofs.lemmas.Bool.Decides.{nat_tests}
use Rattle.std.proofs.lemmas.List.{drop-drop, get_or-drop, length-drop}
use Rattle.std.specs.Int.{w32, from_be_bytes}
use Rattle.amqp_types.specs.Judging.{IsBytes, took}
use Rattle.amqp_types.specs.Booleans.{judge_boolean}
use Rattle.amqp_types.specs.Strings.{judge_long_string, judge_short_string}
use Rattle.amqp_types.specs.Tags.{tag_at, tag_byte}
use Rattle.amqp_types.specs.ValueJudging.{judge_behind, nested}
use Rattle.amqp_types.specs.declared.tag.FieldTag.{FieldTag}
use Rattle.amqp_types.specs.declared.tag.FieldTag.TheVariants as tag
use Rattle.amqp_types.proofs.Bytes.{IsBytes-drop}
use Rattle.amqp_canonical.specs.Judgements.{AreCanonicalEntries, DecodesAs, Fills, IsAbove, IsCanonicalBoolean}
use Rattle.amqp_canonical.specs.Leads.{leading}
use Rattle.amqp_canonical.proofs.AfterTag.{IsTaken, boolean_behind, counted_took, entry_took, fixed_took, taken, value_took_at}
use Rattle.amqp_canonical.proofs.Children.{entries_end, entries_next, entries_none}
use Rattle.amqp_canonical.proofs.Leading.{leading-tells}
use Rattle.amqp_entries.specs.Ascending.{Ascending, AscendingTo}
use Rattle.amqp_entries.specs.Contents.{read_entries}
use Rattle.amqp_entries.specs.Plain.{IsCanonicalFront, IsCanonicalPart, IsEntryFront, number_size_after}

-- a value after its tag byte, in so many bytes that are its canonical ones
front_of : (depth : ℕ) (i : List ℕ) (t : FieldTag) (n : ℕ) → 1 ≤ length i → get_or i 0 0 ≡ tag_byte t → tag_at (tag_byte t) ≡ Some t
    → n ≤ length (drop 1 i) → IsTaken (drop 1 i) n (judge_behind (nested depth) t (drop 1 i)) → IsCanonicalFront depth i (1 + n)
front_of depth i t n some is known long behind = record {
  decoded = value_took_at depth i t (record { used = n; canonical = true }) true (omega (arith, some)) (ap tag_at is ∙ known)
      (λ u. sym is, λ e. refl) (taken (drop 1 i) n _ behind);
  some = omega arith;
  fits = omega (arith, long, length-drop 1 i, some);
}

number_of : (depth : ℕ) (i : List ℕ) (t : FieldTag) (m n : ℕ) → IsBytes i → 1 ≤ length i → n ≤ length (drop 1 i)
    → ((bytes : List ℕ) → IsBytes bytes → m ≤ length bytes → IsTaken bytes m (judge_behind (nested depth) t bytes))
    → tag_at (tag_byte t) ≡ Some t → (get_or i 0 0 ≡ tag_byte t) × (m ≡ n) → IsCanonicalFront depth i (1 + n)
number_of depth i t m n fits some long takes known is =
    let P : ℕ → Type 0 = λ k. k ≤ length (drop 1 i) → IsCanonicalFront depth i (1 + k) in
    subst P is.1 (λ enough. front_of depth i t m some is.0 known enough (takes (drop 1 i) (IsBytes-drop 1 i fits) enough)) long

this_or : (byte k m n : ℕ) (test : Bool) (rest : Option ℕ) → nat_eq byte k ≡ test → (if test then Some m else rest) ≡ Some n
    → ((byte ≡ k) × (m ≡ n)) ⊎ (rest ≡ Some n)
this_or byte k m n true rest is h = inl (grind (arith, nat_tests, is), cc)
this_or byte k m n false rest is h = inr h

-- a number after its tag byte
pub number_front : (depth : ℕ) (i : List ℕ) (n : ℕ) → IsBytes i → 1 ≤ length i → number_size_after (get_or i 0 0) ≡ Some n → n ≤ length (drop 1 i)
    → IsCanonicalFront depth i (1 + n)
number_front depth i n fits some is long =
    let b = get_or i 0 0 in
    let nest = nested depth in
    elim (this_or b 98 1 n (nat_eq b 98) _ refl is) [
      | inl e ↦ number_of depth i tag.ShortShortInt 1 n fits some long (λ bs f l. fixed_took nest tag.ShortShortInt bs 1 f refl l) refl e
      | inr r1 ↦ elim (this_or b 66 1 n (nat_eq b 66) _ refl r1) [
        | inl e ↦ number_of depth i tag.ShortShortUInt 1 n fits some long (λ bs f l. fixed_took nest tag.ShortShortUInt bs 1 f refl l) refl e
        | inr r2 ↦ elim (this_or b 115 2 n (nat_eq b 115) _ refl r2) [
          | inl e ↦ number_of depth i tag.ShortInt 2 n fits some long (λ bs f l. fixed_took nest tag.ShortInt bs 2 f refl l) refl e
          | inr r3 ↦ elim (this_or b 117 2 n (nat_eq b 117) _ refl r3) [
            | inl e ↦ number_of depth i tag.ShortUInt 2 n fits some long (λ bs f l. fixed_took nest tag.ShortUInt bs 2 f refl l) refl e
            | inr r4 ↦ elim (this_or b 73 4 n (nat_eq b 73) _ refl r4) [
              | inl e ↦ number_of depth i tag.LongInt 4 n fits some long (λ bs f l. fixed_took nest tag.LongInt bs 4 f refl l) refl e
              | inr r5 ↦ elim (this_or b 105 4 n (nat_eq b 105) _ refl r5) [
                | inl e ↦ number_of depth i tag.LongUInt 4 n fits some long (λ bs f l. fixed_took nest tag.LongUInt bs 4 f refl l) refl e
                | inr r6 ↦ elim (this_or b 102 4 n (nat_eq b 102) _ refl r6) [
                  | inl e ↦ number_of depth i tag.Float 4 n fits some long (λ bs f l. fixed_took nest tag.Float bs 4 f refl l) refl e
                  | inr r7 ↦ elim (this_or b 108 8 n (nat_eq b 108) _ refl r7) [
                    | inl e ↦ number_of depth i tag.LongLongInt 8 n fits some long (λ bs f l. fixed_took nest tag.LongLongInt bs 8 f refl l) refl e
                    | inr r8 ↦ elim (this_or b 100 8 n (nat_eq b 100) _ refl r8) [
                      | inl e ↦ number_of depth i tag.Double 8 n fits some long (λ bs f l. fixed_took nest tag.Double bs 8 f refl l) refl e
                      | inr r9 ↦ elim (this_or b 84 8 n (nat_eq b 84) _ refl r9) [
                        | inl e ↦ number_of depth i tag.Timestamp 8 n fits some long (λ bs f l. fixed_took nest tag.Timestamp bs 8 f refl l) refl e
                        | inr r10 ↦ absurd cc
                      ]
                    ]
                  ]
                ]
              ]
            ]
          ]
        ]
      ]
    ]

-- a long string after its tag
pub string_front : (depth : ℕ) (i content : List ℕ) (n : ℕ) → IsBytes i → 1 ≤ length i → get_or i 0 0 ≡ 83
    → judge_long_string (drop 1 i) ≡ took content n → n ≤ length (drop 1 i) → IsCanonicalFront depth i (1 + n)
string_front depth i content n fits some is judged long =
    front_of depth i tag.LongString n some is refl long (counted_took (nested depth) tag.LongString (drop 1 i) content n (IsBytes-drop 1 i fits) refl judged)

lowest_alone : (n : ℕ) → from_be_bytes w32 (0 ∷ 0 ∷ 0 ∷ n ∷ []) ≡ n
lowest_alone n = omega arith

few_bytes : (n : ℕ) (rest : List ℕ) → n ≤ length rest → judge_long_string (0 ∷ 0 ∷ 0 ∷ n ∷ rest) ≡ took (take n rest) (4 + n)
unfolding judge_long_string
few_bytes n rest enough =
    let there = le-ltb (length rest) n enough in
    let four = le-ltb (length (0 ∷ 0 ∷ 0 ∷ n ∷ rest)) 4 (omega arith) in
    rw (lowest_alone n, four) (rw there refl)

-- a long string of less than 256 bytes after its tag
pub few_string_front : (depth : ℕ) (i : List ℕ) → IsBytes i → 5 ≤ length i → get_or i 0 0 ≡ 83 → get_or i 1 0 ≡ 0 → get_or i 2 0 ≡ 0 → get_or i 3 0 ≡ 0
    → get_or i 4 0 + 5 ≤ length i → IsCanonicalFront depth i (5 + get_or i 4 0)
few_string_front depth [] fits some is one two three enough = absurd (omega (arith, some))
few_string_front depth (a ∷ []) fits some is one two three enough = absurd (omega (arith, some))
few_string_front depth (a ∷ b ∷ []) fits some is one two three enough = absurd (omega (arith, some))
few_string_front depth (a ∷ b ∷ c ∷ []) fits some is one two three enough = absurd (omega (arith, some))
few_string_front depth (a ∷ b ∷ c ∷ d ∷ []) fits some is one two three enough = absurd (omega (arith, some))
few_string_front depth (a ∷ b ∷ c ∷ d ∷ n ∷ rest) fits some is one two three enough =
    let judged : judge_long_string (b ∷ c ∷ d ∷ n ∷ rest) ≡ took (take n rest) (4 + n) = rw (one, two, three) (few_bytes n rest (omega (arith, enough))) in
    let front = string_front depth (a ∷ b ∷ c ∷ d ∷ n ∷ rest) (take n rest) (4 + n) fits (omega arith) is judged (omega (arith, enough)) in
    let sum : 1 + (4 + n) ≡ 5 + n = omega arith in
    subst (IsCanonicalFront depth (a ∷ b ∷ c ∷ d ∷ n ∷ rest)) sum front

one_byte : (b : ℕ) (rest : List ℕ) → b ≤ 1 → DecodesAs IsCanonicalBoolean (record { used = 1; canonical = true }) (b ∷ rest) (judge_boolean (b ∷ rest))
one_byte zero rest low = record { thing = false; is = refl; decides = (λ t. refl, λ e. refl) }
one_byte (suc zero) rest low = record { thing = true; is = refl; decides = (λ t. refl, λ e. refl) }
one_byte (suc (suc b)) rest low = absurd (omega (arith, low))

-- a truth value after its tag
pub boolean_front : (depth : ℕ) (i : List ℕ) → 2 ≤ length i → get_or i 0 0 ≡ 116 → get_or i 1 0 ≤ 1 → IsCanonicalFront depth i 2
boolean_front depth [] some is low = absurd (omega (arith, some))
boolean_front depth (a ∷ []) some is low = absurd (omega (arith, some))
boolean_front depth (a ∷ b ∷ rest) some is low = record {
  decoded = value_took_at depth (a ∷ b ∷ rest) tag.Boolean (record { used = 1; canonical = true }) true (omega arith) (ap tag_at is)
      (λ t. sym is, λ e. refl) (boolean_behind (nested depth) tag.Boolean (b ∷ rest) (Ok (record { used = 1; canonical = true })) refl (one_byte b rest low));
  some = omega arith;
  fits = omega arith;
}

-- ---- the same at a place

first_at : (at : ℕ) (i : List ℕ) → get_or (drop at i) 0 0 ≡ get_or i at 0
first_at at i = get_or-drop at i 0 0 ∙ ap (λ (k : ℕ). get_or i k 0) (let same : at + 0 ≡ at = omega arith in same)

pub few_string_part : (depth at : ℕ) (i : List ℕ) → IsBytes i → at + 5 ≤ length i → get_or i at 0 ≡ 83 → get_or i (at + 1) 0 ≡ 0 → get_or i (at + 2) 0 ≡ 0
    → get_or i (at + 3) 0 ≡ 0 → at + 5 + get_or i (at + 4) 0 ≤ length i → IsCanonicalPart depth i at (at + 5 + get_or i (at + 4) 0)
few_string_part depth at i fits some is one two three enough =
    let rest = drop at i in
    let long = length-drop at i in
    let four = get_or-drop at i 4 0 in
    record {
      size = 5 + get_or rest 4 0;
      end_is = omega (arith, four);
      value =
          few_string_front depth rest (IsBytes-drop at i fits) (omega (arith, some, long)) (first_at at i ∙ is) (get_or-drop at i 1 0 ∙ one)
          (get_or-drop at i 2 0 ∙ two) (get_or-drop at i 3 0 ∙ three) (omega (arith, enough, long, four));
    }

pub number_part : (depth at : ℕ) (i : List ℕ) (n : ℕ) → IsBytes i → at + 5 ≤ length i → number_size_after (get_or i at 0) ≡ Some n → at + 1 + n ≤ length i
    → IsCanonicalPart depth i at (at + 1 + n)
number_part depth at i n fits some is enough =
    let rest = drop at i in
    let long = length-drop at i in
    record {
      size = 1 + n;
      end_is = omega arith;
      value =
          number_front depth rest n (IsBytes-drop at i fits) (omega (arith, some, long)) (ap number_size_after (first_at at i) ∙ is)
          (omega (arith, enough, long, length-drop 1 rest));
    }

pub boolean_part : (depth at : ℕ) (i : List ℕ) → at + 5 ≤ length i → get_or i at 0 ≡ 116 → get_or i (at + 1) 0 ≤ 1 → IsCanonicalPart depth i at (at + 2)
boolean_part depth at i some is low =
    let rest = drop at i in
    record {
      size = 2;
      end_is = refl;
      value =
          boolean_front depth rest (omega (arith, some, length-drop at i)) (first_at at i ∙ is) (omega (arith, low, get_or-drop at i 1 0));
    }

-- a key of four bytes and more, and a canonical value after it
pub entry_front : (depth : ℕ) (i key : List ℕ) (lead n : ℕ) → IsBytes i → IsBytes key → judge_short_string i ≡ took key (1 + length key)
    → 1 + length key ≤ length i → lead ≡ leading 4 key → lead < 2 ^ 32 → IsCanonicalFront depth (drop (1 + length key) i) n
    → IsEntryFront depth i lead (1 + length key + n)
entry_front depth i key lead n fits key_fits judged few is lead_few value = record {
  key = key;
  key_fits = key_fits;
  decoded = entry_took depth i key key (1 + length key) (record { used = n; canonical = true }) fits judged refl value.decoded value.fits;
  lead_is = is;
  lead_few = lead_few;
  some = omega (arith, value.some);
  fits = omega (arith, value.fits, length-drop (1 + length key) i, few);
}

-- the same with the place after the value
pub entry_of_part : (depth : ℕ) (i key : List ℕ) (lead end : ℕ) → IsBytes i → IsBytes key → judge_short_string i ≡ took key (1 + length key)
    → 1 + length key ≤ length i → lead ≡ leading 4 key → lead < 2 ^ 32 → IsCanonicalPart depth i (1 + length key) end → IsEntryFront depth i lead end
entry_of_part depth i key lead end fits key_fits judged few is lead_few part =
    subst (IsEntryFront depth i lead) (sym part.end_is) (entry_front depth i key lead part.size fits key_fits judged few is lead_few part.value)

-- no entries
pub ascending_none : (depth : ℕ) (content : List ℕ) (lowest : ℕ) → Ascending depth content 0 lowest
ascending_none depth content lowest = record {
  previous = [];
  bytes = λ k. omega arith;
  entries = entries_none depth content;
  over = λ up. absurd (omega (arith, up));
}

-- the first key comes after none, and another one after the previous one
pub lead_above : (at lowest : ℕ) (previous key : List ℕ) → IsBytes previous → IsBytes key → (0 < at → lowest ≡ leading 4 previous + 1)
    → lowest ≤ leading 4 key → IsAbove at previous key true
lead_above zero lowest previous key fits fits2 over low = inl (refl, refl)
lead_above (suc at) lowest previous key fits fits2 over low =
    let is = over (omega arith) in
    let below = leading-tells 4 previous key fits fits2 (omega (arith, is, low)) in
    inr (omega arith, (λ t. below, λ b. refl))

-- one entry more, whose key comes after the others
pub ascending_next : (depth : ℕ) (content : List ℕ) (at n lowest lead : ℕ) → IsBytes content → at < length content
    → IsEntryFront depth (drop at content) lead n → lowest ≤ lead → Ascending depth content at lowest → Ascending depth content (at + n) (lead + 1)
ascending_next depth content at n lowest lead fits more e low s =
    let found = e.decoded in
    let above = lead_above at lowest s.previous e.key s.bytes e.key_fits s.over (omega (arith, low, e.lead_is)) in
    record {
      previous = e.key;
      bytes = e.key_fits;
      entries = entries_next depth content at n s.previous e.key found.value true true true fits more found.is e.some e.fits found.decides above s.entries;
      over = λ up. ap (λ (k : ℕ). k + 1) e.lead_is;
    }

-- at first all is left, and any key may come
pub ascending_start : (depth : ℕ) (content : List ℕ) (lowest : ℕ) → AscendingTo depth content content lowest
ascending_start depth content lowest = record { at = 0; within = omega arith; rest_is = refl; entries = ascending_none depth content lowest }

-- one entry more, which is left out of the rest
pub ascending_step : (depth : ℕ) (content rest : List ℕ) (n lowest lead : ℕ) → IsBytes content → 0 < length rest → IsEntryFront depth rest lead n
    → lowest ≤ lead → AscendingTo depth content rest lowest → AscendingTo depth content (drop n rest) (lead + 1)
ascending_step depth content rest n lowest lead fits some front low s =
    let long : length rest ≡ length content - s.at = ap length s.rest_is ∙ length-drop s.at content in
    let entry : IsEntryFront depth (drop s.at content) lead n = subst (λ (r : List ℕ). IsEntryFront depth r lead n) s.rest_is front in
    record {
      at = s.at + n;
      within = omega (arith, s.within, long, front.fits);
      rest_is = ap (drop n) s.rest_is ∙ drop-drop n s.at content;
      entries = ascending_next depth content s.at n lowest lead fits (omega (arith, some, long)) entry low s.entries;
    }

-- nothing is left
pub ascending_end : (depth : ℕ) (content rest : List ℕ) (lowest : ℕ) → length rest ≡ 0 → AscendingTo depth content rest lowest
    → Fills AreCanonicalEntries true content (read_entries depth content)
ascending_end depth content rest lowest none s =
    let long : length rest ≡ length content - s.at = ap length s.rest_is ∙ length-drop s.at content in
    let e = s.entries in
    entries_end depth content s.at e.previous true (omega (arith, none, long)) e.entries
