-- Values and entries that were decoded, up to a place.
use Rattle.std.proofs.Common.{◌≡◌, ℕ, zero, suc, ◌+◌, ◌<◌, ◌≤◌, ◌↔◌, ◌⊎◌, inl, inr, Bool, true, false, ◌&&◌, IsTrue, List, [], ◌∷◌, ◌++◌, length, take, drop}
use Rattle.std.proofs.Common.{Ok, refl, sym, ap, ap₂, subst, ◌∙◌, append-nil, append_assoc, arith, true≢false}
use Rattle.std.proofs.lemmas.Cmp.{nat_list_cmp_total}
use Rattle.std.proofs.lemmas.List.{length-append, length-take-le, length-drop, drop-drop, take_all}
use Rattle.std.proofs.Math.Seq.{take-add}
use Rattle.std.specs.Cmp.Lexicographic.{slice_cmp}
use Rattle.std.specs.List.{AllByRecursion}
use Rattle.std.specs.List.Sorted.{IsStrictlySortedBy}
use Rattle.std.specs.Map.{keys_of}
use Rattle.std.specs.Ordering.{nat_cmp}
use Rattle.amqp_types.specs.Levels.{plain}
use Rattle.amqp_types.specs.Judging.{Judge, took, IsBytes}
use Rattle.amqp_types.specs.Strings.{short_string_bytes}
use Rattle.amqp_types.specs.Settling.{IsRising}
use Rattle.amqp_types.specs.Values.{FieldValue, Entry, values_of, entries_of}
use Rattle.amqp_types.specs.ValueBytes.{values_bytes, entries_bytes, tagged_bytes}
use Rattle.amqp_types.specs.ValueJudging.{filled, judge_entry, judge_value}
use Rattle.amqp_types.specs.ValueSpelling.{SpellsValue}
use Rattle.amqp_types.proofs.Bytes.{IsBytes-drop}
use Rattle.amqp_laws.proofs.Filling.{after, goes_on, ends, after_none}
use Rattle.amqp_laws.proofs.Filled.{entry_exact}
use Rattle.amqp_laws.proofs.Exactly.{value_exact}
use Rattle.amqp_laws.proofs.Bounded.{value_bounded}
use Rattle.amqp_laws.proofs.Settling.{none_risen}
use Rattle.std.specs.declared.cmp.Ordering.{Ordering}
use Rattle.std.specs.declared.cmp.Ordering.TheVariants.{Less}
use Rattle.amqp_canonical.specs.Judgements.{IsAbove, IsBelow, AreCanonicalValues, AreCanonicalEntries, Fills}
use Rattle.amqp_canonical.specs.Writes.{entry_bytes}
use Rattle.amqp_canonical.proofs.LastOfEachKey.{all_at_last}

-- ---- the values up to a place, and what is said of them
-- the values up to a place, and whether their bytes are canonical
pub record ValuesTo (room : ℕ) (content : List ℕ) (at : ℕ) (canonical : Bool) : Type 0 where
  pub things : List FieldValue
  pub rest : after things (filled (judge_value room) 0 (drop at content)) ≡ filled (judge_value room) 0 content
  pub decides : IsTrue canonical ↔ AreCanonicalValues (take at content) things
  pub shorter : length (values_bytes (values_of things)) ≤ at

-- the key of the last entry, where there is one
abbrev pub IsLast : ℕ → List ℕ → List Entry → Type 0
IsLast at previous things = ((at ≡ 0) × (things ≡ [])) ⊎ ((0 < at) × (es : List Entry) × (v : FieldValue) × (things ≡ es ++ (previous, v) ∷ []))

-- the entries up to a place, and what is said of them
pub record EntriesTo (room : ℕ) (content : List ℕ) (at : ℕ) (previous : List ℕ) (canonical : Bool) : Type 0 where
  pub things : List Entry
  pub rest : after things (filled (judge_entry (judge_value room)) 0 (drop at content)) ≡ filled (judge_entry (judge_value room)) 0 content
  pub decides : IsTrue canonical ↔ AreCanonicalEntries (take at content) things
  pub shorter : length (entries_bytes (entries_of things)) ≤ at
  pub last : IsLast at previous things

-- ---- tests

-- Where two tests decide, their conjunction decides whether both hold.
pub both_decided : {b c : Bool} {P Q R : Type 0} → IsTrue b ↔ P → IsTrue c ↔ Q → P × Q ↔ R → IsTrue (b && c) ↔ R
both_decided {b = true} {c = c} h k r = (λ t. r.0 (h.0 refl, k.0 t), λ x. let p = r.1 x in k.1 p.1)
both_decided {b = false} {c = c} h k r = (λ t. absurd (true≢false (sym t)), λ x. let p = r.1 x in h.1 p.0)

-- A test that decides one statement decides each equivalent one.
pub decided_as : (b : Bool) (P Q : Type 0) → IsTrue b ↔ P → (P → Q) → (Q → P) → IsTrue b ↔ Q
decided_as b P Q h f g = (λ t. f (h.0 t), λ q. h.1 (g q))

-- ---- two lists of bytes, one after the other

-- Where two parts one after the other make the same list as two others, and are no shorter part by part, they are the same parts.
pub split_two : (a b x y : List ℕ) → a ++ b ≡ x ++ y → length x ≤ length a → length y ≤ length b → (a ≡ x) × (b ≡ y)
split_two [] b [] y h few less = (refl, h)
split_two [] b (c ∷ x) y h few less = absurd (omega (arith, few))
split_two (c ∷ a) b [] y h few less = absurd (omega (arith, ap length h, length-append a b, less))
split_two (c ∷ a) b (d ∷ x) y h few less =
    let first : c ≡ d = cc in
    let others : a ++ b ≡ x ++ y = cc in
    let more = split_two a b x y others (omega (arith, few)) less in
    (ap₂ (λ e es. e ∷ es) first more.0, more.1)

-- what stands up to a place, and after it
module _ (content : List ℕ) (at n : ℕ) (old new : List ℕ) (within : at ≤ length content)
    (fits : n ≤ length (drop at content)) (less : length old ≤ at) (few : length new ≤ n) where
  pub stands_both : (take at content ≡ old) × (take n (drop at content) ≡ new) → take (at + n) content ≡ old ++ new
  stands_both h = take-add at n content ∙ ap₂ (λ a b. a ++ b) h.0 h.1

  pub stands_each : take (at + n) content ≡ old ++ new → (take at content ≡ old) × (take n (drop at content) ≡ new)
  stands_each h =
      split_two (take at content) (take n (drop at content)) old new (sym (take-add at n content) ∙ h)
      (omega (arith, less, length-take-le at content within)) (omega (arith, few, length-take-le n (drop at content) fits))

-- ---- values

pub values_last : (vs : List FieldValue) (v : FieldValue) → values_bytes (values_of (vs ++ v ∷ [])) ≡ values_bytes (values_of vs) ++ tagged_bytes v
values_last [] v = append-nil (tagged_bytes v)
values_last (w ∷ vs) v = ap (λ bs. tagged_bytes w ++ bs) (values_last vs v) ∙ sym (append_assoc (tagged_bytes w) (values_bytes (values_of vs)) (tagged_bytes v))

-- The canonical bytes of a decoded value are at most the bytes that it took.
pub value_few : (room : ℕ) (bytes : List ℕ) (v : FieldValue) (n : ℕ) → IsBytes bytes → judge_value room bytes ≡ took v n → length (tagged_bytes v) ≤ n
value_few room bytes v n fits h =
    let one = (value_exact room).spelled bytes v n fits h in
    let b = value_bounded room (take n bytes) v one.0 in
    omega (arith, b.shorter, length-take-le n bytes one.1)

things_end : {A : Type 0} (judge : Judge A) (AreCanonical : List ℕ → List A → Type 0) (content : List ℕ) (at : ℕ) (canonical : Bool)
    → length content ≤ at → (things : List A) → after things (filled judge 0 (drop at content)) ≡ filled judge 0 content
    → IsTrue canonical ↔ AreCanonical (take at content) things → Fills AreCanonical canonical content (filled judge 0 content)
things_end judge AreCanonical content at canonical long things rest decides = record {
  thing = things;
  is = ends judge (λ xs. things ++ xs) at content _ long rest ∙ ap Ok (append-nil things);
  decides = subst (λ bs. IsTrue canonical ↔ AreCanonical bs things) (take_all at content long) decides;
}

-- Up to the start there are no values, and the empty bytes are canonical.
pub values_none : (room : ℕ) (content : List ℕ) → ValuesTo room content 0 true
values_none room content =
    record { things = []; rest = after_none (filled (judge_value room) 0 content); decides = (λ t. refl, λ h. refl); shorter = omega arith }

-- With one value more, the values up to its end are canonical exactly where it is and those before it are.
pub values_next : (room : ℕ) (content : List ℕ) (at n : ℕ) (v : FieldValue) (canonical d : Bool) → IsBytes content
    → at < length content → judge_value room (drop at content) ≡ took v n → 0 < n → n ≤ length (drop at content)
    → IsTrue d ↔ (take n (drop at content) ≡ tagged_bytes v) → ValuesTo room content at canonical → ValuesTo room content (at + n) (canonical && d)
values_next room content at n v canonical d bytes more is up fits decides h =
    let few = value_few _ _ _ _ (IsBytes-drop at content bytes) is in
    let within : at ≤ length content = omega (arith, more) in
    let old = values_bytes (values_of h.things) in
    let last = values_last h.things v in
    record {
      things = h.things ++ v ∷ [];
      rest = rw (← drop-drop n at content) (goes_on _ _ _ _ _ _ (omega (arith, more, length-drop at content)) is up fits h.rest);
      decides = both_decided h.decides decides (
        λ p. stands_both _ _ _ _ _ within fits h.shorter few p ∙ sym last,
        λ q. stands_each _ _ _ _ _ within fits h.shorter few (q ∙ last),
      );
      shorter = omega (arith, ap length last, length-append old (tagged_bytes v), h.shorter, few);
    }

-- Where the values reach the end of the content, they fill it, and it is said whether they are canonical.
pub values_end : (room : ℕ) (content : List ℕ) (at : ℕ) (canonical : Bool) → length content ≤ at
    → ValuesTo room content at canonical → Fills AreCanonicalValues canonical content (filled (judge_value room) 0 content)
values_end room content at canonical long h = things_end _ AreCanonicalValues _ _ _ long _ h.rest h.decides

-- ---- keys in ascending order

abbrev AllBelow : List ℕ → List Entry → Type 0
AllBelow next es = AllByRecursion (λ k. IsBelow k next) (keys_of es)

-- What holds of all keys and of one more key holds of the keys with this one at the end.
pub all_last : (P : List ℕ → Type 0) (es : List Entry) (e : Entry) → AllByRecursion P (keys_of es) → P e.0 → AllByRecursion P (keys_of (es ++ e ∷ []))
all_last P [] e h p = (p, tt)
all_last P (x ∷ es) e h p = (h.0, all_last P es e h.1 p)

all_before : (P : List ℕ → Type 0) (es : List Entry) (e : Entry) → AllByRecursion P (keys_of (es ++ e ∷ [])) → AllByRecursion P (keys_of es)
all_before P [] e h = tt
all_before P (x ∷ es) e h = (h.0, all_before P es e h.1)

all_below : (es : List Entry) (p : Entry) (next : List ℕ) → IsRising (es ++ p ∷ []) → IsBelow p.0 next → AllBelow next (es ++ p ∷ [])
unfolding IsStrictlySortedBy
all_below [] p next s less = (less, tt)
all_below (x ∷ es) p next s less = (nat_list_cmp_total.trans x.0 p.0 next (all_at_last (λ k. IsBelow x.0 k) es p s.0) less, all_below es p next s.1 less)

rising_last : (es : List Entry) (e : Entry) → IsRising es → AllBelow e.0 es → IsRising (es ++ e ∷ [])
unfolding IsStrictlySortedBy
rising_last [] e s h = (tt, tt)
rising_last (x ∷ es) e s h = (all_last (λ k. IsBelow x.0 k) es e s.0 h.0, rising_last es e s.1 h.1)

rising_before : (es : List Entry) (e : Entry) → IsRising (es ++ e ∷ []) → IsRising es
unfolding IsStrictlySortedBy
rising_before [] e s = tt
rising_before (x ∷ es) e s = (all_before (λ k. IsBelow x.0 k) es e s.0, rising_before es e s.1)

last_below : (es : List Entry) (p e : Entry) → IsRising ((es ++ p ∷ []) ++ e ∷ []) → IsBelow p.0 e.0
unfolding IsStrictlySortedBy
last_below [] p e s = s.0.0
last_below (x ∷ es) p e s = last_below es p e s.1

module _ (at : ℕ) (previous key : List ℕ) (v : FieldValue) (above : Bool) where
  -- one entry more keeps them in order exactly where its key comes after the previous one
  rises : (things : List Entry) → IsLast at previous things → IsAbove at previous key above
      → IsRising things × IsTrue above ↔ IsRising (things ++ (key, v) ∷ [])
  rises things (inl none) (inl a) = (λ p. rw none.1 (rising_last [] (key, v) none_risen tt), λ s. (rising_before things (key, v) s, a.1))
  rises things (inl none) (inr a) = absurd (omega (arith, none.0, a.0))
  rises things (inr one) (inl a) = absurd (omega (arith, one.0, a.0))
  rises things (inr one) (inr a) =
      let p : Entry = (previous, one.2) in (
        λ h.
            let front = subst (λ es. IsRising es) one.3 h.0 in
            rw one.3 (rising_last (one.1 ++ p ∷ []) (key, v) front (all_below one.1 p key front (a.1.0 h.1))),
        λ s. (rising_before things (key, v) s, a.1.1 (last_below one.1 p (key, v) (subst (λ es. IsRising (es ++ (key, v) ∷ [])) one.3 s))),
      )

-- ---- entries

entries_last : (es : List Entry) (e : Entry) → entries_bytes (entries_of (es ++ e ∷ [])) ≡ entries_bytes (entries_of es) ++ entry_bytes e
entries_last [] e = append-nil (entry_bytes e)
entries_last (x ∷ es) e =
    ap (λ bs. entry_bytes x ++ bs) (entries_last es e) ∙ sym (append_assoc (entry_bytes x) (entries_bytes (entries_of es)) (entry_bytes e))

entry_few : (room : ℕ) (bytes : List ℕ) (e : Entry) (n : ℕ) → IsBytes bytes → judge_entry (judge_value room) bytes ≡ took e n → length (entry_bytes e) ≤ n
entry_few room bytes e n fits h =
    let one = (entry_exact (judge_value room) (SpellsValue plain room) (value_exact room)).spelled bytes e n fits h in
    let s = one.0 in
    let b = value_bounded room s.behind s.two s.second_is in
    let joined : length (entry_bytes e) ≡ length (entry_bytes (s.one, s.two)) = ap (λ (x : Entry). length (entry_bytes x)) s.joined in
    omega (
      arith,
      joined,
      length-append (short_string_bytes s.one) (tagged_bytes s.two),
      b.shorter,
      ap length s.first_is.bytes_are,
      ap length s.bytes_are,
      length-append s.front s.behind,
      length-take-le n bytes one.1,
    )

-- Up to the start there are no entries, and the empty bytes are canonical.
pub entries_none : (room : ℕ) (content : List ℕ) → EntriesTo room content 0 [] true
entries_none room content = record {
  things = [];
  rest = after_none (filled (judge_entry (judge_value room)) 0 content);
  decides = (λ t. (refl, none_risen), λ h. refl);
  shorter = omega arith;
  last = inl (refl, refl);
}

-- With one entry more, the entries are canonical exactly where it is, its key comes after the previous one, and those before it are.
pub entries_next : (room : ℕ) (content : List ℕ) (at n : ℕ) (previous key : List ℕ) (v : FieldValue) (canonical d above : Bool)
    → IsBytes content → at < length content → judge_entry (judge_value room) (drop at content) ≡ took (key, v) n
    → 0 < n → n ≤ length (drop at content) → IsTrue d ↔ (take n (drop at content) ≡ short_string_bytes key ++ tagged_bytes v)
    → IsAbove at previous key above → EntriesTo room content at previous canonical → EntriesTo room content (at + n) key ((canonical && d) && above)
entries_next room content at n previous key v canonical d above bytes more is up fits decides over h =
    let e : Entry = (key, v) in
    let few = entry_few _ _ _ _ (IsBytes-drop at content bytes) is in
    let within : at ≤ length content = omega (arith, more) in
    let old = entries_bytes (entries_of h.things) in
    let last = entries_last h.things e in
    let order = rises at previous key v above h.things h.last over in
    record {
      things = h.things ++ e ∷ [];
      rest = rw (← drop-drop n at content) (goes_on _ _ _ _ _ _ (omega (arith, more, length-drop at content)) is up fits h.rest);
      decides = both_decided (both_decided h.decides decides (λ p. p, λ p. p)) (λ t. t, λ t. t) (
        λ p. (stands_both _ _ _ _ _ within fits h.shorter few (p.0.0.0, p.0.1) ∙ sym last, order.0 (p.0.0.1, p.1)),
        λ q.
            let two = stands_each _ _ _ _ _ within fits h.shorter few (q.0 ∙ last) in
            let rising = order.1 q.1 in
            (((two.0, rising.0), two.1), rising.1),
      );
      shorter = omega (arith, ap length last, length-append old (entry_bytes e), h.shorter, few);
      last = inr (omega (arith, up), h.things, v, refl);
    }

-- Where the entries reach the end of the content, they fill it, and it is said whether they are canonical.
pub entries_end : (room : ℕ) (content : List ℕ) (at : ℕ) (previous : List ℕ) (canonical : Bool) → length content ≤ at
    → EntriesTo room content at previous canonical → Fills AreCanonicalEntries canonical content (filled (judge_entry (judge_value room)) 0 content)
entries_end room content at previous canonical long h = things_end _ AreCanonicalEntries _ _ _ long _ h.rest h.decides

-- where the entries before are not canonical, it is not said whether the key comes after
tested : (at : ℕ) (previous key : List ℕ) (o : Ordering) → slice_cmp nat_cmp previous key ≡ o → (above : Bool) × IsAbove at previous key above
tested zero previous key o is = (true, inl (refl, refl))
tested (suc at) previous key Less is = (true, inr (omega arith, (λ t. is, λ e. refl)))
tested (suc at) previous key o is = (false, inr (omega arith, (λ t. absurd cc, λ e. absurd cc)))

-- where those before are not canonical, the next one is only read
pub entries_read : (room : ℕ) (content : List ℕ) (at n : ℕ) (previous key : List ℕ) (canonical d : Bool) → at < length content
    → (canonical ≡ true → length content ≤ at)
    → ((above : Bool) → IsAbove at previous key above → EntriesTo room content (at + n) key ((canonical && d) && above))
    → EntriesTo room content (at + n) key canonical
entries_read room content at n previous key true d more ended next = absurd (omega (arith, ended refl, more))
entries_read room content at n previous key false d more ended next = let test = tested at previous key _ refl in next test.0 test.1
