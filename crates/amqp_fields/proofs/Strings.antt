-- What strings are listed as: by what stands at the front of the bytes.
use Rattle.std.proofs.Common.{nat_lt, length-drop, length-take-le, ◌≡◌, ℕ, ◌+◌, ◌-◌, ◌≤◌, ◌<◌, Bool, true, false, cond, List, [], ◌∷◌, length, get_or, take}
use Rattle.std.proofs.Common.{drop, refl, sym, ap, ◌∙◌, one-add, arith}
use Rattle.std.specs.Str.{is_utf8}
use Rattle.amqp_fields.proofs.Names.{nat_tests, guard_took, test_took, value_took, count_took, Judge, Judged, took, past, fault, ◌>>=◌}
use Rattle.amqp_fields.proofs.Names.{judge_short_string, judge_long_string, IsRead, key_in, after_key, Node, Step, spanned, Grows, listing, listed_span}
use Rattle.amqp_fields.proofs.Names.{end_before, Lists}
use Rattle.amqp_fields.proofs.Spans.{long_part}

-- what a short string is that was read
pub record IsKey (i key : List ℕ) (used : ℕ) : Type 0 where
  pub key_is : key ≡ key_in i
  pub used_is : used ≡ 1 + length key
  pub rest_is : drop used i ≡ after_key i

key_took : (n : ℕ) (bytes key : List ℕ) (used : ℕ) → judge_short_string (n ∷ bytes) ≡ took key used → IsKey (n ∷ bytes) key used
unfolding judge_short_string
key_took n bytes key used h =
    let within = guard_took (nat_lt (length bytes) n) _ _ _ h in
    let few : n ≤ length bytes = let e = within.0 in grind (arith, nat_tests) in
    let text = test_took (is_utf8 (take n bytes)) _ _ _ _ within.1 in
    let is = value_took _ _ _ _ text.1 in
    let count = count_took _ _ _ _ text.1 in
    record {
      key_is = sym is;
      used_is = sym count ∙ ap (λ k. 1 + k) (sym (length-take-le n bytes few) ∙ ap length is);
      rest_is = ap (λ k. drop k (n ∷ bytes)) (sym count ∙ one-add n);
    }

-- a short string that is read is the key in front
pub is_key : (i key : List ℕ) (used : ℕ) → judge_short_string i ≡ took key used → IsKey i key used
unfolding judge_short_string
is_key [] key used h = absurd cc
is_key (n ∷ bytes) key used h = key_took n bytes key used h

-- ---- where there is no short string, by its length

guarded : {A : Type 0} (short : Bool) (j : Judged A) → short ≡ true → IsRead (cond short past j) → ⊥
guarded true j h read = read
guarded false j h read = absurd cc

-- where there is no byte, no short string is read
pub no_length : (i : List ℕ) → length i < 1 → IsRead (judge_short_string i) → ⊥
unfolding judge_short_string
no_length [] few read = read
no_length (n ∷ bytes) few read = absurd (omega arith)

-- where its bytes are not all there, no short string is read
pub too_short : (i : List ℕ) → 1 ≤ length i → length (drop 1 i) < get_or i 0 0 → IsRead (judge_short_string i) → ⊥
unfolding judge_short_string
too_short [] some far read = read
too_short (n ∷ bytes) some far read = guarded (nat_lt (length bytes) n) _ (grind (arith, nat_tests)) read

-- ---- what is listed

-- a short string is listed by its span
pub short_listed : (end at count more : ℕ) (label node : Node) (i : List ℕ) (old new : List Node) → 1 ≤ length i → get_or i 0 0 ≤ length (drop 1 i)
    → at ≡ end - length (drop (get_or i 0 0) (drop 1 i)) → node ≡ spanned label at (take (get_or i 0 0) (drop 1 i))
    → Grows (listing old count) (listing new more) (node ∷ [])
    → Lists (listed_span judge_short_string end label i) old count new (record { used = 1 + get_or i 0 0; count = more })
unfolding listed_span
short_listed end at count more label node [] old new some few place one h = absurd (omega arith)
short_listed end at count more label node (n ∷ bytes) old new some few place one h = by_key (judge_short_string (n ∷ bytes)) (is_key (n ∷ bytes))
  where
    by_key : (j : Judged (List ℕ)) → ((key : List ℕ) (m : ℕ) → j ≡ took key m → IsKey (n ∷ bytes) key m)
        → Lists (j >>= λ x. took (spanned label (end_before end (drop x.1 (n ∷ bytes))) x.0 ∷ []) x.1) old count new (record { used = 1 + n; count = more })
    by_key (took key m) each =
        let k = each key m refl in
        let it : node ≡ spanned label (end_before end (drop m (n ∷ bytes))) key = one ∙ rw (place, ← k.rest_is, ← k.key_is) refl in
        (omega (arith, k.used_is, ap length k.key_is, length-take-le n bytes few), rw it at h)
    by_key j each = tt

-- a long string takes 4 bytes more than it has
pub long_size : (i content : List ℕ) (used : ℕ) → judge_long_string i ≡ took content used → used ≡ 4 + length content
long_size i content used h = let part = long_part i _ _ h in part.used_is

-- a long string is listed by its span
pub long_listed : (end : ℕ) (label node : Node) (i content : List ℕ) (used count more : ℕ) (old new : List Node)
    → judge_long_string i ≡ took content used → node ≡ spanned label (end - (length i - (4 + length content))) content
    → Grows (listing old count) (listing new more) (node ∷ [])
    → Lists (listed_span judge_long_string end label i) old count new (record { used = used; count = more })
unfolding listed_span
long_listed end label node i content used count more old new is one h =
    let place : end - (length i - (4 + length content)) ≡ end_before end (drop used i) = omega (arith, long_size i content used is, length-drop used i) in
    let it : node ≡ spanned label (end_before end (drop used i)) content = one ∙ ap (λ e. spanned label e content) place in
    rw is (refl, rw it at h)

-- where nothing was read, nothing needs to be listed
pub not_listed : {A : Type 0} (j : Judged A) (f : A × ℕ → Judged (List Node)) (old new : List Node) (count : ℕ) (step : Step)
    → (IsRead j → ⊥) → Lists (j >>= f) old count new step
not_listed (took x n) f old new count step h = absurd (h tt)
not_listed past f old new count step h = tt
not_listed (fault bad) f old new count step h = tt

-- the same of a span
pub unlisted : (judge : Judge (List ℕ)) (end : ℕ) (label : Node) (i : List ℕ) (old new : List Node) (count : ℕ) (step : Step)
    → (IsRead (judge i) → ⊥) → Lists (listed_span judge end label i) old count new step
unfolding listed_span
unlisted judge end label i old new count step h = not_listed (judge i) _ old new count step h
