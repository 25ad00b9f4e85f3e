-- What fills a table or an array is read as it is encoded.
use Rattle.std.proofs.Common.{◌≡◌, ℕ, zero, suc, ◌-◌, ◌<◌, ◌≤◌, List, [], ◌∷◌, ◌++◌, length, get_or, take, drop, Result, Ok, Err}
use Rattle.std.proofs.Common.{refl, sym, ap, subst, ◌∙◌, arith}
use Rattle.std.proofs.lemmas.List.{length-append, length-take-le, drop_at, take-append-drop}
use Rattle.amqp_types.specs.Levels.{plain}
use Rattle.amqp_types.specs.Judging.{Fault, Judged, Judge, took, past, fault, ◌>>=◌, IsBytes, IsExact}
use Rattle.amqp_types.specs.Strings.{judge_short_string, judge_long_string, SpellsShortString, SpellsLongString}
use Rattle.amqp_types.specs.Values.{FieldValue, Entry}
use Rattle.amqp_types.specs.Settling.{settled, IsSettled}
use Rattle.amqp_types.specs.ValueJudging.{filled, next_item, read_map, took_all, judge_entry, judge_array, judge_table}
use Rattle.amqp_types.specs.ValueSpelling.{SpellsEach, SpellsEntry, SpellsArray, SpellsTable}
use Rattle.amqp_types.proofs.Bytes.{IsBytes-take}
use Rattle.amqp_types.proofs.Sequences.{both_exact}
use Rattle.amqp_types.proofs.Texts.{short_string_exact, long_string_exact}
use Rattle.amqp_types.proofs.Took.{bind_took, value_took, count_took}
use Rattle.amqp_laws.proofs.Filling.{filled_next}
use Rattle.amqp_laws.proofs.Settling.{settles, settled_is}

-- ---- what the steps took
pub whole_took : {A : Type 0} (k : ℕ) (r : Result A Fault) (x : A) (n : ℕ) → took_all k r ≡ took x n → (r ≡ Ok x) × (k ≡ n)
whole_took k (Ok y) x n h = (ap Ok (value_took y x k n h), count_took y x k n h)
whole_took k (Err bad) x n h = cc

-- What is made of a result that was read is made of what was read.
pub map_ok : {A B : Type 0} (f : A → B) (r : Result A Fault) (y : B) → read_map f r ≡ Ok y → (x : A) × (r ≡ Ok x) × (f x ≡ y)
map_ok f (Ok x) y h = (x, refl, cc)
map_ok f (Err bad) y h = cc

next_ok : {A : Type 0} (j : Judged A) (others : ℕ → Result (List A) Fault) (ys : List A)
    → next_item j others ≡ Ok ys → (x : A) × (n : ℕ) × (j ≡ took x n) × (read_map (λ xs. x ∷ xs) (others n) ≡ Ok ys)
next_ok (took x n) others ys h = (x, n, refl, h)
next_ok past others ys h = cc
next_ok (fault bad) others ys h = cc

-- each thing is encoded by one byte at least
abbrev pub HasBytes : {A : Type 0} → (List ℕ → A → Type 0) → Type 0
HasBytes {A} Spells = (bytes : List ℕ) (x : A) → Spells bytes x → 0 < length bytes

module _ {A : Type 0} (item : Judge A) (Spells : List ℕ → A → Type 0) (exact : IsExact item Spells) (some : HasBytes Spells) where
  filled_spelled : (k : ℕ) (bytes : List ℕ) (xs : List A) → IsBytes bytes → k ≤ length bytes → filled item k bytes ≡ Ok xs → SpellsEach Spells (drop k bytes) xs
  unfolding filled
  filled_spelled zero [] xs fits le h = let e : [] ≡ xs = cc in let P : List A → Type 0 = λ ys. SpellsEach Spells [] ys in subst P e refl
  filled_spelled (suc k) [] xs fits le h = absurd (omega arith)
  filled_spelled (suc k) (b ∷ bytes) xs fits le h = filled_spelled k bytes xs (λ i. fits (suc i)) (omega arith) h
  filled_spelled zero (b ∷ bytes) xs fits le h =
      let j = next_ok (item (b ∷ bytes)) _ xs h in
      let one = exact.spelled (b ∷ bytes) j.0 j.1 fits j.2 in
      let up : 0 < j.1 = omega (arith, some (take j.1 (b ∷ bytes)) j.0 one.0, length-take-le j.1 (b ∷ bytes) one.1) in
      let r = map_ok (λ ys. j.0 ∷ ys) (filled item (j.1 - 1) bytes) xs j.3 in
      let more = filled_spelled (j.1 - 1) bytes r.0 (λ i. fits (suc i)) (omega (arith, one.1, up)) r.1 in
      let same : suc (j.1 - 1) ≡ j.1 = omega (arith, up) in
      let P : List A → Type 0 = λ ys. SpellsEach Spells (b ∷ bytes) ys in
      let parts : b ∷ bytes ≡ take j.1 (b ∷ bytes) ++ drop (j.1 - 1) bytes =
      sym (take-append-drop (suc (j.1 - 1)) (b ∷ bytes)) ∙ ap (λ k. take k (b ∷ bytes) ++ drop (j.1 - 1) bytes) same in
      subst P r.2 (take j.1 (b ∷ bytes), drop (j.1 - 1) bytes, parts, one.0, more)

  filled_taken : (bytes : List ℕ) (xs : List A) → SpellsEach Spells bytes xs → filled item 0 bytes ≡ Ok xs
  unfolding filled
  filled_taken bytes [] h = ap (filled item 0) h
  filled_taken bytes (x ∷ xs) h =
      let here = h.0 in
      let behind = h.1 in
      let up = some here x h.3 in
      let next =
      filled_next item (here ++ behind) x (length here) (omega (arith, length-append here behind))
      (exact.taken here behind x h.3) up (omega (arith, length-append here behind)) in
      ap (filled item 0) h.2 ∙ next ∙ ap (λ bs. read_map (λ ys. x ∷ ys) (filled item 0 bs)) (drop_at here behind (length here) refl)
      ∙ ap (read_map (λ ys. x ∷ ys)) (filled_taken behind xs h.4)

-- what stands after a length is bytes too
inner_fits : (bytes inner : List ℕ) (n : ℕ) → IsBytes bytes → SpellsLongString (take n bytes) inner → IsBytes inner
inner_fits bytes inner n fits long i =
    let P : ℕ → Type 0 = λ k. k < 256 in
    subst P (ap (λ bs. get_or bs (suc (suc (suc (suc i)))) 0) long.bytes_are) (IsBytes-take n bytes fits (suc (suc (suc (suc i)))))

-- Decoding an entry is exact where decoding its value is.
pub entry_exact : (value : Judge FieldValue) (Spells : List ℕ → FieldValue → Type 0) → IsExact value Spells → IsExact (judge_entry value) (SpellsEntry Spells)
unfolding judge_entry
entry_exact value Spells exact = both_exact judge_short_string value (λ k v. (k, v)) SpellsShortString Spells short_string_exact exact

-- The encoding of an entry has at least one byte, the length of its key.
pub entry_some : (Spells : List ℕ → FieldValue → Type 0) → HasBytes (SpellsEntry Spells)
entry_some Spells bytes e h = omega (arith, ap length h.bytes_are, length-append h.front h.behind, ap length h.first_is.bytes_are)

module _ (value : Judge FieldValue) (Spells : List ℕ → FieldValue → Type 0) (exact : IsExact value Spells) (some : HasBytes Spells) where
  array_spelled : (bytes : List ℕ) (vs : List FieldValue) (n : ℕ) → IsBytes bytes
      → judge_array value bytes ≡ took vs n → SpellsArray Spells (take n bytes) vs × (n ≤ length bytes)
  unfolding judge_array
  array_spelled bytes vs n fits h =
      let content = bind_took (judge_long_string bytes) _ vs n h in
      let framed = long_string_exact.spelled bytes content.0 content.1 fits content.2 in
      let w = whole_took content.1 (filled value 0 content.0) vs n content.3 in
      let all = filled_spelled value Spells exact some 0 content.0 vs (inner_fits bytes content.0 content.1 fits framed.0) (omega arith) w.0 in
      let P : ℕ → Type 0 = λ m. SpellsLongString (take m bytes) content.0 in
      (record { inner = content.0; framed = subst P w.1 framed.0; each = all }, omega (arith, framed.1, w.1))

  array_taken : (bytes rest : List ℕ) (vs : List FieldValue) → SpellsArray Spells bytes vs → judge_array value (bytes ++ rest) ≡ took vs (length bytes)
  unfolding judge_array
  array_taken bytes rest vs h =
      ap (λ j. j >>= λ c. took_all c.1 (filled value 0 c.0)) (long_string_exact.taken bytes rest h.inner h.framed)
      ∙ ap (took_all (length bytes)) (filled_taken value Spells exact some h.inner vs h.each)

  -- Decoding an array is exact where decoding its values is.
  pub array_exact : IsExact (judge_array value) (SpellsArray Spells)
  array_exact = record { spelled = array_spelled; taken = array_taken }

  table_spelled : (bytes : List ℕ) (es : List Entry) (n : ℕ) → IsBytes bytes
      → judge_table value bytes ≡ took es n → SpellsTable plain Spells (take n bytes) es × (n ≤ length bytes)
  unfolding judge_table
  table_spelled bytes es n fits h =
      let content = bind_took (judge_long_string bytes) _ es n h in
      let framed = long_string_exact.spelled bytes content.0 content.1 fits content.2 in
      let w = whole_took content.1 (read_map settled (filled (judge_entry value) 0 content.0)) es n content.3 in
      let read = map_ok settled (filled (judge_entry value) 0 content.0) es w.0 in
      let all =
      filled_spelled (judge_entry value) (SpellsEntry Spells) (entry_exact value Spells exact)
      (entry_some Spells) 0 content.0 read.0 (inner_fits bytes content.0 content.1 fits framed.0) (omega arith) read.1 in
      let P : ℕ → Type 0 = λ m. SpellsLongString (take m bytes) content.0 in
      let Q : List Entry → Type 0 = λ fs. IsSettled fs read.0 in (
        record { inner = content.0; entries = read.0; framed = subst P w.1 framed.0; each = all; counts = subst Q read.2 (settles read.0); once = tt },
        omega (arith, framed.1, w.1),
      )

  table_taken : (bytes rest : List ℕ) (es : List Entry) → SpellsTable plain Spells bytes es → judge_table value (bytes ++ rest) ≡ took es (length bytes)
  unfolding judge_table
  table_taken bytes rest es h =
      let read = filled_taken (judge_entry value) (SpellsEntry Spells) (entry_exact value Spells exact) (entry_some Spells) h.inner h.entries h.each in
      ap (λ j. j >>= λ c. took_all c.1 (read_map settled (filled (judge_entry value) 0 c.0))) (long_string_exact.taken bytes rest h.inner h.framed)
      ∙ ap (λ r. took_all (length bytes) (read_map settled r)) read
      ∙ ap (λ x. took x (length bytes)) (settled_is h.entries es h.counts)

  -- Decoding a table is exact at level plain where decoding its values is.
  pub table_exact : IsExact (judge_table value) (SpellsTable plain Spells)
  table_exact = record { spelled = table_spelled; taken = table_taken }
