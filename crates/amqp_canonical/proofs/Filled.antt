-- What fills an array or a table, and the length in front of it.
use Rattle.std.proofs.Common.{◌≡◌, ℕ, Bool, List, [], ◌∷◌, ◌++◌, length, take, drop, Result, Ok, refl, sym, ap, subst, ◌∙◌, arith}
use Rattle.std.proofs.lemmas.List.{length-append, drop_at}
use Rattle.amqp_types.specs.Levels.{plain, strict}
use Rattle.amqp_types.specs.Judging.{Fault, Judge, took, IsBytes, IsExact}
use Rattle.amqp_types.specs.Settling.{IsRising, settled}
use Rattle.amqp_types.specs.Strings.{with_length, judge_long_string}
use Rattle.amqp_types.specs.Values.{Entry, values_of, entries_of}
use Rattle.amqp_types.specs.ValueBytes.{values_bytes, entries_bytes}
use Rattle.amqp_types.specs.ValueJudging.{read_map, filled, judge_value, judge_entry, judge_array, judge_table}
use Rattle.amqp_types.specs.ValueSpelling.{SpellsEach, SpellsEntry, SpellsValue}
use Rattle.amqp_types.proofs.Texts.{long_string_exact}
use Rattle.amqp_laws.proofs.Settling.{settles}
use Rattle.amqp_laws.proofs.Filling.{filled_next}
use Rattle.amqp_laws.proofs.Filled.{HasBytes, entry_exact, table_exact, entry_some}
use Rattle.amqp_laws.proofs.Exactly.{value_exact, value_some}
use Rattle.amqp_laws.proofs.Bounded.{value_bounded, table_bounded}
use Rattle.amqp_laws.proofs.Strictly.{each_into, entry_into, table_again, value_again, in_order}
use Rattle.amqp_laws.proofs.ValueLaws.{value_is_plain}
use Rattle.amqp_canonical.specs.Judgements.{AreCanonicalValues, AreCanonicalEntries, IsCanonicalArray, IsCanonicalTable, DecodesAs, Fills}
use Rattle.amqp_canonical.proofs.Children.{decided_as}

-- ---- the length in front

same_inner : (a b : List ℕ) → with_length a ≡ with_length b → a ≡ b
same_inner a b h = ap (drop 4) h

-- ---- what is read back

filled_taken : {A : Type 0} (item : Judge A) (Spells : List ℕ → A → Type 0) → IsExact item Spells
    → HasBytes Spells → (bytes : List ℕ) (xs : List A) → SpellsEach Spells bytes xs → filled item 0 bytes ≡ Ok xs
unfolding filled
filled_taken item Spells exact some bytes [] h = ap (filled item 0) h
filled_taken item Spells exact some bytes (x ∷ xs) h =
    let here = h.0 in
    let behind = h.1 in
    let up = some here x h.3 in
    let next =
    filled_next item (here ++ behind) x (length here) (omega (arith, length-append here behind))
    (exact.taken here behind x h.3) up (omega (arith, length-append here behind)) in
    ap (filled item 0) h.2 ∙ next ∙ ap (λ bs. read_map (λ ys. x ∷ ys) (filled item 0 bs)) (drop_at here behind (length here) refl)
    ∙ ap (read_map (λ ys. x ∷ ys)) (filled_taken item Spells exact some behind xs h.4)

-- a table that was taken is read back from its canonical entries
read_back : (room : ℕ) (bytes : List ℕ) (es : List Entry) (n : ℕ) → IsBytes bytes → judge_table (judge_value room) bytes ≡ took es n
    → filled (judge_entry (judge_value room)) 0 (entries_bytes (entries_of es)) ≡ Ok es
read_back room bytes es n fits h =
    let Plain = SpellsValue plain room in
    let Strict = SpellsValue strict room in
    let tables = table_exact (judge_value room) Plain (value_exact room) (value_some plain room) in
    let one = tables.spelled bytes es n fits h in
    let b = table_bounded room Plain (value_bounded room) (take n bytes) es one.0 in
    let st = table_again Plain Strict (value_again room) (take n bytes) es b.not_long one.0 in
    let each =
    each_into (SpellsEntry Strict) (SpellsEntry Plain) (entry_into Strict Plain (λ bs v s. value_is_plain strict room bs v s)) st.inner st.entries st.each in
    let inner : entries_bytes (entries_of es) ≡ st.inner = same_inner (entries_bytes (entries_of es)) st.inner st.framed.bytes_are in
    ap (filled (judge_entry (judge_value room)) 0) inner
    ∙ filled_taken (judge_entry (judge_value room)) (SpellsEntry Plain)
    (entry_exact (judge_value room) Plain (value_exact room)) (entry_some Plain) st.inner st.entries each
    ∙ ap Ok st.once

ok_is : {A : Type 0} (r : Result A Fault) (x y : A) → r ≡ Ok x → r ≡ Ok y → x ≡ y
ok_is r x y h k = cc

-- ---- arrays and tables

module _ (room : ℕ) (bytes content : List ℕ) (n : ℕ) (canonical : Bool) (fits : IsBytes bytes) (is : judge_long_string bytes ≡ took content n) where
  front : take n bytes ≡ with_length content
  front = (long_string_exact.spelled bytes content n fits is).0.bytes_are

  -- An array takes its content with the length, and is canonical exactly where the values are.
  pub array_took : Fills AreCanonicalValues canonical content (filled (judge_value room) 0 content)
      → DecodesAs IsCanonicalArray (record { used = n; canonical = canonical }) bytes (judge_array (judge_value room) bytes)
  unfolding judge_array
  array_took h = record {
    thing = h.thing;
    is = rw (is, h.is);
    decides = decided_as _ _ _ h.decides (λ e. front ∙ ap with_length e) (λ q. same_inner content (values_bytes (values_of h.thing)) (sym front ∙ q));
  }

  -- A table takes its content with the length, and is canonical exactly where the entries are, in ascending key order.
  pub table_took : Fills AreCanonicalEntries canonical content (filled (judge_entry (judge_value room)) 0 content)
      → DecodesAs IsCanonicalTable (record { used = n; canonical = canonical }) bytes (judge_table (judge_value room) bytes)
  unfolding judge_table
  table_took h =
      let es = h.thing in
      let judged : judge_table (judge_value room) bytes ≡ took (settled es) n = rw (is, h.is) in
      record {
        thing = settled es;
        is = judged;
        decides =
            decided_as _ _ _ h.decides (λ p. front ∙ ap with_length (p.0 ∙ ap (λ xs. entries_bytes (entries_of xs)) (sym (in_order [] es p.1)))) (λ q.
            let inner : content ≡ entries_bytes (entries_of (settled es)) = same_inner content _ (sym front ∙ q) in
            let same : es ≡ settled es =
            ok_is (filled (judge_entry (judge_value room)) 0 content) es (settled es) h.is (rw inner (read_back room bytes (settled es) n fits judged)) in
            (inner ∙ ap (λ xs. entries_bytes (entries_of xs)) (sym same), subst (λ xs. IsRising xs) (sym same) (settles es).rising));
      }
