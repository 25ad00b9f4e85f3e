-- What fills a table or an array is what a table or an array with its length holds.
use Rattle.std.proofs.Common.{◌≡◌, ℕ, zero, suc, ◌<◌, ◌≤◌, ◌^◌, List, [], length, Ok, refl, sym, ap, subst, ◌∙◌, append-nil, arith}
use Rattle.std.proofs.lemmas.List.{take_all}
use Rattle.amqp_types.specs.Levels.{plain}
use Rattle.amqp_types.specs.Judging.{IsBytes, took, ◌>>=◌}
use Rattle.amqp_types.specs.Strings.{with_length, judge_long_string}
use Rattle.amqp_types.specs.Settling.{settled}
use Rattle.amqp_types.specs.Values.{FieldValue, Entry}
use Rattle.amqp_types.specs.ValueJudging.{filled, read_map, took_all, judge_entry, judge_value, judge_array, judge_table}
use Rattle.amqp_types.specs.ValueSpelling.{SpellsArray, SpellsTable, SpellsValue}
use Rattle.amqp_types.proofs.Texts.{long_string_exact}
use Rattle.amqp_laws.proofs.Bounded.{value_bounded, array_bounded, table_bounded}
use Rattle.amqp_laws.proofs.Exactly.{value_exact, value_some}
use Rattle.amqp_laws.proofs.Filled.{array_exact, table_exact}
use Rattle.amqp_canonical.specs.Writes.{array_content, table_content}
use Rattle.amqp_entries.specs.Contents.{read_entries, read_values}

-- a length and what it counts are bytes
counted_bytes : (content : List ℕ) → IsBytes content → IsBytes (with_length content)
counted_bytes content fits zero = omega arith
counted_bytes content fits (suc zero) = omega arith
counted_bytes content fits (suc (suc zero)) = omega arith
counted_bytes content fits (suc (suc (suc zero))) = omega arith
counted_bytes content fits (suc (suc (suc (suc i)))) = fits i

-- content behind its length
counted : (content : List ℕ) → length content < 2 ^ 32 → judge_long_string (with_length content) ≡ took content (length (with_length content))
counted content few = ap judge_long_string (sym (append-nil (with_length content)))
    ∙ long_string_exact.taken (with_length content) [] content (record { fits = few; bytes_are = refl })

-- content that is decoded to entries spells a table behind its length
pub table_plain : (room : ℕ) (content : List ℕ) (es : List Entry) → IsBytes content → length content < 2 ^ 32 → read_entries room content ≡ Ok es
    → SpellsTable plain (SpellsValue plain room) (with_length content) (settled es)
unfolding judge_table
table_plain room content es fits few h =
    let bytes = with_length content in
    let n = length bytes in
    let Plain = SpellsValue plain room in
    let exact = table_exact (judge_value room) Plain (value_exact room) (value_some plain room) in
    let read : judge_table (judge_value room) bytes ≡ took (settled es) n =
    ap (λ j. j >>= λ c. took_all c.1 (read_map settled (filled (judge_entry (judge_value room)) 0 c.0))) (counted content few)
    ∙ ap (λ r. took_all n (read_map settled r)) h in
    let one = exact.spelled bytes (settled es) n (counted_bytes content fits) read in
    let P : List ℕ → Type 0 = λ bs. SpellsTable plain Plain bs (settled es) in
    subst P (take_all n bytes (omega arith)) one.0

-- content that is decoded to values spells an array behind its length
pub array_plain : (room : ℕ) (content : List ℕ) (vs : List FieldValue) → IsBytes content → length content < 2 ^ 32 → read_values room content ≡ Ok vs
    → SpellsArray (SpellsValue plain room) (with_length content) vs
unfolding judge_array
array_plain room content vs fits few h =
    let bytes = with_length content in
    let n = length bytes in
    let Plain = SpellsValue plain room in
    let exact = array_exact (judge_value room) Plain (value_exact room) (value_some plain room) in
    let read : judge_array (judge_value room) bytes ≡ took vs n =
    ap (λ j. j >>= λ c. took_all c.1 (filled (judge_value room) 0 c.0)) (counted content few) ∙ ap (took_all n) h in
    let one = exact.spelled bytes vs n (counted_bytes content fits) read in
    let P : List ℕ → Type 0 = λ bs. SpellsArray Plain bs vs in
    subst P (take_all n bytes (omega arith)) one.0

-- canonical content is no longer
pub entries_shorter : (room : ℕ) (content : List ℕ) (es : List Entry) → IsBytes content → length content < 2 ^ 32 → read_entries room content ≡ Ok es
    → length (table_content (settled es)) ≤ length content
entries_shorter room content es fits few h =
    let b = table_bounded room (SpellsValue plain room) (value_bounded room) (with_length content) (settled es) (table_plain room content es fits few h) in
    omega (arith, b.shorter)

-- the canonical content of an array is no longer than its content
pub values_shorter : (room : ℕ) (content : List ℕ) (vs : List FieldValue) → IsBytes content → length content < 2 ^ 32 → read_values room content ≡ Ok vs
    → length (array_content vs) ≤ length content
values_shorter room content vs fits few h =
    let b = array_bounded room (SpellsValue plain room) (value_bounded room) (with_length content) vs (array_plain room content vs fits few h) in
    omega (arith, b.shorter)
