-- What is decoded again of bytes that were decoded before.
use Rattle.std.proofs.lemmas.Grind.{common_steps}
use Rattle.std.proofs.Common.{◌≡◌, ℕ, ◌+◌, ◌<◌, List, length, get_or, drop, Some, None, Result, Err, sym, ap, ◌∙◌, arith}
use Rattle.amqp_types.specs.Judging.{Judged, Fault, took, ◌>>=◌, IsBytes}
use Rattle.amqp_types.specs.Answers.{AnswersFully}
use Rattle.amqp_types.specs.Settling.{settled}
use Rattle.amqp_types.specs.Strings.{judge_short_string, judge_long_string}
use Rattle.amqp_types.specs.Tags.{tag_at}
use Rattle.amqp_types.specs.Values.{FieldValue, Entry}
use Rattle.amqp_types.specs.ValueJudging.{took_all, read_map, filled, judge_entry, judge_array, judge_table, judge_behind, judge_value, nested}
use Rattle.amqp_types.specs.declared.errors.ParserError.{ParserError}
use Rattle.amqp_types.specs.declared.tag.FieldTag.{FieldTag}
use Rattle.amqp_canonical.specs.Marks.{AreEntries, entries_in}
use Rattle.amqp_canonical.specs.Writes.{IsRead, IsFilled, items_of}
use Rattle.amqp_canonical.proofs.AfterTag.{judged_tag}
use Rattle.amqp_canonical.proofs.ReadParts.{is_read, unread, first_value, none_filled}
use Rattle.amqp_canonical.proofs.Refusing.{fully}
use Rattle.amqp_lent.specs.Finding.{StartsWith}
use Rattle.amqp_lent.specs.Views.{taken}
use Rattle.amqp_types.specs.Tidiness.{used_by}

-- what is refused first is refused, whatever was to follow
pub fully_next : {A B C D : Type 0} (view : A → C) (other : B → D) (error : ParserError) (j : Judged C) (f : C × ℕ → Judged D)
    → AnswersFully view (Err error) j → AnswersFully other (Err error) (j >>= f)
fully_next view other error j f h = grind (arith, common_steps)

-- nothing that was read is refused
pub never_refused : {A B : Type 0} (view : A → B) (error : ParserError) (j : Judged B) → AnswersFully view (Err error) j → IsRead j → ⊥
never_refused view error j h read = unread error j (fully view error j h) read

pub taken_of : {A : Type 0} (j : Judged A) (x : A) (n : ℕ) → j ≡ took x n → Some x ≡ taken j
taken_of j x n h = sym (ap (λ k. taken k) h)

-- ---- what arrays and tables hold

whole_filled : {A : Type 0} (r : Result (List A) Fault) (n : ℕ) → IsRead (took_all n r) → IsFilled r × (took_all n r ≡ took (items_of r) n)
whole_filled r n h = grind (arith, common_steps)

whole_settled : (r : Result (List Entry) Fault) (n : ℕ) → IsRead (took_all n (read_map settled r))
    → IsFilled r × (took_all n (read_map settled r) ≡ took (settled (items_of r)) n)
whole_settled r n h = grind (arith, common_steps)

-- an array that was read is the values that fill its content
pub array_taken : (room : ℕ) (bytes content : List ℕ) (n : ℕ) → judge_long_string bytes ≡ took content n → IsRead (judge_array (judge_value room) bytes)
    → IsFilled (filled (judge_value room) 0 content) × (judge_array (judge_value room) bytes ≡ took (items_of (filled (judge_value room) 0 content)) n)
unfolding judge_array
array_taken room bytes content n is h = grind (arith, common_steps)

-- The content of a decoded table is entries, and the table is these entries settled.
pub table_taken : (room : ℕ) (bytes content : List ℕ) (n : ℕ) → judge_long_string bytes ≡ took content n → IsRead (judge_table (judge_value room) bytes)
    → AreEntries room content × (judge_table (judge_value room) bytes ≡ took (settled (entries_in room content)) n)
unfolding judge_table
table_taken room bytes content n is h = grind (arith, common_steps)

-- ---- values and entries

-- a value is what its tag says, and a count of one more
pub value_took : (room : ℕ) (bytes : List ℕ) (t : FieldTag) (v : FieldValue) (n : ℕ) → 0 < length bytes
    → tag_at (get_or bytes 0 0) ≡ Some t → judge_behind (nested room) t (drop 1 bytes) ≡ took v n → judge_value room bytes ≡ took v (1 + n)
value_took room bytes t v n some is h = judged_tag room bytes (Some t) some is ∙ ap (λ j. j >>= λ w. took w.0 (1 + w.1)) h

-- the value after the key of an entry that was read
pub entry_value : (room : ℕ) (bytes key : List ℕ) (n : ℕ) → judge_short_string bytes ≡ took key n
    → IsRead (judge_entry (judge_value room) bytes) → IsRead (judge_value room (drop n bytes))
unfolding judge_entry
entry_value room bytes key n is h = grind (arith, common_steps)

-- Where a key is taken, and a value after it, both are taken as an entry.
pub entry_took : (room : ℕ) (bytes key : List ℕ) (v : FieldValue) (n m : ℕ) → judge_short_string bytes ≡ took key n
    → judge_value room (drop n bytes) ≡ took v m → judge_entry (judge_value room) bytes ≡ took (key, v) (n + m)
unfolding judge_entry
entry_took room bytes key v n m one two = grind (arith, common_steps)

-- ---- the first of the values in an array

pub record FirstItem (room : ℕ) (content : List ℕ) (n : ℕ) : Type 0 where
  pub value : FieldValue
  pub read : IsRead (judge_value room content)
  pub is : Some value ≡ taken (judge_value room content)
  pub left : IsFilled (filled (judge_value room) 0 (drop n content))
  pub starts : StartsWith room content (Some (value, drop n content))

-- Where the content of an array is values, and not empty, the first one is decoded again, and those after it are values.
pub item_here : (room : ℕ) (content : List ℕ) (n : ℕ) → IsBytes content → 0 < length content → IsFilled (filled (judge_value room) 0 content)
    → (IsRead (judge_value room content) → n ≡ used_by (judge_value room content)) → FirstItem room content n
item_here room content n fits some h sized = grind (arith, common_steps, first_value, is_read, taken_of)

-- An empty content has no first value.
pub no_item : (room : ℕ) (content : List ℕ) → length content ≡ 0 → StartsWith room content None
no_item room content none = none_filled (judge_value room) content 0 (omega (arith, none))
