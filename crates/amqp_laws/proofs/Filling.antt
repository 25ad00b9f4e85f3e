-- What fills a table or an array, read item by item.
use Rattle.std.proofs.Common.{◌≡◌, ℕ, zero, suc, ◌-◌, ◌<◌, ◌≤◌, List, [], ◌∷◌, ◌++◌, length, drop, Some, None, Result, Ok, Err, refl, sym, ap}
use Rattle.std.proofs.Common.{◌∙◌, append_assoc, arith, subst}
use Rattle.std.specs.Ordering.{nat_cmp}
use Rattle.std.specs.Cmp.Lexicographic.{slice_cmp}
use Rattle.std.specs.BTreeMap.{insert_entry}
use Rattle.amqp_types.specs.Values.{Entry}
use Rattle.amqp_types.specs.Judging.{Fault, Judge, took}
use Rattle.amqp_types.specs.Answers.{Refuses, RefusesWhole}
use Rattle.amqp_types.specs.ValueJudging.{next_item, read_map, filled, took_all, nested, judge_value, inside_error}
use Rattle.amqp_types.specs.Settling.{settled_on}
use Rattle.amqp_types.specs.declared.errors.ParserError.{ParserError}
use Rattle.amqp_types.specs.declared.errors.ParserError.TheVariants as errors

-- An error that says why the inside of a table or an array is not read says so of the whole.
pub refuses_whole : {A : Type 0} (error : ParserError) (n : ℕ) (r : Result A Fault) → RefusesWhole error r → Refuses error (took_all n r)
refuses_whole errors.Incomplete n r h = absurd h
refuses_whole errors.UnknownFrameType n r h = ap (took_all n) h
refuses_whole errors.BadProtocolHeader n r h = ap (took_all n) h
refuses_whole errors.BadFrameEnd n r h = ap (took_all n) h
refuses_whole errors.UnknownClass n r h = ap (took_all n) h
refuses_whole errors.UnknownMethod n r h = ap (took_all n) h
refuses_whole errors.ShortPayload n r h = ap (took_all n) h
refuses_whole errors.TrailingBytes n r h = ap (took_all n) h
refuses_whole errors.NotUtf8 n r h = ap (took_all n) h
refuses_whole errors.UnknownTag n r h = ap (took_all n) h
refuses_whole errors.TooDeep n r h = ap (took_all n) h
refuses_whole errors.NoMemory n r h = tt

-- Where no table or array may nest, none is decoded.
pub nested_none : (room : ℕ) → room ≡ 0 → nested room ≡ None
unfolding nested
nested_none zero h = refl
nested_none (suc room) h = absurd (omega arith)

-- Where tables and arrays may nest, what is inside of one is decoded with one level less.
pub nested_more : (room : ℕ) → 0 < room → nested room ≡ Some (judge_value (room - 1))
unfolding nested judge_value
nested_more zero h = absurd (omega arith)
nested_more (suc room) h = let e : suc room - 1 ≡ room = omega arith in rw e

module _ {A : Type 0} (item : Judge A) where
  pub filled_skip : (k : ℕ) (bytes : List ℕ) → k ≤ length bytes → filled item k bytes ≡ filled item 0 (drop k bytes)
  unfolding filled
  filled_skip zero bytes h = refl
  filled_skip (suc k) [] h = absurd (omega arith)
  filled_skip (suc k) (b ∷ bytes) h = filled_skip k bytes (omega arith)

  -- Content whose first item is read is filled with that item and with what fills the rest.
  pub filled_next : (bytes : List ℕ) (x : A) (n : ℕ) → 0 < length bytes → item bytes ≡ took x n → 0 < n
      → n ≤ length bytes → filled item 0 bytes ≡ read_map (λ xs. x ∷ xs) (filled item 0 (drop n bytes))
  unfolding filled
  filled_next [] x n some is up le = absurd (omega arith)
  filled_next (b ∷ bytes) x zero some is up le = absurd (omega arith)
  filled_next (b ∷ bytes) x (suc n) some is up le =
      let e : suc n - 1 ≡ n = omega arith in
      ap (λ j. next_item j (λ m. filled item (m - 1) bytes)) is ∙ ap (λ m. read_map (λ xs. x ∷ xs) (filled item m bytes)) e
      ∙ ap (read_map (λ xs. x ∷ xs)) (filled_skip n bytes (omega arith))

  -- Content whose first item is refused is refused for the same reason, where an incomplete item is a payload too short.
  pub filled_refused : (e : ParserError) (bytes : List ℕ) → 0 < length bytes → Refuses e (item bytes) → RefusesWhole (inside_error e) (filled item 0 bytes)
  unfolding filled
  filled_refused e [] some h = absurd (omega arith)
  filled_refused errors.Incomplete (b ∷ bytes) some h = ap (λ j. next_item j (λ m. filled item (m - 1) bytes)) h
  filled_refused errors.UnknownFrameType (b ∷ bytes) some h = ap (λ j. next_item j (λ m. filled item (m - 1) bytes)) h
  filled_refused errors.BadProtocolHeader (b ∷ bytes) some h = ap (λ j. next_item j (λ m. filled item (m - 1) bytes)) h
  filled_refused errors.BadFrameEnd (b ∷ bytes) some h = ap (λ j. next_item j (λ m. filled item (m - 1) bytes)) h
  filled_refused errors.UnknownClass (b ∷ bytes) some h = ap (λ j. next_item j (λ m. filled item (m - 1) bytes)) h
  filled_refused errors.UnknownMethod (b ∷ bytes) some h = ap (λ j. next_item j (λ m. filled item (m - 1) bytes)) h
  filled_refused errors.ShortPayload (b ∷ bytes) some h = ap (λ j. next_item j (λ m. filled item (m - 1) bytes)) h
  filled_refused errors.TrailingBytes (b ∷ bytes) some h = ap (λ j. next_item j (λ m. filled item (m - 1) bytes)) h
  filled_refused errors.NotUtf8 (b ∷ bytes) some h = ap (λ j. next_item j (λ m. filled item (m - 1) bytes)) h
  filled_refused errors.UnknownTag (b ∷ bytes) some h = ap (λ j. next_item j (λ m. filled item (m - 1) bytes)) h
  filled_refused errors.TooDeep (b ∷ bytes) some h = ap (λ j. next_item j (λ m. filled item (m - 1) bytes)) h
  filled_refused errors.NoMemory (b ∷ bytes) some h = tt

-- An error that says why something is not read says so of what would be made of it.
pub RefusesWhole-map : {A B : Type 0} (e : ParserError) (f : A → B) (r : Result A Fault) → RefusesWhole e r → RefusesWhole e (read_map f r)
RefusesWhole-map errors.Incomplete f r h = h
RefusesWhole-map errors.UnknownFrameType f r h = ap (read_map f) h
RefusesWhole-map errors.BadProtocolHeader f r h = ap (read_map f) h
RefusesWhole-map errors.BadFrameEnd f r h = ap (read_map f) h
RefusesWhole-map errors.UnknownClass f r h = ap (read_map f) h
RefusesWhole-map errors.UnknownMethod f r h = ap (read_map f) h
RefusesWhole-map errors.ShortPayload f r h = ap (read_map f) h
RefusesWhole-map errors.TrailingBytes f r h = ap (read_map f) h
RefusesWhole-map errors.NotUtf8 f r h = ap (read_map f) h
RefusesWhole-map errors.UnknownTag f r h = ap (read_map f) h
RefusesWhole-map errors.TooDeep f r h = ap (read_map f) h
RefusesWhole-map errors.NoMemory f r h = tt

-- what was read before, and what is still read
abbrev pub after : {A : Type 0} → List A → Result (List A) Fault → Result (List A) Fault
after front read = read_map (λ xs. front ++ xs) read

after_one : {A : Type 0} (front : List A) (x : A) (read : Result (List A) Fault) → after front (read_map (λ xs. x ∷ xs) read) ≡ after (front ++ x ∷ []) read
after_one front x (Ok xs) = ap Ok (sym (append_assoc front (x ∷ []) xs))
after_one front x (Err f) = refl

-- What is read after no items is what is read.
pub after_none : {A : Type 0} (read : Result (List A) Fault) → after [] read ≡ read
after_none (Ok xs) = refl
after_none (Err f) = refl

settled_one : (found : List Entry) (e : Entry) (read : Result (List Entry) Fault)
    → read_map (settled_on found) (read_map (λ es. e ∷ es) read) ≡ read_map (settled_on (insert_entry (slice_cmp nat_cmp) found e.0 e.1)) read
settled_one found e (Ok es) = refl
settled_one found e (Err f) = refl

module _ {A B : Type 0} (item : Judge A) where
  -- what is refused at the place of an item is refused of all
  pub refused_at : (f : List A → B) (e e' : ParserError) (bytes : List ℕ) (total : Result B Fault) → 0 < length bytes
      → e' ≡ inside_error e → Refuses e (item bytes) → read_map f (filled item 0 bytes) ≡ total → RefusesWhole e' total
  refused_at f e e' bytes total some is h so_far =
      let P : Result B Fault → Type 0 = λ r. RefusesWhole e' r in
      subst P so_far (rw is (RefusesWhole-map (inside_error e) f (filled item 0 bytes) (filled_refused item e bytes some h)))

-- Items in front and the rest of the content give the same list after one more item has been read.
pub goes_on : {A : Type 0} (item : Judge A) (front : List A) (x : A) (n : ℕ) (bytes : List ℕ) (total : Result (List A) Fault)
    → 0 < length bytes → item bytes ≡ took x n → 0 < n → n ≤ length bytes
    → after front (filled item 0 bytes) ≡ total → after (front ++ x ∷ []) (filled item 0 (drop n bytes)) ≡ total
goes_on item front x n bytes total some is up le so_far =
    sym (after_one front x (filled item 0 (drop n bytes))) ∙ sym (ap (after front) (filled_next item bytes x n some is up le)) ∙ so_far

-- Entries put into a table and the rest of the content give the same table after one more entry has been put.
pub goes_on_settled : (item : Judge Entry) (found : List Entry) (e : Entry) (n : ℕ) (bytes : List ℕ) (total : Result (List Entry) Fault)
    → 0 < length bytes → item bytes ≡ took e n → 0 < n → n ≤ length bytes
    → read_map (settled_on found) (filled item 0 bytes) ≡ total
    → read_map (settled_on (insert_entry (slice_cmp nat_cmp) found e.0 e.1)) (filled item 0 (drop n bytes)) ≡ total
goes_on_settled item found e n bytes total some is up le so_far =
    sym (settled_one found e (filled item 0 (drop n bytes))) ∙ sym (ap (read_map (settled_on found)) (filled_next item bytes e n some is up le)) ∙ so_far

-- Nothing is left of bytes after a place that is at or past their end.
pub none_left : (at : ℕ) (bytes : List ℕ) → length bytes ≤ at → drop at bytes ≡ []
none_left zero [] h = refl
none_left zero (b ∷ bytes) h = absurd (omega arith)
none_left (suc at) [] h = refl
none_left (suc at) (b ∷ bytes) h = none_left at bytes (omega arith)

-- Where nothing is left of some content, what is made of the rest is made of no items.
pub ends : {A B : Type 0} (item : Judge A) (f : List A → B) (at : ℕ) (bytes : List ℕ) (total : Result B Fault)
    → length bytes ≤ at → read_map f (filled item 0 (drop at bytes)) ≡ total → total ≡ Ok (f [])
unfolding filled
ends item f at bytes total h so_far = sym so_far ∙ ap (λ bs. read_map f (filled item 0 bs)) (none_left at bytes h)
