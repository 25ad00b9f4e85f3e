-- Where the parts of what was read lie.
use Rattle.std.proofs.Common.{◌≡◌, ◌⊎◌, inl, inr, ℕ, ◌≤◌, List, [], ◌∷◌, length, Option, Some, None, Result, Ok, Err, refl, sym, ap, subst, ◌∙◌}
use Rattle.std.proofs.lemmas.Bool.{cases_lt}
use Rattle.amqp_types.specs.Judging.{Fault, Judged, Judge, took, ◌>>=◌, IsBytes}
use Rattle.amqp_types.specs.Strings.{judge_long_string}
use Rattle.amqp_types.specs.Values.{FieldValue, bytes_value, array_value, table_value, long_string, byte_array, values_of, entries_of}
use Rattle.amqp_types.specs.ValueJudging.{took_all, read_map, filled, judge_entry, judge_array, judge_table, judge_behind}
use Rattle.amqp_types.specs.Settling.{settled}
use Rattle.amqp_types.specs.Tidiness.{used_by}
use Rattle.amqp_types.specs.declared.tag.FieldTag.{FieldTag}
use Rattle.amqp_types.specs.declared.tag.FieldTag.TheVariants as tag
use Rattle.amqp_canonical.specs.declared.values.Layout.{Layout}
use Rattle.amqp_canonical.specs.declared.values.Layout.TheVariants as layout
use Rattle.amqp_canonical.specs.Judgements.{layout_at}
use Rattle.amqp_canonical.specs.Writes.{IsRead}
use Rattle.amqp_canonical.proofs.AfterTag.{IsTaken, fixed_past, fixed_took}
use Rattle.amqp_canonical.proofs.ReadParts.{same_count}

-- ---- what has one size

-- what was read of one size is canonical
pub fixed_taken : (nest : Option (Judge FieldValue)) (t : FieldTag) (bytes : List ℕ) (n : ℕ) → IsBytes bytes
    → layout_at t ≡ layout.Fixed n → IsRead (judge_behind nest t bytes) → (n ≤ length bytes) × IsTaken bytes n (judge_behind nest t bytes)
fixed_taken nest t bytes n fits size h =
    elim (cases_lt (length bytes) n) [
      | inl short ↦ absurd (rw (fixed_past nest t bytes n size short) at h)
      | inr long ↦ (long, fixed_took nest t bytes n fits size long)
    ]

-- The count of bytes with which a value was taken is the count that decoding says.
pub used_taken : (bytes : List ℕ) (n : ℕ) (j : Judged FieldValue) → IsTaken bytes n j → n ≡ used_by j
used_taken bytes n j h = sym (ap (λ k. used_by k) h.1)

-- ---- which tags have such a layout

-- The tag of the layout of values is that of arrays.
pub is_array : (t : FieldTag) → layout_at t ≡ layout.Values → t ≡ tag.FieldArray
is_array tag.FieldArray is = refl
is_array _ is = absurd cc

-- The tag of the layout of entries is that of tables.
pub is_table : (t : FieldTag) → layout_at t ≡ layout.Entries → t ≡ tag.FieldTable
is_table tag.FieldTable is = refl
is_table _ is = absurd cc

-- After the tag of a boolean, a decoded value takes one byte.
pub boolean_used : (nest : Option (Judge FieldValue)) (t : FieldTag) (bytes : List ℕ)
    → layout_at t ≡ layout.OneBoolean → IsRead (judge_behind nest t bytes) → 1 ≡ used_by (judge_behind nest t bytes)
unfolding judge_behind
boolean_used nest tag.Boolean [] is h = absurd h
boolean_used nest tag.Boolean (b ∷ bytes) is h = refl
boolean_used nest _ bytes is h = absurd cc

-- ---- what has a length in front

-- the size is that of what the length covers
pub record HasLength (bytes : List ℕ) (j : Judged FieldValue) : Type 0 where
  pub read : IsRead (judge_long_string bytes)
  pub used : used_by (judge_long_string bytes) ≡ used_by j

made_length : {A : Type 0} (make : A → FieldValue) (bytes : List ℕ) (j : Judged A)
    → (IsRead j → IsRead (judge_long_string bytes) × (used_by (judge_long_string bytes) ≡ used_by j))
    → IsRead (j >>= λ x. took (make x.0) x.1) → HasLength bytes (j >>= λ x. took (make x.0) x.1)
made_length make bytes j long h =
    let made = same_count j (λ x. took (make x.0) x.1) (λ x n r. refl) h in
    let inner = long made.0 in
    record { read = inner.0; used = inner.1 ∙ made.1 }

whole_used : {A : Type 0} (n : ℕ) (r : Result A Fault) → IsRead (took_all n r) → n ≡ used_by (took_all n r)
whole_used n (Ok x) h = refl
whole_used n (Err bad) h = absurd h

array_length : (value : Judge FieldValue) (bytes : List ℕ) → IsRead (judge_array value bytes)
    → IsRead (judge_long_string bytes) × (used_by (judge_long_string bytes) ≡ used_by (judge_array value bytes))
unfolding judge_array
array_length value bytes = same_count (judge_long_string bytes) _ (λ c n. whole_used n (filled value 0 c))

-- A decoded table takes what a long string takes.
pub table_length : (value : Judge FieldValue) (bytes : List ℕ) → IsRead (judge_table value bytes)
    → IsRead (judge_long_string bytes) × (used_by (judge_long_string bytes) ≡ used_by (judge_table value bytes))
unfolding judge_table
table_length value bytes = same_count (judge_long_string bytes) _ (λ c n. whole_used n (read_map settled (filled (judge_entry value) 0 c)))

-- After the tag of a string, a byte array, an array or a table, a decoded value takes what a long string takes.
pub has_length : (nest : Option (Judge FieldValue)) (t : FieldTag) (bytes : List ℕ)
    → (layout_at t ≡ layout.Counted) ⊎ ((layout_at t ≡ layout.Values) ⊎ (layout_at t ≡ layout.Entries))
    → IsRead (judge_behind nest t bytes) → HasLength bytes (judge_behind nest t bytes)
unfolding judge_behind
has_length nest tag.LongString bytes is h = made_length (bytes_value long_string) bytes (judge_long_string bytes) (λ r. (r, refl)) h
has_length nest tag.ByteArray bytes is h = made_length (bytes_value byte_array) bytes (judge_long_string bytes) (λ r. (r, refl)) h
has_length (Some value) tag.FieldArray bytes is h = made_length (λ vs. array_value (values_of vs)) bytes (judge_array value bytes) (array_length value bytes) h
has_length (Some value) tag.FieldTable bytes is h = made_length (λ es. table_value (entries_of es)) bytes (judge_table value bytes) (table_length value bytes) h
has_length None tag.FieldArray bytes is h = absurd h
has_length None tag.FieldTable bytes is h = absurd h
has_length nest t bytes (inl is) h = absurd cc
has_length nest t bytes (inr (inl is)) h = absurd cc
has_length nest t bytes (inr (inr is)) h = absurd cc

-- the layouts that have a length in front
pub long_at : (nest : Option (Judge FieldValue)) (t : FieldTag) (bytes : List ℕ) (l : Layout) → l ≡ layout_at t
    → (l ≡ layout.Counted) ⊎ ((l ≡ layout.Values) ⊎ (l ≡ layout.Entries)) → IsRead (judge_behind nest t bytes) → HasLength bytes (judge_behind nest t bytes)
long_at nest t bytes l is one = has_length nest t bytes (subst (λ (k : Layout). (k ≡ layout.Counted) ⊎ ((k ≡ layout.Values) ⊎ (k ≡ layout.Entries))) is one)
